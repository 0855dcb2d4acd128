-- Each journal and buffer has exactly one answer, and one buffer after it, each way.
use Prim.Native.Nat.{ℕ, ◌+◌}
use mathlib.Core.{Path.{◌≡◌, refl, ap₂, subst}, List.List, Logic.{inl, inr}}
use lib.ListN.{length, get_or}
use Rattle.protocol.specs.{Buffers.Bytes, Run.Entry, declared.Opening.Opening as Sizes}
use Rattle.spelling.{specs.One.One, proofs.Decide.{Told, same_number}}
use Rattle.std.specs.Prelude.{Some, None, Result, Ok, Err}
use Rattle.grammar.specs.declared.Refusal.{Refusal, TheVariants.{NoForm, NotNumber}}
use Rattle.journal.{specs.{Journal.{Next, NextOf}, declared.Item.TheVariants.{Opening, Step}}, proofs.OneNext.one_next_theorem}
use Rattle.driver.{specs.Listing.{Ending, ended, stopped}, proofs.Reading.known}
use Rattle.playing.{specs.Listing.ReadAs, proofs.OneReading.{same_next, reads_same, one_reading_theorem}}
use Rattle.convert.specs.Conversion.{form_from, OtherFirst, first_line, other_form, later_line, answer_of, buffer_of, Converts, malformed, reads}
use Rattle.convert.specs.declared.To.{To}
use Rattle.convert.proofs.FirstLine.{is_twelve, other_digit, other_named, own_named, opens_as, refused_own, wrong_other}
use Rattle.converting.specs.Theorems.{Left, OneConversionTheorem}

-- an answer and a buffer
abbrev left : Result ℕ Refusal → Bytes → Left
left a b = record { answer = a; buffer = b }

module _ (to : To) (j old : Bytes) where
  -- ---- there is no other

  -- what is left where the first line has the form to convert from: by the opening, the steps, and how the journal ends
  abbrev whole : Sizes → List Entry → Ending → Left
  whole o gs ended = left (answer_of to o gs (length old)) (buffer_of to o gs old)
  whole o gs (stopped r) = left (Err r) old

  -- the first line is of another form than the one to convert from
  abbrev Other : Type 0
  Other = OtherFirst (form_from to) j

  -- what is left, by the answer at the journal's start
  data From : Next → Left → Type 0 where
    refused_first : {r : Refusal} → (Other → ⊥) → From (Err r) (left (Err r) old)
    other : {b : Next} → Other → From b (left (Err NoForm) old)
    opens : {form : ℕ} {o : Sizes} {next : ℕ} {gs : List Entry} {e : Ending} → form ≡ form_from to → (Other → ⊥) → ReadAs j (form_from to) next gs e
        → From (Ok (Some (Opening form o next))) (whole o gs e)

  -- one answer at the start leaves one thing
  from_same : {b : Next} {x y : Left} → From b x → From b y → x ≡ y
  from_same (refused_first n) (refused_first k) = refl
  from_same (refused_first n) (other o) = absurd (n o)
  from_same (other o) (refused_first n) = absurd (n o)
  from_same (other o) (other p) = refl
  from_same (other o) (opens f n r) = absurd (n o)
  from_same (opens f n r) (other o) = absurd (n o)
  from_same (opens {o = o} f n r) (opens g k t) = let s = reads_same r t in ap₂ (whole o) s.0 s.1

  -- all that converting leaves is left by the answer at the journal's start
  record Start (x : Left) : Type 0 where
    pub next : Next
    pub there : NextOf j 0 0 next
    pub from : From next x

  -- a first line of the form to convert from, and how the journal is read from there on
  start_opens :
      {o : Sizes} {next : ℕ} {gs : List Entry} {e : Ending} → NextOf j 0 0 (Ok (Some (Opening (form_from to) o next))) → ReadAs j (form_from to) next gs e
      → Start (whole o gs e)
  start_opens x r = record { next = _; there = x; from = opens refl (own_named (form_from to) x) r }

  start : {a : Result ℕ Refusal} {b : Bytes} → Converts to j old a b → Start (left a b)
  start (malformed (first_line x n)) = record { next = _; there = x; from = refused_first n }
  start (malformed (other_form o)) = record { next = _; there = (one_next_theorem j 0 0).holds; from = other o }
  start (malformed (later_line {to = at} x s e)) = start_opens x (record { to = at; steps = s; ends = e })
  start (reads r) = start_opens r.first (record { to = r.to; steps = r.steps; ends = r.ends })

  -- two that meet the definition are the same
  converts_same : {a c : Result ℕ Refusal} {b d : Bytes} → Converts to j old a b → Converts to j old c d → left a b ≡ left c d
  converts_same {c = c} {d = d} x y =
      let s = start x in
      let t = start y in
      from_same s.from (subst (λ (n : Next). From n (left c d)) (same_next t.there s.there) t.from)

  -- ---- there is one

  -- what is found is the only one
  abbrev Only : Type 0
  Only = One (λ (x : Left). Converts to j old x.answer x.buffer)

  only_one : {a : Result ℕ Refusal} {b : Bytes} → Converts to j old a b → Only
  only_one {a} {b} x = record { answer = left a b; holds = x; only = λ y c. converts_same c x }

  -- by how the journal ends, and by the answer at its start
  by_ending : {o : Sizes} {next : ℕ} {gs : List Entry} (e : Ending) → NextOf j 0 0 (Ok (Some (Opening (form_from to) o next))) → ReadAs j (form_from to) next gs e → Only
  by_ending ended x r = only_one (reads (record { next = _; to = r.to; first = x; steps = r.steps; ends = r.ends }))
  by_ending (stopped n) x r = only_one (malformed (later_line x r.steps r.ends))

  by_start : (b : Next) → NextOf j 0 0 b → Only
  by_start (Ok (Some (Opening form o next))) x = go (same_number form (form_from to))
    where
      go : Told (form ≡ form_from to) → Only
      go (inl e) =
          let y = opens_as e x in
          let r = one_reading_theorem j (form_from to) next (known y).1 in
          by_ending r.ending y r.holds
      go (inr n) = only_one (malformed (other_form (other_named (form_from to) x n)))
  by_start (Ok (Some (Step call start end next))) x = absurd ((known x).0 refl)
  by_start (Ok None) x = absurd (known x refl)
  by_start (Err r) x = go (is_twelve r) (same_number (get_or j 7 0) (48 + form_from to))
    where
      go : Told (r ≡ NotNumber) → Told (get_or j 7 0 ≡ 48 + form_from to) → Only
      go (inr k) d = only_one (malformed (first_line x (refused_own (form_from to) x k)))
      go (inl e) (inl d) = only_one (malformed (first_line x (λ o. (other_digit (form_from to) o).1 d)))
      go (inl e) (inr k) = only_one (malformed (other_form (wrong_other (form_from to) x e k)))

pub one_conversion_theorem : OneConversionTheorem
one_conversion_theorem to j old = by_start to j old (one_next_theorem j 0 0).answer (one_next_theorem j 0 0).holds
