-- The loop over the lines of a journal: what holds at its head, that each line keeps it, and what it gives where the loop is left.
use Prim.Native.Nat.{ℕ, ◌-◌, ◌/◌, ◌≤◌, ◌<◌}
use mathlib.Core.{Path.{◌≡◌, refl, sym, ◌∙◌, ap, subst}, Bool.{Bool, true, false}, List.{List, [], ◌∷◌, ◌++◌}}
use native.Mathlib.Omega.{arith}
use lib.{Dec.{ltb, leb}, ListN.{length, take, drop, length-append}}
use borrow.Author.Tests.{lt-ltb, le-ltb, leb-true, leb-false}
use Rattle.protocol.specs.{Pick.{pick, both, first}, Limits.{most_cores, most_lines, opening_fits}, Fresh.fresh_state, Buffers.{Bytes, part}}
use Rattle.protocol.specs.{About.about, Given.{bytes_given}}
use Rattle.protocol.specs.Machine.{Machine, written, applied}
use Rattle.protocol.specs.{Refusals.{machine_refusal, call_rules, call_refusal}, Step.{meaning, Outcome, accepted, step}, Run.{Entry, run}}
use Rattle.protocol.specs.declared.{Opening.Opening as Sizes, State.State, About.About, Effect.Effect}
use Rattle.protocol.specs.declared.Answer.{Answer, TheVariants.{Refused as RefusedWith, Done, Commit}}
use Rattle.protocol.specs.declared.Call.{Call, TheVariants.{Load, Store, Fence, Evict, Drop, Writeback, Advance, Serve, Receive, Yield, Take, Victim}}
use Rattle.protocol.specs.declared.Which.{Which, TheVariants.{Named as NamedLine, Asked, Answered, Nothing, Victim as OfVictim}}
use Rattle.protocol.proofs.{Tests.never, Keep.still, Extents.inside}
use Rattle.refusals.specs.Input.{input_refusal, applies}
use Rattle.tables.{specs.{declared.seen.Seen.Seen, Found.{effect_with}, Look.looks_over, Seen.{core_seen, line_seen, pieces_seen, Sees}}, proofs.Making.{found_there, is_step}}
use Rattle.spelling.specs.Text.{text}
use Rattle.grammar.specs.Form.{lay, spellings}
use Rattle.std.specs.{Prelude.{Option, Some, None, is_some, Result, Ok, Err}, Option.option_or}
use Rattle.grammar.specs.declared.Refusal.{Refusal, TheVariants.{TooMuch, Unlike}}
use Rattle.journal.specs.{Journal.{NextOf}, declared.Item.TheVariants.{Opening, Step}}
use Rattle.driver.{specs.Listing.{Between, no_line, a_line, at_end, at_refusal}, proofs.{Reading.known, Running.{steps_append}}}
use Rattle.convert.specs.{Spelling.{step_line, step_lines}, Forms.{owns_copy, in_form, converted}}
use Rattle.convert.specs.Conversion.{form_from, Reads, later_line, is_victim, answers, is_unlike, unlike, result_of, most_bytes, refusal_of, answer_by}
use Rattle.convert.specs.Writing.{Holds, Appends, change_of_evict, change_of, changed, skip_of, owns_with, refuses, victim_refusal, unlike_answer, opening_refusal, FirstWritten, Writes, malformed, reads, last_answer}
use Rattle.convert.specs.declared.{text.Text.Text, To.{To, TheVariants.{First, Second}}, Change.TheVariants.{FromDrop, FromWriteback}}
use Rattle.convert.proofs.Appending.{holds_end, holds_past, holds_more, holds_same}
use Rattle.convert.proofs.Lines.{StepAt, step_at, opening_cap, line_part}
use Rattle.convert.proofs.Longer.{after, more, after_more, newest, result_more, refusal_so_far, passed, Passed, so_far_passed, so_far, so_far_none, unlike_now, like_still, so_far_still, fresh_fits, like_cap}

-- the form of the journal that is converted is one
pub form_named : (to : To) → form_from to ≡ 0 → ⊥
form_named First e = omega arith
form_named Second e = omega arith

-- where a refusal was looked for, and none found
pub none_found : (n : Option Refusal) → false ≡ is_some n → n ≡ None
none_found None e = refl
none_found (Some r) e = never (sym e)

-- where none was found so far, nor by the line
pub none_before : (n v : Option Refusal) {k : Option Refusal} → k ≡ option_or n v → false ≡ is_some k → n ≡ None
none_before None v e h = refl
none_before (Some r) v e h = never (sym (h ∙ ap is_some e))

pub none_of_line : (n v : Option Refusal) {k : Option Refusal} → k ≡ option_or n v → false ≡ is_some k → v ≡ None
none_of_line None v e h = none_found v (h ∙ ap is_some e)
none_of_line (Some r) v e h = never (sym (h ∙ ap is_some e))

-- ---- a core's copies

-- a call that is not about a victim does not look over its core's copies, where cap is lines
pub not_over : (w : Which) (o : Sizes) → o.cap ≡ o.lines → is_victim w ≡ false → looks_over w o ≡ false
not_over (NamedLine l) o e h = refl
not_over Asked o e h = refl
not_over Answered o e h = rw e (le-ltb o.lines o.lines (omega arith))
not_over Nothing o e h = refl
not_over OfVictim o e h = never h

-- ---- what holds at the loop's head

-- where neither 7 nor 32 applies: the state is the one after the steps, and their lines are written in the other form
pub record Good (to : To) (o : Sizes) (gs : List Entry) (s : State) (out : Text) : Type 0 where
  pub state : (after o gs).state ≡ s
  pub opening : s.opening ≡ o
  pub fit : machine_refusal (after o gs) ≡ 0
  pub text : Holds out (result_of to o gs)

-- the lines up to an offset spell the steps gs, and n is the first of 7 and 32 that applies so far
pub record Reached (to : To) (j : Bytes) (o : Sizes) (from at : ℕ) (s : State) (out : Text) (n : Option Refusal) : Type 0 where
  pub first : NextOf j 0 0 (Ok (Some (Opening (form_from to) o from)))
  pub gs : List Entry
  pub steps : Between j (form_from to) from gs at
  pub number : n ≡ refusal_so_far to o gs
  pub good : n ≡ None → Good to o gs s out

-- before the first step
pub reached_start :
    (to : To) (j : Bytes) (o : Sizes) (from : ℕ) (s : State) (out : Text) (n : Option Refusal) → FirstWritten to j o from out → s ≡ fresh_state o
    → n ≡ opening_refusal to o → Reached to j o from from s out n
unfolding run converted step_lines
reached_start to j o from s out n f es en =
    record {
      first = f.first;
      gs = [];
      steps = no_line;
      number = en ∙ so_far_none to o;
      good = λ z.
          let p = so_far_passed to o [] (sym (en ∙ so_far_none to o) ∙ z) in
          record { state = sym es; opening = rw es refl; fit = fresh_fits o p.fits; text = f.text };
    }

module _ {to : To} {j : Bytes} {o : Sizes} {from at : ℕ} {s : State} {out : Text} {n : Option Refusal} (g : Reached to j o from at s out n) where
  -- ---- the loop is left

  -- a line is malformed
  pub later_line_lem : {k : Refusal} → NextOf j at (form_from to) (Err k) → Writes to j out.bytes (Err k)
  later_line_lem x = malformed (later_line g.first g.steps (at_refusal x))

  -- the journal ends
  whole : NextOf j at (form_from to) (Ok None) → Reads (form_from to) j o g.gs
  whole x = record { next = from; to = at; first = g.first; steps = g.steps; ends = at_end x }

  -- 7 or 32 applies
  refused_answer : (n ≡ None → ⊥) → refusal_of to o g.gs most_bytes ≡ n
  unfolding refusal_of refusal_so_far
  refused_answer h = go (opening_fits o) refl (unlike to o g.gs) refl
    where
      go : (a : Bool) → opening_fits o ≡ a → (b : Bool) → unlike to o g.gs ≡ b → refusal_of to o g.gs most_bytes ≡ n
      go false e b f = rw e (sym (rw e at g.number))
      go true e true f = rw (e, f) (sym (rw (e, f) at g.number))
      go true e false f = absurd (h (rw (e, f) at g.number))

  -- neither does
  module _ (z : n ≡ None) where
    passes : Passed to o g.gs
    passes = so_far_passed to o g.gs (sym g.number ∙ z)

    room_answer : length (result_of to o g.gs) ≤ most_bytes → refusal_of to o g.gs most_bytes ≡ None
    unfolding refusal_of
    room_answer h = rw (passes.fits, passes.like, le-ltb most_bytes (length (result_of to o g.gs)) h) refl

    long_answer : most_bytes < length (result_of to o g.gs) → refusal_of to o g.gs most_bytes ≡ Some TooMuch
    unfolding refusal_of
    long_answer h = rw (passes.fits, passes.like, lt-ltb most_bytes (length (result_of to o g.gs)) h) refl

  -- the last answer is the definition's
  pub ends_with : NextOf j at (form_from to) (Ok None) → {r : Result ℕ Refusal} → r ≡ last_answer n out.end → Writes to j out.bytes r
  ends_with x {r} e = go n refl
    where
      size_of : ℕ
      size_of = length (result_of to o g.gs)

      -- the answer by its refusal, or none, and the text where there is none
      answers_with : {k : Option Refusal} → refusal_of to o g.gs most_bytes ≡ k → r ≡ answer_by k size_of
          → (k ≡ None → take size_of out.bytes ≡ result_of to o g.gs) → Writes to j out.bytes r
      answers_with {k} i q t =
          subst (Writes to j out.bytes) (sym (q ∙ ap (λ (m : Option Refusal). answer_by m size_of) (sym i)))
          (reads (whole x) (λ z. t (sym i ∙ z)))

      fits : (z : n ≡ None) → (b : Bool) → leb size_of most_bytes ≡ b → Writes to j out.bytes r
      fits z true h =
          let t = (g.good z).text in
          let k : size_of ≤ most_bytes = leb-true _ _ h in
          let u : out.end ≡ Some size_of = holds_end t k in
          answers_with (room_answer z k) (e ∙ rw (z, u) refl) (λ i. t.text k)
      fits z false h =
          let k : most_bytes < size_of = leb-false _ _ h in
          let u : out.end ≡ None = holds_past (g.good z).text k in
          answers_with (long_answer z k) (e ∙ rw (z, u) refl) (λ i. absurd (let z : ◌≡◌ {A = ℕ} 0 1 = cc in omega arith))

      go : (k : Option Refusal) → n ≡ k → Writes to j out.bytes r
      go None z = fits z (leb size_of most_bytes) refl
      go (Some k) z =
          let h : n ≡ None → ⊥ = λ i. let q : ◌≡◌ {A = ℕ} 0 1 = cc in omega arith in
          answers_with (refused_answer h ∙ z) (e ∙ ap (λ (m : Option Refusal). last_answer m out.end) z) (λ i. absurd (h (z ∙ i)))

  -- ---- a line more

  module _ {call : Call} {start end next : ℕ} (x : NextOf j at (form_from to) (Ok (Some (Step call start end next)))) where
    abbrev digits : Bytes
    digits = part j start (end - start)

    steps_more : Between j (form_from to) from (more g.gs call digits) next
    steps_more = steps_append g.steps (a_line x no_line)

    -- it is only read, where 7 or 32 applies
    pub passed_over : (n ≡ None → ⊥) → Reached to j o from next s out n
    passed_over h =
        record {
          first = g.first;
          gs = more g.gs call digits;
          steps = steps_more;
          number = g.number ∙ so_far_still o g.gs call digits to (λ z. h (g.number ∙ z));
          good = λ z. absurd (h z);
        }

    -- it is a victim step, which form 1 can't have
    victim_made : n ≡ None → to ≡ First → is_victim (about call).line ≡ true → Reached to j o from next s out (Some Unlike)
    victim_made z i v =
        let more_steps = more g.gs call digits in
        let now = ap (λ (t : To). unlike t o more_steps) i ∙ unlike_now o g.gs call digits (rw v refl) in
        record {
          first = g.first;
          gs = more_steps;
          steps = steps_more;
          number = sym (so_far to o more_steps true (passes z).fits now);
          good = λ y. absurd (let q : ◌≡◌ {A = ℕ} 0 1 = cc in omega arith);
        }

    -- it is only read, where 7 or 32 applies so far, or 32 by its line alone
    pub refused_by_line :
        {w : About} {k : Option Refusal} → w ≡ about call → k ≡ option_or n (victim_refusal to w.line) → (k ≡ None → ⊥) → Reached to j o from next s out k
    refused_by_line {w} {k} ew e h = go n refl to refl
      where
        by_victim : (b : Bool) → is_victim w.line ≡ b → n ≡ None → to ≡ First → Reached to j o from next s out k
        by_victim true v z i =
            subst (Reached to j o from next s out) (sym (e ∙ rw (z, i, v) refl)) (victim_made z i (ap (λ (y : About). is_victim y.line) (sym ew) ∙ v))
        by_victim false v z i = absurd (h (e ∙ rw (z, i, v) refl))

        go : (m : Option Refusal) → n ≡ m → (t : To) → to ≡ t → Reached to j o from next s out k
        go (Some r) z t i =
            subst (Reached to j o from next s out) (z ∙ sym (e ∙ ap (λ (m : Option Refusal). option_or m (victim_refusal to w.line)) z))
            (passed_over (λ y. let q : ◌≡◌ {A = ℕ} 0 1 = cc in omega arith))
        go None z Second i = absurd (h (e ∙ rw (z, i) refl))
        go None z First i = by_victim (is_victim w.line) refl z i

    -- it is not about a victim, where 32 does not apply by its line: form 1 has no such step
    not_victim : {w : About} → w ≡ about call → victim_refusal to w.line ≡ None → is_victim w.line ≡ false
    not_victim {w} ew v = go to refl
      where
        go : (t : To) → to ≡ t → is_victim w.line ≡ false
        go Second e = rw ew ((step_at (form_from to) (form_named to) x).spelt.plain (ap form_from e))
        go First e = (passed (is_victim w.line) Unlike None (subst (λ (t : To). victim_refusal t w.line ≡ None) e v)).0

    -- cap is lines, where 32 does not apply so far: a first line of form 1 has no other
    lines_cap : n ≡ None → (t : To) → to ≡ t → o.cap ≡ o.lines
    lines_cap z Second e = opening_cap (subst (λ (t : To). NextOf j 0 0 (Ok (Some (Opening (form_from t) o from)))) e g.first)
    lines_cap z First e = like_cap o g.gs (subst (λ (t : To). unlike t o g.gs ≡ false) e (passes z).like)

    -- so its call looks no copies over
    pub unseen : {w : About} → w ≡ about call → n ≡ None → victim_refusal to w.line ≡ None → looks_over (about call).line s.opening ≡ false
    unseen {w} ew z v = rw ((g.good z).opening, ← ew) (not_over w.line o (lines_cap z to refl) (not_victim ew v))

-- ---- a line in the other form

-- whether a core owns the copy that an evict is about
abbrev EvictOwns : State → Call → Bool → Type 0
EvictOwns s (Load c l) b = Unit
EvictOwns s (Store g c l) b = Unit
EvictOwns s (Fence c) b = Unit
EvictOwns s (Evict c l) b = b ≡ owns_copy s c l
EvictOwns s (Drop c l) b = Unit
EvictOwns s (Writeback c l) b = Unit
EvictOwns s (Advance c by) b = Unit
EvictOwns s (Serve c) b = Unit
EvictOwns s (Receive c) b = Unit
EvictOwns s (Yield l) b = Unit
EvictOwns s (Take l) b = Unit
EvictOwns s (Victim c) b = Unit

-- a line with its newline
abbrev ended_line : Call → Bytes → Bytes
ended_line call ds = step_line call ds ++ (10 ∷ [])

evict_changed : (b : Bool) (c l : ℕ) (ds : Bytes) → changed (change_of Second (Evict c l) b) (ended_line (Evict c l) ds) ≡ ended_line (pick b (Writeback c l) (Drop c l)) ds
unfolding lay spellings
evict_changed true c l ds = refl
evict_changed false c l ds = refl

drop_changed : (c l : ℕ) (ds : Bytes) → changed FromDrop (ended_line (Drop c l) ds) ≡ ended_line (Evict c l) ds
unfolding lay spellings
drop_changed c l ds = refl

writeback_changed : (c l : ℕ) (ds : Bytes) → changed FromWriteback (ended_line (Writeback c l) ds) ≡ ended_line (Evict c l) ds
unfolding lay spellings
writeback_changed c l ds = refl

-- the changed line is the line of the call in the other form
line_changed : (to : To) (s : State) (call : Call) (ds : Bytes) (b : Bool) → EvictOwns s call b → changed (change_of to call b) (ended_line call ds) ≡ ended_line (in_form to s call) ds
line_changed First s (Load c l) ds b h = refl
line_changed First s (Store g c l) ds b h = refl
line_changed First s (Fence c) ds b h = refl
line_changed First s (Evict c l) ds b h = refl
line_changed First s (Drop c l) ds b h = drop_changed c l ds
line_changed First s (Writeback c l) ds b h = writeback_changed c l ds
line_changed First s (Advance c by) ds b h = refl
line_changed First s (Serve c) ds b h = refl
line_changed First s (Receive c) ds b h = refl
line_changed First s (Yield l) ds b h = refl
line_changed First s (Take l) ds b h = refl
line_changed First s (Victim c) ds b h = refl
line_changed Second s (Load c l) ds b h = refl
line_changed Second s (Store g c l) ds b h = refl
line_changed Second s (Fence c) ds b h = refl
line_changed Second s (Evict c l) ds b h = rw h (evict_changed (owns_copy s c l) c l ds)
line_changed Second s (Drop c l) ds b h = refl
line_changed Second s (Writeback c l) ds b h = refl
line_changed Second s (Advance c by) ds b h = refl
line_changed Second s (Serve c) ds b h = refl
line_changed Second s (Receive c) ds b h = refl
line_changed Second s (Yield l) ds b h = refl
line_changed Second s (Take l) ds b h = refl
line_changed Second s (Victim c) ds b h = refl

-- a line is its kind and what is behind it, and so no shorter than its kind
behind : (kind rest : Bytes) {line : Bytes} → line ≡ kind ++ rest → length kind ≤ length line
behind kind rest e = rw (e, length-append kind rest) (omega arith)

evict_kind : (c l : ℕ) (ds : Bytes) → ended_line (Evict c l) ds ≡ text "op=evict" ++ drop 8 (ended_line (Evict c l) ds)
unfolding lay spellings
evict_kind c l ds = refl

drop_kind : (c l : ℕ) (ds : Bytes) → ended_line (Drop c l) ds ≡ text "op=drop" ++ drop 7 (ended_line (Drop c l) ds)
unfolding lay spellings
drop_kind c l ds = refl

writeback_kind : (c l : ℕ) (ds : Bytes) → ended_line (Writeback c l) ds ≡ text "op=writeback" ++ drop 12 (ended_line (Writeback c l) ds)
unfolding lay spellings
writeback_kind c l ds = refl

evict_skip : (b : Bool) → skip_of (change_of_evict b) ≡ 8
evict_skip true = refl
evict_skip false = refl

line_skip : (to : To) (call : Call) (ds : Bytes) (b : Bool) → skip_of (change_of to call b) ≤ length (ended_line call ds)
line_skip First (Load c l) ds b = omega arith
line_skip First (Store g c l) ds b = omega arith
line_skip First (Fence c) ds b = omega arith
line_skip First (Evict c l) ds b = omega arith
line_skip First (Drop c l) ds b = behind (text "op=drop") _ (drop_kind c l ds)
line_skip First (Writeback c l) ds b = behind (text "op=writeback") _ (writeback_kind c l ds)
line_skip First (Advance c by) ds b = omega arith
line_skip First (Serve c) ds b = omega arith
line_skip First (Receive c) ds b = omega arith
line_skip First (Yield l) ds b = omega arith
line_skip First (Take l) ds b = omega arith
line_skip First (Victim c) ds b = omega arith
line_skip Second (Load c l) ds b = omega arith
line_skip Second (Store g c l) ds b = omega arith
line_skip Second (Fence c) ds b = omega arith
line_skip Second (Evict c l) ds b = rw (evict_skip b) (behind (text "op=evict") _ (evict_kind c l ds))
line_skip Second (Drop c l) ds b = omega arith
line_skip Second (Writeback c l) ds b = omega arith
line_skip Second (Advance c by) ds b = omega arith
line_skip Second (Serve c) ds b = omega arith
line_skip Second (Receive c) ds b = omega arith
line_skip Second (Yield l) ds b = omega arith
line_skip Second (Take l) ds b = omega arith
line_skip Second (Victim c) ds b = omega arith

-- ---- whether a core owns the copy that an evict is about

-- an evict that is not refused by 3 or 4 is about its core and its line
module _ (o : Sizes) (s : State) (es : s.opening ≡ o) (fits : opening_fits o ≡ true) where
  evict_owns :
      (c l n : ℕ) {k : Option ℕ} {y : Seen} → k ≡ applies (call_refusal (Evict c l) o n) → Sees (Evict c l) s y
      → owns_with k y.pieces.copy ≡ owns_copy s c l
  unfolding call_refusal call_rules first core_seen line_seen pieces_seen
  evict_owns c l n {k} {y} ek f = go (leb o.cores c) refl (leb o.lines l) refl
    where
      never_both : (b : Bool) → both b false ≡ false
      never_both true = refl
      never_both false = refl

      go : (a : Bool) → leb o.cores c ≡ a → (b : Bool) → leb o.lines l ≡ b → owns_with k y.pieces.copy ≡ owns_copy s c l
      go true p b q = let z : k ≡ Some 3 = ek ∙ rw p refl in rw (z, es, le-ltb c o.cores (leb-true _ _ p)) refl
      go false p true q = let z : k ≡ Some 4 = ek ∙ rw (p, q) refl in rw (z, es, le-ltb l o.lines (leb-true _ _ q)) (sym (never_both (ltb c o.cores)))
      go false p false q =
          let z : k ≡ None = ek ∙ rw (p, q) refl in
          let b = inside o fits in
          let c-in = leb-false _ _ p in
          let l-in = leb-false _ _ q in
          rw (z, f.pieces, es, found_there c o.cores most_cores c-in b.most_cores, found_there l o.lines most_lines l-in b.most_lines, lt-ltb _ _ c-in, lt-ltb _ _ l-in) refl

  -- for every call
  owns_right : (call : Call) (n : ℕ) {k : Option ℕ} {y : Seen} → k ≡ applies (call_refusal call o n) → Sees call s y → EvictOwns s call (owns_with k y.pieces.copy)
  owns_right (Load c l) n e f = tt
  owns_right (Store g c l) n e f = tt
  owns_right (Fence c) n e f = tt
  owns_right (Evict c l) n e f = evict_owns c l n e f
  owns_right (Drop c l) n e f = tt
  owns_right (Writeback c l) n e f = tt
  owns_right (Advance c by) n e f = tt
  owns_right (Serve c) n e f = tt
  owns_right (Receive c) n e f = tt
  owns_right (Yield l) n e f = tt
  owns_right (Take l) n e f = tt
  owns_right (Victim c) n e f = tt

-- ---- a step

-- what is refused is refused in the scope document's terms
answers_refuses : (n : ℕ) (a : Answer) (bytes : Bytes) → answers n (meaning a bytes) ≡ refuses n a
unfolding meaning
answers_refuses n (RefusedWith k) bytes = refl
answers_refuses n (Done d) bytes = refl
answers_refuses n (Commit c t k) bytes = refl

-- the law of one call, for what is seen of the machine's state
step_seen : (m : Machine) (call : Call) (given : Bytes) {k : Option ℕ} {y : Seen} {d : Effect}
    → k ≡ applies (input_refusal m call given) → Sees call m.state y → d ≡ effect_with k call y.pieces m.state.opening
    → step m call given ≡ accepted m call (bytes_given call given) y.core y.pieces.number d
unfolding pieces_seen
step_seen m call given ek f ed =
    let e = rw (ek, f.pieces) at ed in
    rw (e, f.core, f.pieces) (is_step m call given _ refl)

-- the step of a line, where neither 7 nor 32 applies so far: k is the first of 3 to 6 that applies, y is what its call sees, and d the effect on that
pub record StepInPlace (to : To) (j : Bytes) (o : Sizes) (from : ℕ) : Type 0 where
  pub at : ℕ
  pub s : State
  pub out : Text
  pub n : Option Refusal
  pub call : Call
  pub start : ℕ
  pub end : ℕ
  pub next : ℕ
  pub w : About
  pub k : Option ℕ
  pub y : Seen
  pub d : Effect
  pub reached : Reached to j o from at s out n
  pub none : n ≡ None
  pub plain : victim_refusal to w.line ≡ None
  pub line : NextOf j at (form_from to) (Ok (Some (Step call start end next)))
  pub about : w ≡ about call
  pub number : k ≡ applies (call_refusal call o ((end - start) / 2))
  pub sees : Sees call s y
  pub effect : d ≡ effect_with k call y.pieces o

module _ {to : To} {j : Bytes} {o : Sizes} {from : ℕ} (x : StepInPlace to j o from) where
  abbrev gs : List Entry
  gs = x.reached.gs

  abbrev m : Machine
  m = after o gs

  -- what is given to it
  abbrev given : Bytes
  given = part j x.start (x.end - x.start)

  good : Good to o gs x.s x.out
  good = x.reached.good x.none

  passes_so_far : Passed to o gs
  passes_so_far = so_far_passed to o gs (sym x.reached.number ∙ x.none)

  spelt : StepAt j x.at (form_from to) x.call x.start x.end x.next
  spelt = step_at (form_from to) (form_named to) x.line

  opening_is : m.state.opening ≡ o
  opening_is = ap (λ (t : State). t.opening) good.state ∙ good.opening

  input : x.k ≡ applies (input_refusal m x.call given)
  input = let r = (known x.line).1 in rw (r.right, good.fit, opening_is, r.count) x.number

  -- ---- what the step makes

  step_is : step m x.call given ≡ accepted m x.call (bytes_given x.call given) x.y.core x.y.pieces.number x.d
  step_is =
      step_seen m x.call given input (subst (λ (t : State). Sees x.call t x.y) (sym good.state) x.sees)
      (subst (λ (q : Sizes). x.d ≡ effect_with x.k x.call x.y.pieces q) (sym opening_is) x.effect)

  state_is : (step m x.call given).machine.state ≡ written x.s x.y.core x.y.pieces.number x.d
  unfolding accepted applied
  state_is = ap (λ (z : Outcome). z.machine.state) step_is ∙ rw good.state refl

  answer_is : answers 30 (step m x.call given).reply ≡ refuses 30 x.d.answer
  unfolding accepted
  answer_is = ap (λ (z : Outcome). answers 30 z.reply) step_is ∙ answers_refuses 30 x.d.answer _

  -- ---- 32

  no_victim : is_victim x.w.line ≡ false
  no_victim = not_victim x.reached x.line x.about x.plain

  -- the records say what the step's answer says
  unlike_is : is_unlike (newest o gs x.call given) ≡ refuses 30 x.d.answer
  unlike_is = rw (← x.about, no_victim) answer_is

  -- the step is one that form 1 can't have
  pub unlike_made : unlike_answer to x.d.answer ≡ true → Reached to j o from x.next x.s x.out (Some Unlike)
  unlike_made h =
      record {
        first = x.reached.first;
        gs = more gs x.call given;
        steps = steps_more x.reached x.line;
        number = sym (so_far to o (more gs x.call given) true passes_so_far.fits (now to refl h));
        good = λ z. absurd (let q : ◌≡◌ {A = ℕ} 0 1 = cc in omega arith);
      }
    where
      now : (t : To) → to ≡ t → unlike_answer t x.d.answer ≡ true → unlike to o (more gs x.call given) ≡ true
      now Second e i = never (sym i)
      now First e i = ap (λ (t : To). unlike t o (more gs x.call given)) e ∙ unlike_now o gs x.call given (unlike_is ∙ i)

  -- ---- the step is made

  module _ (h : unlike_answer to x.d.answer ≡ false) where
    -- it does not answer 30 where form 1 can't have that
    still_like : (t : To) → to ≡ t → unlike to o (more gs x.call given) ≡ false
    unfolding unlike
    still_like Second e = ap (λ (t : To). unlike t o (more gs x.call given)) e
    still_like First e =
        let q = subst (λ (t : To). unlike t o gs ≡ false) e passes_so_far.like in
        let i : refuses 30 x.d.answer ≡ false = subst (λ (t : To). unlike_answer t x.d.answer ≡ false) e h in
        ap (λ (t : To). unlike t o (more gs x.call given)) e ∙ like_still o gs x.call given (unlike_is ∙ i) ∙ q

    -- its line, as it is in the journal
    line_is : part j x.at (x.next - x.at) ≡ ended_line x.call given
    line_is = line_part spelt.placed ∙ ap (λ (t : Bytes). t ++ (10 ∷ [])) spelt.spelt.line

    module _ (b : Bool) (eb : b ≡ owns_with x.k x.y.pieces.copy) where
      -- it is longer than the kind that it loses
      pub skips : skip_of (change_of to x.call b) ≤ length (part j x.at (x.next - x.at))
      skips = rw line_is (line_skip to x.call given b)

      owns_is : EvictOwns x.s x.call b
      owns_is =
          rw eb (owns_right o x.s good.opening passes_so_far.fits x.call _ x.number x.sees)

      pub step_made :
          {new : Text} {k : Option Refusal} → Appends x.out (changed (change_of to x.call b) (part j x.at (x.next - x.at))) new → k ≡ None
          → Reached to j o from x.next (written x.s x.y.core x.y.pieces.number x.d) new k
      step_made {new} a z =
          let e : changed (change_of to x.call b) (part j x.at (x.next - x.at)) ≡ ended_line (in_form to m.state x.call) given =
          rw (line_is, good.state) (line_changed to x.s x.call given b owns_is) in
          record {
            first = x.reached.first;
            gs = more gs x.call given;
            steps = steps_more x.reached x.line;
            number = z ∙ sym (so_far to o (more gs x.call given) false passes_so_far.fits (still_like to refl));
            good = λ y. record {
              state = ap (λ (y : Machine). y.state) (after_more o gs x.call given) ∙ state_is;
              opening = good.opening;
              fit = rw (after_more o gs x.call given) (sym (still m x.call given) ∙ good.fit);
              text = holds_same (ap (λ (t : Bytes). result_of to o gs ++ t) e ∙ result_more to o gs x.call given) (holds_more good.text a);
            };
          }
