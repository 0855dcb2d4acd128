-- The conversions: what each line of a journal says, what its steps meet and answer, the result, and the answer, by computing.
use Prim.Native.Nat.{ℕ, ◌+◌}
use mathlib.Core.{Path.{◌≡◌, refl, sym, subst}, Bool.{Bool, true, false}, List.◌++◌, Logic.{inl, inr}}
use native.Mathlib.Omega.{arith}
use lib.{Dec.eqb, ListN.get_or}
use borrow.Author.Tests.{eqb-true, eqb-false}
use Rattle.protocol.specs.{Buffers.Bytes, Run.run, declared.Opening.Opening as Sizes}
use Rattle.spelling.specs.{Decimal.{decimal, decimal_up_to}, Hex.hex, Text.text}
use Rattle.grammar.specs.Form.{lay, spellings}
use Rattle.std.specs.Prelude.{Some, None, Result, Ok, Err}
use Rattle.grammar.specs.{Refusal.number, declared.Refusal.{Refusal, TheVariants.{NotNumber}}}
use Rattle.journal.specs.{Journal.{Next, NextOf, too_much}, declared.Item.TheVariants.{Opening, Step}}
use Rattle.driver.specs.Listing.{ended, stopped}
use Rattle.convert.specs.{Spelling.step_lines, Forms.converted}
use Rattle.convert.specs.Conversion.{form_from, first_line, other_form, later_line, some, unlike, refusal_of, Converts, malformed, reads}
use Rattle.spelling.proofs.Decide.{Told as Decided}
use Rattle.convert.proofs.FirstLine.{is_twelve, other_digit, other_named, refused_own, wrong_other}
use Rattle.convert.specs.declared.To.{To, TheVariants.{First, Second}}
use Rattle.reference_points.specs.Conversions.{got_second, told_second, into_second, got_first, told_first, into_first, got_line, told_line, step_texts}
use Rattle.reference_points.specs.Conversions.{lent, Untouched, of_first, to_second, of_second, to_first, ConversionsTheorem}
use Rattle.reference_points.proofs.{Each.agree, Rows.calling, Lines.answer, Reading.{look, Way, way, further, walk}, Longest.{longest, longer}}

-- what a conversion leaves; nothing is found of a journal with more lines than were looked at
data Found (to : To) (j old : Bytes) : Type 0 where
  found : (a : Result ℕ Refusal) (b : Bytes) → Converts to j old a b → Found to j old
  nothing : Found to j old

-- by how the journal reads behind its first line
abbrev whole :
    {to : To} {j : Bytes} {o : Sizes} {next : ℕ} (old : Bytes) → NextOf j 0 0 (Ok (Some (Opening (form_from to) o next))) → Way j (form_from to) next → Found to j old
whole old x (way {e = ended} s e) = found _ _ (reads (record { next = _; to = _; first = x; steps = s; ends = e }))
whole old x (way {e = stopped n} s e) = found _ _ (malformed (later_line x s e))
whole old x further = nothing

-- by what is at its start
abbrev begun : {to : To} {j : Bytes} (old : Bytes) → ((k : ℕ) → Way j (form_from to) k) → (n : Next) → NextOf j 0 0 n → Found to j old
begun {to} {j} old on (Ok (Some (Opening form o next))) x = go (eqb form (form_from to)) refl
  where
    go : (b : Bool) → eqb form (form_from to) ≡ b → Found to j old
    go true e = whole old (subst (λ (f : ℕ). NextOf j 0 0 (Ok (Some (Opening f o next)))) (eqb-true _ _ e) x) (on next)
    go false e = found _ _ (malformed (other_form (other_named (form_from to) x (eqb-false _ _ e))))
begun old on (Ok (Some (Step call start end next))) x = nothing
begun old on (Ok None) x = nothing
begun {to} {j} old on (Err r) x = go (is_twelve r) (eqb (get_or j 7 0) (48 + form_from to)) refl
  where
    go : Decided (r ≡ NotNumber) → (d : Bool) → eqb (get_or j 7 0) (48 + form_from to) ≡ d → Found to j old
    go (inr n) d f = found _ _ (malformed (first_line x (refused_own (form_from to) x n)))
    go (inl e) true f = found _ _ (malformed (first_line x (λ o. (other_digit (form_from to) o).1 (eqb-true _ _ f))))
    go (inl e) false f = found _ _ (malformed (other_form (wrong_other (form_from to) x e (eqb-false _ _ f))))

unfoldable conversion : (to : To) (j old : Bytes) → Found to j old
conversion to j old = begun old (walk 30 j (form_from to)) (look j 0 0).next (look j 0 0).there

-- what is found, without its proof
data Told : Type 0 where
  told : Result ℕ Refusal → Bytes → Told
  unknown : Told

abbrev tells : {to : To} {j old : Bytes} → Found to j old → Told
tells (found a b x) = told a b
tells nothing = unknown

-- what is computed holds
converts : {to : To} {j old : Bytes} {a : Result ℕ Refusal} {b : Bytes} → tells (conversion to j old) ≡ told a b → Converts to j old a b
converts {to} {j} {old} {a} {b} e = go (conversion to j old) e
  where
    go : (x : Found to j old) → tells x ≡ told a b → Converts to j old a b
    go (found c d x) h =
        let p : c ≡ a = cc in
        let q : d ≡ b = cc in
        rw (sym p, sym q) x
    go nothing h = absurd (let z : ◌≡◌ {A = ℕ} 0 1 = cc in omega arith)

-- and so does a refusal, with its number
refuses : {to : To} {j old : Bytes} {n : ℕ} {r : Refusal} → tells (conversion to j old) ≡ told (Err r) old → number r ≡ n → Untouched to j old n
refuses e same = (_, same, converts e)

-- the definitions that a conversion computes by
unfoldable computing : Unit {0}
unfolding calling run answer decimal decimal_up_to hex lay spellings step_lines converted some unlike refusal_of look walk conversion
computing = tt

-- ---- the examples

-- the long ones
whole_second : Converts Second of_first (lent 463) (Ok 461) (to_second ++ text "..")
unfolding computing
whole_second = converts refl

short_second : Untouched Second of_first (lent 460) 14
unfolding computing
short_second = refuses refl refl

whole_first : Converts First of_second (lent 350) (Ok 350) to_first
unfolding computing
whole_first = converts refl

pub conversions_theorem : ConversionsTheorem
unfolding computing
conversions_theorem =
    record {
      second = whole_second;
      first = whole_first;
      second_alone = converts refl;
      first_alone = converts refl;
      second_short = short_second;
      first_short = refuses refl refl;
      no_buffer = refuses refl refl;
      most = longest;
      one_more = λ old. (_, refl, longer old);
      other_cap = refuses refl refl;
      victim = refuses refl refl;
      no_victim = refuses refl refl;
      drop_owned = refuses refl refl;
      writeback_shared = refuses refl refl;
      only_first = refl;
      sizes_first = refuses refl refl;
      sizes_second = refuses refl refl;
      capacity = refuses refl refl;
      sizes_before = refuses refl refl;
      late_number = refuses refl refl;
      late_form = refuses refl refl;
      late_end = refuses refl refl;
      late_data = refuses refl refl;
      late_long = refuses refl refl;
      after_thirty = refuses refl refl;
      number_first = refuses refl refl;
      form_first = refuses refl refl;
      opening_first = refuses refl refl;
      other_first = refuses refl refl;
      other_second = refuses refl refl;
      wrong_first = refuses refl refl;
      wrong_second = refuses refl refl;
      other_long = refuses refl refl;
      no_opening = refuses refl refl;
      empty_first = refuses refl refl;
      empty_second = refuses refl refl;
      input = λ to journal old h. (_, refl, malformed (first_line (too_much h) (refused_own (form_from to) (too_much h) (λ z. let q : ◌≡◌ {A = ℕ} 0 1 = cc in omega arith))));
      into_second = agree got_second told_second into_second refl;
      into_first = agree got_first told_first into_first refl;
      step_texts = agree got_line told_line step_texts refl;
      first_text = refl;
      second_text = refl;
    }
