-- What a conversion leaves lies in the buffer, and the line of a refusal at the end of its own.
use Prim.Native.Nat.{ℕ, ◌+◌, ◌-◌, ◌≤◌}
use mathlib.Core.{Path.{◌≡◌, refl, ◌∙◌, ap}, List.{List, [], ◌++◌}}
use native.Mathlib.Omega.{arith}
use lib.{Dec.ltb, ListN.{length, drop, drop_of_length-le}}
use borrow.Author.Tests.{ltb-false}
use Rattle.protocol.specs.{Pick.fails, Limits.opening_fits, Buffers.Bytes, Run.Entry, declared.Opening.Opening as Sizes}
use Rattle.std.specs.Prelude.{Some, None, Result, Ok}
use Rattle.grammar.specs.declared.Refusal.{Refusal, TheVariants.{Unfit, TooMuch, Unlike}}
use Rattle.spelling.specs.{Text.text, Decimal.decimal, Over.{PutAt, PutBefore}}
use Rattle.spelling.proofs.{OverLaws.{over_length, before_end, before_from, before_laid}, DecimalLaws.decimal_short}
use Rattle.listing.proofs.Laws.{put_from, put_length}
use Rattle.convert.specs.{Conversion.{most_bytes, unlike, result_of, refusal_of, answer_by, buffer_by, Converts, malformed, reads}, declared.To.To}
use Rattle.convert.proofs.Longer.{passed}
use Rattle.converter.specs.Refusal.{RefusalLine}
use Rattle.std.specs.Prelude.{Option}

-- a result that is not refused has room
room : (to : To) (o : Sizes) (gs : List Entry) (n : ℕ) → refusal_of to o gs n ≡ None → length (result_of to o gs) ≤ n
unfolding refusal_of
room to o gs n e =
    let m = length (result_of to o gs) in
    let a = passed (fails (opening_fits o)) Unfit _ e in
    let b = passed (unlike to o gs) Unlike _ a.1 in
    let c = passed (ltb most_bytes m) TooMuch _ b.1 in
    ltb-false _ _ (passed (ltb n m) TooMuch None c.1).0

-- THE RESULT lies in the buffer
pub result_within : {to : To} {j old new : Bytes} {a : Result ℕ Refusal} {n : ℕ} → Converts to j old a new → a ≡ Ok n → n ≤ length new
result_within (malformed x) e = let z : ◌≡◌ {A = ℕ} 0 1 = cc in absurd (omega arith)
result_within {to = to} {old = old} {n = n} (reads {o} {gs} x) e = go (refusal_of to o gs (length old)) refl e
  where
    t : Bytes
    t = result_of to o gs

    go : (k : Option Refusal) → refusal_of to o gs (length old) ≡ k → answer_by k (length t) ≡ Ok n → n ≤ length (buffer_by k t old)
    go None f e =
        let r = room to o gs (length old) f in
        let s : length t ≡ n = cc in
        omega (arith, over_length old 0 t (omega arith))
    go (Some k) f e = let z : ◌≡◌ {A = ℕ} 0 1 = cc in absurd (omega arith)

-- THE LINE OF A REFUSAL, put back to front: its newline, the digits of its number, and the text before them
module _ (n : ℕ) {old one two : Bytes} {q : Option ℕ} {d : ℕ} (size : length old ≡ 32) (p : PutAt old 31 (text "\n") one q) (b : PutBefore one 31 (decimal n) two d) where
  one_long : length one ≡ 32
  one_long = put_length old 31 (text "\n") one q p (omega (arith, size)) ∙ size

  newline : drop 31 one ≡ text "\n"
  newline =
      let all : length old ≤ 32 = omega (arith, size) in
      let none : drop 32 old ≡ [] = drop_of_length-le old all in
      put_from old 31 (text "\n") one q p (omega (arith, size)) ∙ ap (λ (l : Bytes). text "\n" ++ l) none

  digits : drop d two ≡ decimal n ++ text "\n"
  digits = before_from one 31 n two d b (omega arith) (omega (arith, one_long)) ∙ ap (λ (l : Bytes). decimal n ++ l) newline

  -- the digits leave room for the text
  pub text_room : 8 ≤ d
  text_room = omega (arith, before_end one 31 n two d b (omega arith) (omega (arith, one_long)), decimal_short n)

  two_long : length two ≡ 32
  two_long =
      let w = before_end one 31 n two d b (omega arith) (omega (arith, one_long)) in
      ap length (before_laid one 31 n two d b (omega arith) (omega (arith, one_long))) ∙ over_length one d (decimal n) (omega (arith, w, one_long)) ∙ one_long

  pub refusal_line : {new : Bytes} {s : Option ℕ} → PutAt two (d - 8) (text "refused=") new s → RefusalLine n new (d - 8)
  refusal_line {new} {s} a =
      let w : d ≤ 31 = omega (arith, before_end one 31 n two d b (omega arith) (omega (arith, one_long))) in
      let r : d - 8 + 8 ≤ length two = omega (arith, two_long, text_room, w) in
      let e : d - 8 + 8 ≡ d = omega (arith, text_room) in
      record {
        size = put_length two (d - 8) (text "refused=") new s a r ∙ two_long;
        within = omega (arith, w);
        text = put_from two (d - 8) (text "refused=") new s a r ∙ ap (λ (k : ℕ). text "refused=" ++ drop k two) e ∙ ap (λ (l : Bytes). text "refused=" ++ l) digits;
      }
