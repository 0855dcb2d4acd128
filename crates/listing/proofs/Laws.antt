-- Laws of a line that is built back to front, and of one text put after another. Assumes nothing.
use Prim.Native.Nat.{ℕ, ◌+◌, ◌≤◌, ◌<◌}
use mathlib.Core.{Path.{◌≡◌, refl, sym, ◌∙◌, ap, subst}, List.{List, ◌++◌, append_assoc}}
use native.Mathlib.Omega.{arith}
use lib.{ListN.{length, drop, length-append}}
use borrow.Author.Tests.{le-leb}
use Rattle.spelling.specs.{Over.{over, PutAt}, Decimal.decimal, Text.text}
use Rattle.std.specs.Prelude.{Option, Some, None}
use Rattle.spelling.proofs.OverLaws.{over_from, over_length, over_append, put_done, put_short}
use Rattle.spelling.proofs.{HexLaws.hex_length}
use Rattle.protocol.specs.{declared.{Given.{Given, TheVariants.{Bytes, Digits}}}}
use Rattle.listing.specs.{Record.text_as, Back.{digit_count, access}}

-- a text that was put where it fits
module _ (old : List ℕ) (at : ℕ) (t new : List ℕ) (r : Option ℕ) (p : PutAt old at t new r) (h : at + length t ≤ length old) where
  pub put_laid : new ≡ over old at t
  put_laid = rw (le-leb (at + length t) (length old) h) at p.bytes

  pub put_end : r ≡ Some (at + length t)
  put_end = rw (le-leb (at + length t) (length old) h) at p.answer

  pub put_length : length new ≡ length old
  put_length = ap length put_laid ∙ over_length old at t h

  -- what is there from the text on
  pub put_from : drop at new ≡ t ++ drop (at + length t) old
  put_from = ap (drop at) put_laid ∙ over_from old at t (omega arith)

-- one text after another
pub put_after : (old : List ℕ) (at : ℕ) (t mid : List ℕ) (q : Option ℕ) (u new : List ℕ) (r : Option ℕ) → at + length (t ++ u) ≤ length old
    → PutAt old at t mid q → PutAt mid (at + length t) u new r → PutAt old at (t ++ u) new r
put_after old at t mid q u new r h p s =
    let size : length (t ++ u) ≡ length t + length u = length-append t u in
    let m : mid ≡ over old at t = put_laid old at t mid q p (omega arith) in
    let w : at + length t + length u ≤ length mid = omega (arith, put_length old at t mid q p (omega arith)) in
    put_done old at (t ++ u) new r h
    (put_end mid (at + length t) u new r s w ∙ ap Some (omega arith))
    (put_laid mid (at + length t) u new r s w ∙ ap (λ (l : List ℕ). over l (at + length t) u) m ∙ over_append old at t u h)

-- a text, digits behind it, and a newline
module _ (old : List ℕ) (at : ℕ) (head digits : List ℕ) where
  data_length : length (head ++ digits ++ text "\n") ≡ length head + length digits + 1
  data_length = simp length-append (omega arith)

  pub data_short : (r : Option ℕ) → r ≡ None → length old ≤ at + length head + length digits → PutAt old at (head ++ digits ++ text "\n") old r
  data_short r e h = subst (PutAt old at (head ++ digits ++ text "\n") old) (sym e) (put_short old at (head ++ digits ++ text "\n") (omega (arith, data_length)))

  -- they are put one after another, the digits at d and the newline at e
  pub data_put : (one : List ℕ) (q : Option ℕ) (two : List ℕ) (s : Option ℕ) (new : List ℕ) (r : Option ℕ) (d e : ℕ) → d ≡ at + length head
      → e ≡ d + length digits → e < length old
      → PutAt old at head one q → PutAt one d digits two s → PutAt two e (text "\n") new r → PutAt old at (head ++ digits ++ text "\n") new r
  data_put one q two s new r d e i j h a b c =
      let size : length (head ++ digits) ≡ length head + length digits = length-append head digits in
      put_after old at (head ++ digits) two s (text "\n") new r (omega (arith, data_length))
      (put_after old at head one q digits two s (omega arith) a (subst (λ (k : ℕ). PutAt one k digits two s) i b))
      (subst (λ (k : ℕ). PutAt two k (text "\n") new r) (omega arith) c)

-- the digits of data
pub digits_count : (g : Given) (given : List ℕ) → length (text_as g given) ≡ digit_count g (length given)
digits_count Bytes given = hex_length given
digits_count Digits given = refl

-- ---- a line from its end

-- the same text, written otherwise
pub put_same : {old : List ℕ} {at : ℕ} {t u new : List ℕ} {r : Option ℕ} → t ≡ u → PutAt old at t new r → PutAt old at u new r
put_same {old} {at} {t} {u} {new} {r} e p = subst (λ (l : List ℕ). PutAt old at l new r) e p

-- a load's or a store's record, from the text of its kind
pub access_text :
    (n c l t : ℕ) (kind digits : List ℕ)
    → access n (text " commit=" ++ kind ++ text " core=") c l t digits
    ≡ text "n=" ++ decimal n ++ text " commit=" ++ kind ++ text " core=" ++ decimal c ++ (text " line=" ++ decimal l) ++ text " ts=" ++ decimal t
    ++ (text " data=" ++ digits) ++ text "\n"
access_text n c l t kind digits =
    regroup (text "n=") (decimal n) (text " commit=") kind (text " core=") (decimal c) (text " line=") (decimal l) (text " ts=") (decimal t)
    (text " data=") digits (text "\n")
  where
    regroup : (a b c d e f g h i j k l m : List ℕ)
        → a ++ b ++ (c ++ d ++ e) ++ f ++ g ++ h ++ i ++ j ++ k ++ l ++ m ≡ a ++ b ++ c ++ d ++ e ++ f ++ (g ++ h) ++ i ++ j ++ (k ++ l) ++ m
    regroup a b c d e f g h i j k l m = simp append_assoc
