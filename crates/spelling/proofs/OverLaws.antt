-- Laws of bytes laid over a part of a buffer. Assumes nothing.
use Prim.Native.Nat.{ℕ, suc, ◌+◌, ◌*◌, ◌/◌, ◌%◌, ◌≤◌, ◌<◌, ◌-◌}
use mathlib.Core.{Path.{◌≡◌, refl, sym, ◌∙◌, ap, ap₂, subst}, Bool.{Bool, true, false, cond, not}, List.{List, [], ◌∷◌, ◌++◌, append_assoc, append-nil}}
use native.Mathlib.{Omega.arith, Nat.add-zero, Numerals.add-one}
use lib.ListN.{length, get_or, take, drop, set, length-append, length-take, length-drop, take-append-drop, get_or-append}
use Rattle.std.proofs.lemmas.List.{get_or-drop}
use lib.{Seq.{set_split, take_at, drop_at, take-length, length-take-le, take-append-le, drop-append-le, drop-append_seam, paste, paste-suc, drop-drop}, Dec.leb}
use Rattle.spelling.specs.{Over.{has_room, over, twenty_before, PutAt, PutBefore}, Decimal.decimal}
use Rattle.std.specs.Prelude.{Option, Some, None}
use Rattle.spelling.specs.Hex.{hex, unhex, digit, nibble}
use borrow.Author.Tests.{le-leb, lt-leb, leb-true, leb-false, not-true, not-false}
use Rattle.spelling.proofs.DecimalLaws.{widest, decimal_step, decimal_digit, decimal_nonempty, decimal_short}
use Rattle.spelling.proofs.HexLaws.{unhex_at, unhex_length, hex_at, hex_length}

pub over_none : (old : List ℕ) (at : ℕ) → old ≡ over old at []
over_none old at = sym (take-append-drop at old) ∙ ap (λ (k : ℕ). take at old ++ drop k old) (sym (add-zero at))

-- ---- a text over a part of a buffer that has room for it
module _ (old : List ℕ) (at : ℕ) (t : List ℕ) (h : at + length t ≤ length old) where
  pub over_length : length (over old at t) ≡ length old
  over_length = simp (length-append, length-take, length-drop) (omega arith)

  -- what is there from the text on
  pub over_from : drop at (over old at t) ≡ t ++ drop (at + length t) old
  over_from = drop_at (take at old) _ at (length-take-le at old (omega arith))

  -- the text itself, read back
  pub over_part : (n : ℕ) → length t ≡ n → take n (drop at (over old at t)) ≡ t
  over_part n e = rw over_from (take_at t (drop (at + length t) old) n e)

  -- a part that ends before the text
  pub part_before : (b n : ℕ) → b + n ≤ at → take n (drop b (over old at t)) ≡ take n (drop b old)
  part_before b n k = front _ ∙ sym (front (drop at old)) ∙ ap (λ (l : List ℕ). take n (drop b l)) (take-append-drop at old)
    where
      size : length (take at old) ≡ at
      size = length-take-le at old (omega arith)

      front : (l : List ℕ) → take n (drop b (take at old ++ l)) ≡ take n (drop b (take at old))
      front l =
          let q : n ≤ length (drop b (take at old)) = simp length-drop (omega (arith, size)) in
          rw (drop-append-le b (take at old) l (omega (arith, size)), take-append-le n (drop b (take at old)) l q)

  -- what is there up to its end, and after it
  pub over_until : take (at + length t) (over old at t) ≡ take at old ++ t
  over_until =
      rw (← append_assoc (take at old) t (drop (at + length t) old)) (take_at (take at old ++ t) _ (at + length t) (simp (length-append, length-take) (omega arith)))

  pub over_past : (d : ℕ) → drop (at + length t + d) (over old at t) ≡ drop (at + length t + d) old
  over_past d =
      sym (drop-drop d (at + length t) (over old at t)) ∙ ap (drop d) (sym (drop-drop (length t) at (over old at t)) ∙ ap (drop (length t)) over_from ∙ drop-append_seam t _)
      ∙ drop-drop d (at + length t) old

  -- a part that starts after it
  pub part_after : (b n : ℕ) → at + length t ≤ b → take n (drop b (over old at t)) ≡ take n (drop b old)
  part_after b n k =
      let e : b ≡ at + length t + (b - (at + length t)) = omega arith in
      ap (take n) (ap (λ (i : ℕ). drop i (over old at t)) e ∙ over_past (b - (at + length t)) ∙ ap (λ (i : ℕ). drop i old) (sym e))

-- ---- a text that is copied byte by byte

-- the whole of it
pub pasted : (old : List ℕ) (at : ℕ) (t : List ℕ) (n : ℕ) → n ≡ length t → paste old at t n ≡ over old at t
pasted old at t n e = rw (e, take-length, append_assoc)

-- the two digits of one byte more
pub hex_more : (old : List ℕ) (at : ℕ) (bs : List ℕ) (i : ℕ) → at + length (hex bs) ≤ length old → i < length bs
    → set (set (paste old at (hex bs) (2 * i)) (at + 2 * i) (digit (get_or bs i 0 / 16))) (at + 2 * i + 1) (digit (get_or bs i 0 % 16)) ≡ paste old at (hex bs) (2 * (i + 1))
hex_more old at bs i r h =
    let d = hex_at bs i h in
    let n = hex_length bs in
    let e : at + 2 * i + 1 ≡ at + (2 * i + 1) = omega arith in
    let m : 2 * (i + 1) ≡ suc (2 * i + 1) = omega arith in
    rw (← d.0, ← d.1, e, m, paste-suc old at (hex bs) (2 * i) 0 (omega arith) (omega arith), ← add-one (2 * i)) (paste-suc old at (hex bs) (2 * i + 1) 0 (omega arith) (omega arith))

-- the byte of two digits more, which come first in what is left of all digits
module _ (v pair rest : List ℕ) (i : ℕ) (left : drop (2 * i) v ≡ pair ++ rest) (two : length pair ≡ 2) where
  pub pair_within : 2 * i + 1 < length v
  pair_within = omega (arith, two, simp (length-drop, length-append) at (ap length left))

  digit_of : (k : ℕ) → k < 2 → get_or v (2 * i + k) 0 ≡ get_or pair k 0
  digit_of k h = sym (get_or-drop (2 * i) v k 0) ∙ ap (λ (l : List ℕ). get_or l k 0) left ∙ get_or-append pair rest 0 k (omega arith)

  pub pair_rest : drop (2 * (i + 1)) v ≡ rest
  pair_rest =
      let e : 2 * (i + 1) ≡ 2 * i + 2 = omega arith in
      ap (λ (k : ℕ). drop k v) e ∙ sym (drop-drop 2 (2 * i) v) ∙ ap (drop 2) left ∙ drop_at pair rest 2 two

  pub unhex_more : (old : List ℕ) (at b : ℕ) → at + length (unhex v) ≤ length old → b ≡ nibble (get_or pair 0 0) * 16 + nibble (get_or pair 1 0)
      → set (paste old at (unhex v) i) (at + i) b ≡ paste old at (unhex v) (i + 1)
  unhex_more old at b r e =
      let low : get_or v (2 * i) 0 ≡ get_or pair 0 0 = subst (λ (k : ℕ). get_or v k 0 ≡ get_or pair 0 0) (add-zero (2 * i)) (digit_of 0 (omega arith)) in
      let byte : b ≡ get_or (unhex v) i 0 = e ∙ ap₂ (λ (x y : ℕ). nibble x * 16 + nibble y) (sym low) (sym (digit_of 1 (omega arith))) ∙ sym (unhex_at v i pair_within) in
      let within : i < length (unhex v) = omega (arith, unhex_length v, pair_within) in
      rw (byte, add-one) (paste-suc old at (unhex v) i 0 (omega arith) (omega (arith, within)))

-- one text after another
pub over_append : (old : List ℕ) (at : ℕ) (t u : List ℕ) → at + length (t ++ u) ≤ length old → over (over old at t) (at + length t) u ≡ over old at (t ++ u)
over_append old at t u h =
    let n : length (t ++ u) ≡ length t + length u = length-append t u in
    let m : at + length (t ++ u) ≡ at + length t + length u = omega arith in
    let front : take (at + length t) (over old at t) ≡ take at old ++ t = over_until old at t (omega arith) in
    let back : drop (at + length t + length u) (over old at t) ≡ drop (at + length t + length u) old = over_past old at t (omega arith) (length u) in
    rw (front, back, m) (simp append_assoc)

-- ---- the answers of putting a text

pub put_done : (old : List ℕ) (at : ℕ) (t new : List ℕ) (r : Option ℕ) → at + length t ≤ length old → r ≡ Some (at + length t) → new ≡ over old at t → PutAt old at t new r
put_done old at t new r h e n = record { answer = e ∙ rw (le-leb (at + length t) (length old) h); bytes = n ∙ rw (le-leb (at + length t) (length old) h) }

pub put_short : (old : List ℕ) (at : ℕ) (t : List ℕ) → length old < at + length t → PutAt old at t old None
put_short old at t h = record { answer = rw (lt-leb (at + length t) (length old) h); bytes = rw (lt-leb (at + length t) (length old) h) }

-- what the test for room shows
pub room_yes : (size at n : ℕ) (r : Bool) → r ≡ has_room size at n → not r ≡ false → at + n ≤ size
room_yes size at n r e f = leb-true (at + n) size (sym e ∙ not-false r f)

pub room_no : (size at n : ℕ) (r : Bool) → r ≡ has_room size at n → not r ≡ true → size < at + n
room_no size at n r e f = leb-false (at + n) size (sym e ∙ not-true r f)

-- what the test for twenty bytes before an offset shows
pub twenty_yes : (size end : ℕ) → 20 ≤ end → end ≤ size → twenty_before size end ≡ true
twenty_yes size end t w = rw (le-leb 20 end t, le-leb end size w)

pub twenty_few : (size end : ℕ) → end < 20 → twenty_before size end ≡ false
twenty_few size end h = rw (lt-leb 20 end h)

pub twenty_past : (size end : ℕ) → size < end → twenty_before size end ≡ false
twenty_past size end h = rw (lt-leb end size h) (go (leb 20 end))
  where
    go : (b : Bool) → cond b false false ≡ false
    go true = refl
    go false = refl

-- a number that was not put
pub before_not : (old : List ℕ) (end : ℕ) (t : List ℕ) → twenty_before (length old) end ≡ false → PutBefore old end t old end
before_not old end t e = record { answer = rw e; bytes = rw e }

-- ---- the digits of a number, from the last to the first

-- one byte before
pub over_before : (old : List ℕ) (at : ℕ) (t : List ℕ) (b : ℕ) → 0 < at → at + length t ≤ length old → set (over old at t) (at - 1) b ≡ over old (at - 1) (b ∷ t)
over_before old at t b p h =
    let n : suc (at - 1) ≡ at = omega arith in
    let m : at + length t ≡ at - 1 + length (b ∷ t) = omega arith in
    let i : at - 1 < length (over old at t) = rw (over_length old at t h) (omega arith) in
    rw (set_split (over old at t) (at - 1) b i, part_before old at t h 0 (at - 1) (omega arith), n, over_from old at t h, m)

-- the digits so far: they are there from k on, end before an offset, and come after the digits of m
pub record Digits (old : List ℕ) (end n : ℕ) (l : List ℕ) (k m : ℕ) : Type 0 where
  pub digits : List ℕ
  pub twenty : 20 ≤ end
  pub within : end ≤ length old
  pub small : m ≤ widest
  pub ends : k + length digits ≡ end
  pub all : decimal n ≡ decimal m ++ digits
  pub laid : l ≡ over old k digits

pub digits_start : (old : List ℕ) (end n : ℕ) → 20 ≤ end → end ≤ length old → n ≤ widest → Digits old end n old end n
digits_start old end n t w h =
    record { digits = []; twenty = t; within = w; small = h; ends = omega arith; all = sym (append-nil (decimal n)); laid = over_none old end }

module _ (old : List ℕ) (end n : ℕ) (l : List ℕ) (k m : ℕ) (d : Digits old end n l k m) where
  -- there is room for one digit more
  pub digits_room : (0 < k) × (k ≤ end) × (length l ≡ length old)
  digits_room =
      let w : length (decimal n) ≡ length (decimal m) + length d.digits = ap length d.all ∙ length-append (decimal m) d.digits in
      (omega (arith, d.twenty, d.ends, decimal_short n, decimal_nonempty m d.small), omega (arith, d.ends), ap length d.laid ∙ over_length old k d.digits (omega (arith, d.ends, d.within)))

  put_digit : (b : ℕ) → set l (k - 1) b ≡ over old (k - 1) (b ∷ d.digits)
  put_digit b = ap (λ (x : List ℕ). set x (k - 1) b) d.laid ∙ over_before old k d.digits b digits_room.0 (omega (arith, d.ends, d.within))

  pub digits_next : 10 ≤ m → Digits old end n (set l (k - 1) (48 + m % 10)) (k - 1) (m / 10)
  digits_next h =
      record {
        digits = (48 + m % 10) ∷ d.digits;
        twenty = d.twenty;
        within = d.within;
        small = omega (arith, d.small);
        ends = omega (arith, d.ends, digits_room.0);
        all = d.all ∙ ap (λ (x : List ℕ). x ++ d.digits) (decimal_step m h d.small) ∙ append_assoc (decimal (m / 10)) ((48 + m % 10) ∷ []) d.digits;
        laid = put_digit (48 + m % 10);
      }

  pub digits_last : m < 10 → PutBefore old end (decimal n) (set l (k - 1) (48 + m)) (k - 1)
  digits_last h =
      let whole : (48 + m) ∷ d.digits ≡ decimal n = ap (λ (x : List ℕ). x ++ d.digits) (sym (decimal_digit m h)) ∙ sym d.all in
      let start : k - 1 ≡ end - length (decimal n) = omega (arith, d.ends, digits_room.0, ap length whole) in
      let room = twenty_yes (length old) end d.twenty d.within in
      record { answer = rw room start; bytes = rw room (put_digit (48 + m) ∙ ap₂ (over old) start whole) }

-- what a number that was put before an offset leaves
module _ (old : List ℕ) (end n : ℕ) (new : List ℕ) (r : ℕ) (p : PutBefore old end (decimal n) new r) (t : 20 ≤ end) (w : end ≤ length old) where
  pub before_end : r + length (decimal n) ≡ end
  before_end = omega (arith, decimal_short n, rw (twenty_yes (length old) end t w) at p.answer)

  pub before_laid : new ≡ over old r (decimal n)
  before_laid =
      let room = twenty_yes (length old) end t w in
      (rw room at p.bytes) ∙ ap (λ (k : ℕ). over old k (decimal n)) (sym (rw room at p.answer))

  -- what is there from the number on
  pub before_from : drop r new ≡ decimal n ++ drop end old
  before_from =
      ap (drop r) before_laid ∙ over_from old r (decimal n) (omega (arith, before_end)) ∙ ap (λ (k : ℕ). decimal n ++ drop k old) before_end
