-- Texts written one after the other into a buffer, up to the first that has no room.
use Prim.Native.Nat.{ℕ, ◌+◌, ◌-◌, ◌≤◌, ◌<◌}
use mathlib.Core.{Path.{◌≡◌, refl, sym, ◌∙◌, ap, subst}, Bool.{Bool, true, false}, List.{[], ◌∷◌, ◌++◌, append_assoc, append-nil}}
use native.Mathlib.Omega.{arith}
use lib.{Dec.leb, ListN.{length, take, drop, length-append, length-drop, drop_of_length-le}, Seq.take_all}
use borrow.Author.Tests.{le-leb, lt-leb, leb-true, leb-false}
use Rattle.protocol.specs.{Buffers.Bytes, declared.Opening.Opening as Sizes}
use Rattle.spelling.{specs.{Text.text, Decimal.decimal, Over.{PutAt, PutBefore}}, proofs.OverLaws.{before_end, before_from}}
use Rattle.std.specs.Prelude.{Option, Some, None}
use Rattle.driver.proofs.Putting.{put_written, put_short}
use Rattle.grammar.specs.Form.{lay, spellings}
use Rattle.convert.specs.{Spelling.opening_line, Conversion.most_bytes, Writing.{Holds, Appends, sizes_text}, declared.{text.Text.Text, To.TheVariants.{First, Second}}}

-- a text that has room ends where it is long, and one that has none has no end
module _ {x : Text} {t : Bytes} (h : Holds x t) where
  pub holds_end : length t ≤ most_bytes → x.end ≡ Some (length t)
  holds_end i = rw (le-leb _ _ i) at h.end

  pub holds_past : most_bytes < length t → x.end ≡ None
  holds_past i = rw (lt-leb _ _ i) at h.end

  -- what its end tells
  ends_at : {e : ℕ} → x.end ≡ Some e → (length t ≤ most_bytes) × (e ≡ length t)
  ends_at {e} f = go (leb (length t) most_bytes) refl
    where
      go : (b : Bool) → leb (length t) most_bytes ≡ b → (length t ≤ most_bytes) × (e ≡ length t)
      go true i = let k = leb-true _ _ i in let q : Some e ≡ Some (length t) = sym f ∙ holds_end k in (k, cc)
      go false i = let q : Some e ≡ None = sym f ∙ holds_past (leb-false _ _ i) in let z : ◌≡◌ {A = ℕ} 0 1 = cc in absurd (omega arith)

  past_at : x.end ≡ None → most_bytes < length t
  past_at f = go (leb (length t) most_bytes) refl
    where
      go : (b : Bool) → leb (length t) most_bytes ≡ b → most_bytes < length t
      go true i = let q : Some (length t) ≡ None = sym (holds_end (leb-true _ _ i)) ∙ f in let z : ◌≡◌ {A = ℕ} 0 1 = cc in absurd (omega arith)
      go false i = leb-false _ _ i

-- nothing is written yet
pub holds_none : {x : Text} → x.end ≡ Some 0 → Holds x []
holds_none e = record { end = e; text = λ i. refl }

-- a text that fits, or that does not
fits : {x : Text} {t : Bytes} {e : ℕ} → x.end ≡ Some e → e ≡ length t → length t ≤ most_bytes → take e x.bytes ≡ t → Holds x t
fits {x} {t} f e i h =
    record { end = f ∙ ap Some e ∙ rw (le-leb _ _ i) refl; text = λ k. subst (λ (n : ℕ). take n x.bytes ≡ t) e h }

over_long : {x : Text} {t : Bytes} → x.end ≡ None → most_bytes < length t → Holds x t
over_long e i = record { end = e ∙ rw (lt-leb _ _ i) refl; text = λ k. absurd (omega arith) }

-- ---- a text that is put

-- behind one that has an end, whether it has room or not
pub put_appends : {x y : Text} {e : ℕ} {t : Bytes} → length x.bytes ≡ most_bytes → x.end ≡ Some e → PutAt x.bytes e t y.bytes y.end → Appends x t y
put_appends {x} {y} {e} {t} size f p s h = go y.end refl
  where
    at : (length s ≤ most_bytes) × (e ≡ length s)
    at = ends_at h f

    long : length (s ++ t) ≡ length s + length t
    long = length-append s t

    go : (r : Option ℕ) → y.end ≡ r → Holds y (s ++ t)
    go (Some k) g =
        let w = put_written p g in
        let before : take e x.bytes ≡ s = subst (λ (n : ℕ). take n x.bytes ≡ s) (sym at.1) (h.text at.0) in
        fits g (omega (arith, w.end, at.1, long)) (omega (arith, w.room, at.1, long)) (w.before ∙ ap (λ (l : Bytes). l ++ t) before)
    go None g = let w = put_short p g in over_long g (omega (arith, w.0, at.1, long))

-- behind one that has none
pub past_appends : {x : Text} (t : Bytes) → x.end ≡ None → Appends x t x
past_appends {x} t f s h = over_long f (omega (arith, past_at h f, length-append s t))

-- ---- one after another

pub append_more : {x y z : Text} {t u : Bytes} → Appends x t y → Appends y u z → Appends x (t ++ u) z
append_more {z = z} {t = t} {u = u} a b = λ s h. subst (Holds z) (append_assoc s t u) (b (s ++ t) (a s h))

-- the same text, written otherwise
pub append_same : {x y : Text} {t u : Bytes} → t ≡ u → Appends x t y → Appends x u y
append_same {x} {y} e a = subst (λ (t : Bytes). Appends x t y) e a

-- ---- a number

-- the digits of a number put at the end of a buffer of twenty bytes
pub digits_alone : {old : Bytes} (n : ℕ) {new : Bytes} {r : ℕ} → length old ≡ 20 → PutBefore old 20 (decimal n) new r → take (20 - r) (drop r new) ≡ decimal n
digits_alone {old} n {new} {r} size p =
    let e : r + length (decimal n) ≡ 20 = before_end old 20 n new r p (omega arith) (omega arith) in
    let f : drop r new ≡ decimal n = before_from old 20 n new r p (omega arith) (omega arith) ∙ ap (λ (l : Bytes). decimal n ++ l) (drop_of_length-le old {i = 20} (omega arith)) ∙ append-nil (decimal n) in
    take_all (20 - r) (drop r new) (rw f (omega arith)) ∙ f

-- ---- behind a text

-- a first text
pub holds_first : {x y : Text} {t : Bytes} → x.end ≡ Some 0 → Appends x t y → Holds y t
holds_first e a = a [] (holds_none e)

-- one more
pub holds_more : {x y : Text} {t u : Bytes} → Holds x t → Appends x u y → Holds y (t ++ u)
holds_more {t = t} h a = a t h

pub holds_same : {x : Text} {t u : Bytes} → t ≡ u → Holds x t → Holds x u
holds_same {x} e h = subst (Holds x) e h

-- the part of a line from an offset on
pub from_on : (kind : Bytes) (n : ℕ) (line : Bytes) → kind ++ take (length line - n) (drop n line) ≡ kind ++ drop n line
from_on kind n line = ap (λ (l : Bytes). kind ++ l) (take_all (length line - n) (drop n line) (rw (length-drop n line) (omega arith)))

-- ---- the first line

-- a text and four fields
pub fields : (k a b c d e f g h : Bytes) → (((k ++ (a ++ b)) ++ (c ++ d)) ++ (e ++ f)) ++ (g ++ h) ≡ k ++ (a ++ b ++ c ++ d ++ e ++ f ++ g ++ h)
fields k a b c d e f g h = simp append_assoc

-- nothing is behind the last number of a line
four_fields : (k a b c d e f g h z : Bytes) → (k ++ (a ++ b ++ c ++ d ++ e ++ f ++ g ++ h)) ++ z ≡ (k ++ (a ++ (b ++ (c ++ (d ++ (e ++ (f ++ (g ++ (h ++ []))))))))) ++ z
four_fields k a b c d e f g h z = simp (append-nil, append_assoc)

five_fields :
    (k a b c d e f g h i j z : Bytes)
    → ((k ++ (a ++ b ++ c ++ d ++ e ++ f ++ g ++ h)) ++ (i ++ j)) ++ z ≡ (k ++ (a ++ (b ++ (c ++ (d ++ (e ++ (f ++ (g ++ (h ++ (i ++ (j ++ []))))))))))) ++ z
five_fields k a b c d e f g h i j z = simp (append-nil, append_assoc)

pub first_line_lem : (o : Sizes) → (text "fabric=1" ++ sizes_text o) ++ (10 ∷ []) ≡ opening_line First o ++ (10 ∷ [])
unfolding lay spellings
first_line_lem o =
    four_fields (text "fabric=1") (text " cores=") (decimal o.cores) (text " lines=") (decimal o.lines) (text " width=") (decimal o.width) (text " lease=")
    (decimal o.lease) (10 ∷ [])

pub second_line : (o : Sizes) → ((text "fabric=2" ++ sizes_text o) ++ (text " cap=" ++ decimal o.cap)) ++ (10 ∷ []) ≡ opening_line Second o ++ (10 ∷ [])
unfolding lay spellings
second_line o =
    five_fields (text "fabric=2") (text " cores=") (decimal o.cores) (text " lines=") (decimal o.lines) (text " width=") (decimal o.width) (text " lease=")
    (decimal o.lease) (text " cap=") (decimal o.cap) (10 ∷ [])
