-- Laws of texts: no number and no data have a blank or a newline, and a text is cut at a blank, and after its first line, in one way. Assumes
-- nothing.
use Prim.Native.Nat.{ℕ, ◌<◌}
use mathlib.Core.{Path.{◌≡◌, refl, sym, ◌∙◌, ap, ap₂}, Bool.{Bool, true, false, cond}, List.{List, [], ◌∷◌, ◌++◌}, Logic.inr}
use native.Mathlib.Omega.{arith}
use lib.Dec.{eqb}
use borrow.Author.Tests.{eqb-false}
use Rattle.spelling.specs.{Bytes.{All, Without, up_to}, Decimal.decimal, Hex.hex}
use Rattle.spelling.proofs.{Lists.High, Split.up_to_unique, DecimalLaws.{decimal_injective, decimal_high}, HexLaws.hex_high}

-- ---- texts without some byte

-- a byte below the digit 0 is in no number, and in no data
high_without : (b : ℕ) → b < 48 → (l : List ℕ) → All High l → Without b l
high_without b h [] a = tt
high_without b h (x ∷ l) a = (λ e. omega (arith, a.0), high_without b h l a.1)

pub decimal_without : (b : ℕ) → b < 48 → (n : ℕ) → Without b (decimal n)
decimal_without b h n = high_without b h (decimal n) (decimal_high n)

pub hex_without : (b : ℕ) → b < 48 → (bs : List ℕ) → Without b (hex bs)
hex_without b h bs = high_without b h (hex bs) (hex_high bs)

-- of a known text it is told by computing
abbrev pub without : ℕ → List ℕ → Bool
without b [] = true
without b (x ∷ l) = cond (eqb x b) false (without b l)

pub told_without : (b : ℕ) (l : List ℕ) → without b l ≡ true → Without b l
told_without b [] e = tt
told_without b (x ∷ l) e = let i = go (eqb x b) refl (without b l) e in (i.0, told_without b l i.1)
  where
    go : (t : Bool) → eqb x b ≡ t → (r : Bool) → cond t false r ≡ true → (x ≡ b → ⊥) × (r ≡ true)
    go true i r k = absurd (let z : ◌≡◌ {A = ℕ} 0 1 = cc in omega arith)
    go false i r k = (eqb-false x b i, k)

-- ---- cuts

-- what follows a text
pub cut_text : (v r s : List ℕ) → v ++ r ≡ v ++ s → r ≡ s
cut_text [] r s e = e
cut_text (b ∷ v) r s e = cut_text v r s (cc)

-- a text is cut at its first byte `stop` in one way
pub cut_at : (stop : ℕ) (v w r s : List ℕ) → Without stop v → Without stop w → v ++ (stop ∷ r) ≡ w ++ (stop ∷ s) → (v ≡ w) × (r ≡ s)
cut_at stop v w r s a b e =
    let i : v ≡ w = sym (up_to_unique stop v (stop ∷ r) a (inr (r, refl))) ∙ ap (up_to stop) e ∙ up_to_unique stop w (stop ∷ s) b (inr (s, refl)) in
    let k : stop ∷ r ≡ stop ∷ s = cut_text w (stop ∷ r) (stop ∷ s) (ap (λ (l : List ℕ). l ++ (stop ∷ r)) (sym i) ∙ e) in
    (i, cc)

-- a key, its number, and a byte that is no digit
pub cut_number : (stop : ℕ) → stop < 48 → (key : List ℕ) (m n : ℕ) (r s : List ℕ)
    → key ++ (decimal m ++ (stop ∷ r)) ≡ key ++ (decimal n ++ (stop ∷ s)) → (m ≡ n) × (r ≡ s)
cut_number stop h key m n r s e =
    let i = cut_at stop (decimal m) (decimal n) r s (decimal_without stop h m) (decimal_without stop h n) (cut_text key _ _ e) in
    (decimal_injective m n i.0, i.1)

-- a line: its last byte is a newline, and no other is
pub data Line : List ℕ → Type 0 where
  last : Line (10 ∷ [])
  next : {b : ℕ} {l : List ℕ} → (b ≡ 10 → ⊥) → Line l → Line (b ∷ l)

-- a text without newlines before a line is a line
pub line_after : (v : List ℕ) {l : List ℕ} → Without 10 v → Line l → Line (v ++ l)
line_after [] a x = x
line_after (b ∷ v) a x = next a.0 (line_after v a.1 x)

-- a line is not empty
pub some_line : {v : List ℕ} (t : List ℕ) → Line v → v ++ t ≡ [] → ⊥
some_line t last e = let z : ◌≡◌ {A = ℕ} 0 1 = cc in omega arith
some_line t (next n x) e = let z : ◌≡◌ {A = ℕ} 0 1 = cc in omega arith

-- a text is cut after its first line in one way
pub cut_line : {v w : List ℕ} (r s : List ℕ) → Line v → Line w → v ++ r ≡ w ++ s → (v ≡ w) × (r ≡ s)
cut_line r s last last e = (refl, cc)
cut_line r s last (next n x) e = absurd (n (cc))
cut_line r s (next n x) last e = absurd (n (cc))
cut_line r s (next n x) (next m y) e = let i = cut_line r s x y (cc) in (ap₂ (λ (b : ℕ) (l : List ℕ). b ∷ l) (cc) i.0, i.1)
