-- Whether bytes are a number, and whether they are data, can be told; of known bytes it is told by computing. Assumes nothing.
use Prim.Native.Nat.{ℕ, suc, ◌≤◌}
use mathlib.Core.{Path.{◌≡◌, refl, ◌∙◌, ap, ap₂}, List.{List, [], ◌∷◌}, Logic.{◌⊎◌, inl, inr}}
use native.Mathlib.Omega.{arith}
use lib.{Dec.{leb, eqb}, ListN.length}
use borrow.Author.Tests.{leb-true, leb-false, eqb-true, eqb-false}
use Rattle.spelling.specs.{Bytes.{All, Byte}, Decimal.{decimal, greatest, IsNumber}, Hex.{hex, unhex, IsData}}
use Rattle.spelling.proofs.{Lists.by_test, DecimalLaws.{value, value_decimal}, HexLaws.data_spelt}

-- P holds, or it does not
abbrev pub Told : Type 0 → Type 0
Told P = P ⊎ (P → ⊥)

unfoldable pub same_number : (a b : ℕ) → Told (a ≡ b)
same_number a b = by_test (eqb a b) (eqb-true a b) (eqb-false a b)

unfoldable pub at_most_lem : (a b : ℕ) → Told (a ≤ b)
at_most_lem a b = by_test (leb a b) (leb-true a b) (λ e h. omega (arith, leb-false a b e))

abbrev pub told_both : {P Q : Type 0} → Told P → Told Q → Told (P × Q)
told_both (inl p) (inl q) = inl (p, q)
told_both (inl p) (inr n) = inr (λ x. n x.1)
told_both (inr n) t = inr (λ x. n x.0)

-- what says the same as a fact that is told
abbrev told_as : {P Q : Type 0} → (P → Q) → (Q → P) → Told P → Told Q
told_as f g (inl p) = inl (f p)
told_as f g (inr n) = inr (λ q. n (g q))

unfoldable pub same_list : (a b : List ℕ) → Told (a ≡ b)
unfolding same_number
same_list [] [] = inl refl
same_list [] (y ∷ b) = inr (λ e. let z : ◌≡◌ {A = ℕ} 0 1 = cc in omega arith)
same_list (x ∷ a) [] = inr (λ e. let z : ◌≡◌ {A = ℕ} 0 1 = cc in omega arith)
same_list (x ∷ a) (y ∷ b) =
    told_as (λ p. ap₂ (λ (n : ℕ) (l : List ℕ). n ∷ l) p.0 p.1) (λ e. ((cc), (cc))) (told_both (same_number x y) (same_list a b))

unfoldable pub all_bytes : (l : List ℕ) → Told (All Byte l)
unfolding at_most_lem
all_bytes [] = inl tt
all_bytes (x ∷ l) = told_both (at_most_lem (suc x) 256) (all_bytes l)

unfoldable pub number_told : (v : List ℕ) → Told (IsNumber v)
unfolding at_most_lem same_list
number_told v = told_as (λ x. (value 0 v, x.0, x.1)) is (told_both (at_most_lem (value 0 v) greatest) (same_list v (decimal (value 0 v))))
  where
    is : IsNumber v → (value 0 v ≤ greatest) × (v ≡ decimal (value 0 v))
    is (n, h, e) = let u : value 0 v ≡ n = ap (value 0) e ∙ value_decimal n in rw u (h, e)

unfoldable pub data_told : (v : List ℕ) → Told (IsData v)
unfolding at_most_lem all_bytes same_list
data_told v =
    told_as (λ x. (unhex v, record { some = x.0; bytes = x.1.0; same = x.1.1 })) (λ d. let s = data_spelt v d in (s.some, (s.bytes, s.same)))
    (told_both (at_most_lem 1 (length (unhex v))) (told_both (all_bytes (unhex v)) (same_list v (hex (unhex v)))))
