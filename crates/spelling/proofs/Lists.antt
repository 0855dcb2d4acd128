-- Laws on lists of bytes. Assumes nothing.
use Prim.Native.Nat.{ℕ, zero, suc, ◌≤◌, ◌<◌, zero-le, suc-le-suc}
use mathlib.Core.{Path.{◌≡◌, refl}, Bool.{Bool, true, false}, List.{List, [], ◌∷◌, ◌++◌}, Logic.{◌⊎◌, inl, inr}}
use native.Mathlib.Nat.{le_of_suc-le-suc, not-suc-le-zero}
use lib.{ListN.{length, get_or}, Dec.leb}
use borrow.Author.Tests.{leb-true, leb-false}
use Rattle.spelling.specs.Bytes.{All}

-- one of two facts, by a test
abbrev pub by_test : {A B : Type 0} (t : Bool) → (t ≡ true → A) → (t ≡ false → B) → A ⊎ B
by_test true f g = inl (f refl)
by_test false f g = inr (g refl)

unfoldable pub le_or_lt : (a b : ℕ) → (a ≤ b) ⊎ (b < a)
le_or_lt a b = by_test (leb a b) (leb-true a b) (leb-false a b)

-- b is no less than the digit 0
abbrev pub High : ℕ → Type 0
High b = 48 ≤ b

pub all_append : (P : ℕ → Type 0) (p q : List ℕ) → All P p → All P q → All P (p ++ q)
all_append P [] q a b = b
all_append P (x ∷ p) q a b = (a.0, all_append P p q a.1 b)

pub all_at : (P : ℕ → Type 0) (l : List ℕ) → All P l → (i : ℕ) → i < length l → P (get_or l i 0)
all_at P [] a i h = absurd (not-suc-le-zero h)
all_at P (x ∷ l) a zero h = a.0
all_at P (x ∷ l) a (suc i) h = all_at P l a.1 i (le_of_suc-le-suc h)

-- what holds at each index holds of each byte
pub all_from : (P : ℕ → Type 0) (l : List ℕ) → ((k : ℕ) → k < length l → P (get_or l k 0)) → All P l
all_from P [] f = tt
all_from P (x ∷ l) f = (f 0 (suc-le-suc zero-le), all_from P l (λ k h. f (suc k) (suc-le-suc h)))
