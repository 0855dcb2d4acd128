-- Laws of tests: what a computed Boolean says, and of tests made of others. Assumes nothing.
use Prim.Native.Nat.{ℕ, ◌+◌, ◌≤◌}
use mathlib.Core.{Path.{◌≡◌, refl}, Bool.{Bool, true, false, not, ◌&&◌, ◌||◌}, Logic.{◌⊎◌, inl, inr, ⊎_elim}, List.List}
use native.Mathlib.Omega.{arith}
use lib.{Dec.{leb, eqb}, ListN.{length, get_or}}
use borrow.Author.{Tests.{leb-true, leb-false, eqb-true, eqb-false, not-true, not-false}, Count.below_more}
use Rattle.spelling.specs.Bytes.{All, Test, Below}
use Rattle.spelling.proofs.Lists.{all_from, all_at}

test_by : {A : Type 0} (t : Bool) → (t ≡ true → A) → (t ≡ false → A → ⊥) → Test A t
test_by true f g = f refl
test_by false f g = g refl

test_at_most : (a b : ℕ) → Test (a ≤ b) (leb a b)
test_at_most a b = test_by (leb a b) (leb-true a b) (λ e h. omega (arith, leb-false a b e))

pub test_same : (a b : ℕ) → Test (a ≡ b) (eqb a b)
test_same a b = test_by (eqb a b) (eqb-true a b) (eqb-false a b)

pub test_other : (a b : ℕ) → Test (a ≡ b → ⊥) (not (eqb a b))
test_other a b = test_by (not (eqb a b)) (λ e. eqb-false a b (not-true (eqb a b) e)) (λ e n. n (eqb-true a b (not-false (eqb a b) e)))

test_both : (A B : Type 0) (t u : Bool) → Test A t → Test B u → Test (A × B) (t && u)
test_both A B true true a b = (a, b)
test_both A B true false a b = λ h. b h.1
test_both A B false u a b = λ h. a h.0

pub test_within : (a b c : ℕ) → Test ((a ≤ b) × (b ≤ c)) (leb a b && leb b c)
test_within a b c = test_both (a ≤ b) (b ≤ c) (leb a b) (leb b c) (test_at_most a b) (test_at_most b c)

pub test_either : (A B : Type 0) (t u : Bool) → Test A t → Test B u → Test (A ⊎ B) (t || u)
test_either A B true u a b = inl a
test_either A B false true a b = inr b
test_either A B false false a b = ⊎_elim a b

-- a test of each index below n, and the next
pub test_more : (P : ℕ → Type 0) (n : ℕ) (t u : Bool) → Test (Below n P) t → Test (P n) u → Test (Below (n + 1) P) (t && u)
test_more P n true true a b = below_more _ n a b
test_more P n true false a b = λ h. b (h n (omega arith))
test_more P n false u a b = λ h. a (λ k l. h k (omega arith))

-- a test of each byte is one of all
pub test_all : (P : ℕ → Type 0) (s : List ℕ) (n : ℕ) (t : Bool) → n ≡ length s → Test (Below n (λ k. P (get_or s k 0))) t → Test (All P s) t
test_all P s n true e a = all_from P s (λ k h. a k (omega arith))
test_all P s n false e a = λ x. a (λ k h. all_at P s x k (omega arith))
