-- Laws of tests: two tests of one fact, what a call's negated answer says, and what a list of rules says where none applies.
use Prim.Native.Nat.{ℕ}
use mathlib.Core.{Path.{◌≡◌, refl, sym, ◌∙◌}, Bool.{Bool, true, false, not}}
use native.Mathlib.Omega.{arith}
use borrow.Author.Tests.{not-true, not-false}
use Rattle.protocol.specs.Pick.{both, fails}

-- a test that is both true and false
pub never : {X : Type 0} → true ≡ false → X
never e = let z : ◌≡◌ {A = ℕ} 0 1 = cc in absurd (omega arith)

-- both of two tests hold, or not both
pub both_true : (a b : Bool) → both a b ≡ true → (a ≡ true) × (b ≡ true)
both_true true b e = (refl, e)
both_true false b e = never (sym e)

pub both_false : (a b : Bool) → both a b ≡ false → a ≡ true → b ≡ false
both_false true b e i = e
both_false false b e i = never (sym i)

-- a test that was found false, or true, by the negated answer of a call
pub was_false : {t b : Bool} → t ≡ b → not t ≡ true → b ≡ false
was_false {t} p e = sym p ∙ not-true t e

pub was_true : {t b : Bool} → t ≡ b → not t ≡ false → b ≡ true
was_true {t} p e = sym p ∙ not-false t e

-- where the first of two tests was found true, the second decides
pub both_goes : {t a b x : Bool} → t ≡ a → not t ≡ false → x ≡ b → x ≡ both a b
both_goes p e h = rw (was_true p e) h

-- a negated answer is a test that fails
pub not_fails : (b : Bool) → not b ≡ fails b
not_fails true = refl
not_fails false = refl
