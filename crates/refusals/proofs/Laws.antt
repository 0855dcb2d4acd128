-- The refusal that applies, if one does, and the first of two or three.
use Rattle.std.specs.Prelude.{ℕ, zero, suc, Option, Some, MatchOption, is_some}
use Rattle.std.specs.Option.{option_or}
use mathlib.Core.{Path.{◌≡◌, refl, sym}, Bool.{true, false}}
use Rattle.std.proofs.Math.Dec.{eqb-suc-zero}
use native.Mathlib.Omega.{arith}
use Rattle.protocol.{specs.{Refusals.or_else}, proofs.Tests.never}
use Rattle.refusals.specs.Input.{applies}

-- of three numbers the first that applies, however they are put together
pub or_assoc : (a b d : ℕ) → or_else a (or_else b d) ≡ or_else (or_else a b) d
or_assoc zero b d = refl
or_assoc (suc a) b d = rw (eqb-suc-zero a, eqb-suc-zero a)

-- what `or_else` gives of one refusal and, where it does not apply, another
pub chained : (a b : ℕ) (x y : Option ℕ) {P : Type 0} → x ≡ applies a → MatchOption x P (λ v. y ≡ Some v) → (P → y ≡ applies b) → y ≡ applies (or_else a b)
chained zero b x y e h f = f (rw e at h)
chained (suc a) b x y e h f = rw eqb-suc-zero (rw e at h)

-- a number that is not 0 is that of a refusal
pub applied : (n : ℕ) → (n ≡ 0 → ⊥) → applies n ≡ Some n
applied zero h = absurd (h refl)
applied (suc n) h = refl

-- whether one applies
pub none_applies : (n : ℕ) → is_some (applies n) ≡ false → n ≡ 0
none_applies zero e = refl
none_applies (suc n) e = never e

pub one_applies : (n : ℕ) → is_some (applies n) ≡ true → n ≡ 0 → ⊥
one_applies zero e h = never (sym e)
one_applies (suc n) e h = absurd (omega (arith, h))

-- the first of two that applies
pub or_applies : (a b : ℕ) → option_or (applies a) (applies b) ≡ applies (or_else a b)
or_applies zero b = refl
or_applies (suc a) b = rw eqb-suc-zero
