-- Exactly one answer: how a promise by cases is shown to leave no freedom. Assumes nothing.
use Rattle.std.specs.Prelude.{◌≡◌}

-- P holds of one answer, and of no other
pub record One {A : Type 0} (P : A → Type 0) : Type 0 where
  pub answer : A
  pub holds : P answer
  pub only : (b : A) → P b → b ≡ answer
