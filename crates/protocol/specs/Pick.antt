-- Choices by a test, and lists of rules of which the first that applies decides.
use Rattle.std.specs.Prelude.{ℕ, ◌+◌}
use mathlib.Core.{Bool.{Bool, true, false}, List.{List, [], ◌∷◌}}

-- the first of two values where the test holds, else the second
abbrev pub pick : {A : Type 0} → Bool → A → A → A
pick true a b = a
pick false a b = b

-- both tests hold
abbrev pub both : Bool → Bool → Bool
both a b = pick a b false

-- the test does not hold
abbrev pub fails : Bool → Bool
fails a = pick a false true

-- the test holds of every element
unfoldable pub every : {A : Type 0} → (A → Bool) → List A → Bool
every f [] = true
every f (x ∷ xs) = pick (f x) (every f xs) false

-- how many elements pass the test
unfoldable pub how_many : {A : Type 0} → (A → Bool) → List A → ℕ
how_many f [] = 0
how_many f (x ∷ xs) = pick (f x) 1 0 + how_many f xs

-- a refusal: its number, and whether it applies
pub record Rule : Type 0 where
  pub applies : Bool
  pub number : ℕ

infix 1 ◌gives◌
-- a rule, as it is written in a list
abbrev pub ◌gives◌ : Bool → ℕ → Rule
a gives n = record { applies = a; number = n }

-- "Checked in this order; first that applies": its number, or 0 where none applies
unfoldable pub first : List Rule → ℕ
first [] = 0
first (r ∷ rs) = pick r.applies r.number (first rs)
