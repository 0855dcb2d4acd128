-- Lists of bytes: what holds of each, and where the next byte of some kind is. Assumes nothing.
use Rattle.std.specs.Prelude.{ℕ, ◌<◌}
use mathlib.Core.{Path.◌≡◌, Bool.{Bool, true, false, cond}, List.{List, [], ◌∷◌}}
use Rattle.std.specs.Prelude.{eqb}

-- P holds of each number of the list
abbrev pub All : (ℕ → Type 0) → List ℕ → Type 0
All P [] = Unit
All P (b ∷ bs) = P b × All P bs

-- the byte b is none of the list
abbrev pub Without : ℕ → List ℕ → Type 0
Without b l = All (λ x. x ≡ b → ⊥) l

-- a byte is a number below 256
abbrev pub Byte : ℕ → Type 0
Byte b = b < 256

-- the bytes up to the next byte `stop`, or to the end
unfoldable pub up_to : ℕ → List ℕ → List ℕ
up_to stop [] = []
up_to stop (b ∷ bs) = cond (eqb b stop) [] (b ∷ up_to stop bs)

-- what a test of A answers: A where it is true, and not A where it is false
abbrev pub Test : Type 0 → Bool → Type 0
Test A true = A
Test A false = A → ⊥

-- P holds at each index below n
abbrev pub Below : ℕ → (ℕ → Type 0) → Type 0
Below n P = (k : ℕ) → k < n → P k
