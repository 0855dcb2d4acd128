-- A form of the grammar: a line as 01 writes it, where N stands for a number, H for data, and every other byte for itself.
-- Assumes nothing.
use Rattle.std.specs.Prelude.{ℕ, ◌≤◌, ◌<◌}
use mathlib.Core.{Path.◌≡◌, Bool.cond, List.{List, [], ◌∷◌, ◌++◌}}
use lib.{Dec.eqb, ListN.length}
use Rattle.spelling.specs.{Bytes.{All, Byte, Without}, Decimal.{decimal, greatest, IsNumber}, Hex.{hex, IsData}}

-- the kinds of value: N, a number, and H, data as hex pairs
pub data Value : Type 0 where
  number pairs : Value

-- a part of a form: a byte of fixed text, or a value
pub data Part : Type 0 where
  fixed : ℕ → Part
  value : Value → Part

-- what a byte of a form's text stands for: 78 is N, 72 is H
abbrev pub part_of : ℕ → Part
part_of b = cond (eqb b 78) (value number) (cond (eqb b 72) (value pairs) (fixed b))

-- a form's text, part by part
abbrev pub parts : List ℕ → List Part
parts [] = []
parts (b ∷ bs) = part_of b ∷ parts bs

-- the line of a form with these values: its text, with a value for each N and H
unfoldable pub lay : List Part → List (List ℕ) → List ℕ
lay [] vs = []
lay (fixed b ∷ p) vs = b ∷ lay p vs
lay (value q ∷ p) [] = []
lay (value q ∷ p) (v ∷ vs) = v ++ lay p vs

-- there is one value for each N and H, and P holds of each, given its kind
unfoldable pub Each : (Value → List ℕ → Type 0) → List Part → List (List ℕ) → Type 0
Each P [] [] = Unit
Each P [] (v ∷ vs) = ⊥
Each P (fixed b ∷ p) vs = Each P p vs
Each P (value q ∷ p) [] = ⊥
Each P (value q ∷ p) (v ∷ vs) = P q v × Each P p vs

-- 01: "a value is the bytes after its = up to the next blank or the line's end", so a value has no blank in it
abbrev pub NoBlank : List ℕ → Type 0
NoBlank v = Without 32 v

-- the line s has the form p, with the values vs, right or wrong
pub record Has (s : List ℕ) (p : List Part) (vs : List (List ℕ)) : Type 0 where
  pub fit : Each (λ q v. NoBlank v) p vs
  pub laid : s ≡ lay p vs

-- a value where an N is is a number, else 12
abbrev pub RightNumber : Value → List ℕ → Type 0
RightNumber number v = IsNumber v
RightNumber pairs v = Unit

-- a value where an H is is data, else 13
abbrev pub RightData : Value → List ℕ → Type 0
RightData number v = Unit
RightData pairs v = IsData v

-- what a form is given to be spelt: a number for each N, and bytes where there is an H, which is a form's last part
unfoldable pub Given : List Part → List ℕ → List ℕ → Type 0
Given [] ns bs = (ns ≡ []) × (bs ≡ [])
Given (fixed b ∷ p) ns bs = Given p ns bs
Given (value number ∷ p) [] bs = ⊥
Given (value number ∷ p) (n ∷ ns) bs = (n ≤ greatest) × Given p ns bs
Given (value pairs ∷ p) ns bs = (ns ≡ []) × (0 < length bs) × All Byte bs

-- the numbers ns and the bytes bs as the form's values
unfoldable pub spellings : List Part → List ℕ → List ℕ → List (List ℕ)
spellings [] ns bs = []
spellings (fixed b ∷ p) ns bs = spellings p ns bs
spellings (value number ∷ p) [] bs = []
spellings (value number ∷ p) (n ∷ ns) bs = decimal n ∷ spellings p ns bs
spellings (value pairs ∷ p) ns bs = hex bs ∷ spellings p ns bs

-- the line that spells the numbers ns and the bytes bs in the form p
abbrev pub spell : List Part → List ℕ → List ℕ → List ℕ
spell p ns bs = lay p (spellings p ns bs)
