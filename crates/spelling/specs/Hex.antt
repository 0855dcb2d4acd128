-- H of 01: bytes as lower-case hex pairs. Assumes nothing.
use Rattle.std.specs.Prelude.{ℕ, ◌+◌, ◌*◌, ◌/◌, ◌%◌, ◌≤◌, ◌<◌}
use mathlib.Core.{Path.◌≡◌, Bool.{Bool, cond}, List.{List, [], ◌∷◌}, Logic.◌⊎◌}
use lib.{Dec.ltb, ListN.length}
use Rattle.spelling.specs.Bytes.{All, Byte, Test}

-- the digit of a number below 16: 0 to 9, a to f
abbrev pub digit : ℕ → ℕ
digit d = cond (ltb d 10) (48 + d) (87 + d)

-- the number that a hex digit stands for: the codes of 0 to 9, which are below 64, end in it, to base 16, and those of a to f, which are not,
-- in 9 less. Of any other byte, some number below 16
abbrev pub nibble : ℕ → ℕ
nibble b = (b % 16 + 9 * (b / 64)) % 16

-- two digits a byte, the upper half first
unfoldable pub hex : List ℕ → List ℕ
hex [] = []
hex (b ∷ bs) = digit (b / 16) ∷ digit (b % 16) ∷ hex bs

-- the bytes that digits spell, two digits a byte, the upper half first; a digit that is left over spells nothing
unfoldable pub unhex : List ℕ → List ℕ
unhex [] = []
unhex (a ∷ []) = []
unhex (a ∷ b ∷ ds) = (nibble a * 16 + nibble b) ∷ unhex ds

-- the bytes v spell the data bs: one byte or more
pub record Spells (v bs : List ℕ) : Type 0 where
  pub some : 0 < length bs
  pub bytes : All Byte bs
  pub same : v ≡ hex bs

-- the bytes v are data of 01 (a wrong H is refusal 13)
abbrev pub IsData : List ℕ → Type 0
IsData v = (bs : List ℕ) × Spells v bs

-- whether the bytes v are data
abbrev pub DataTest : List ℕ → Bool → Type 0
DataTest v r = Test (IsData v) r

-- b is one of 0 to 9 and a to f
abbrev pub HexDigit : ℕ → Type 0
HexDigit b = ((48 ≤ b) × (b ≤ 57)) ⊎ ((97 ≤ b) × (b ≤ 102))

-- whether b is a hex digit
abbrev pub HexTest : ℕ → Bool → Type 0
HexTest b r = Test (HexDigit b) r
