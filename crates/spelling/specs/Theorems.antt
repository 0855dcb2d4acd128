-- What is proved of the spelling: reading a number leaves no freedom, what is printed is read back as it was, and what is read prints as
-- it was. Assumes nothing.
use Rattle.std.specs.Prelude.{ℕ, ◌≤◌}
use mathlib.Core.{Path.◌≡◌, List.List}
use Rattle.spelling.specs.{Bytes.{All, Byte}, One.One, Decimal.{decimal, greatest, NumberOf}, Hex.{hex, unhex, IsData}}
use Rattle.std.specs.Prelude.{Option, Some}

-- bytes are exactly one number, or none
abbrev pub NumberOneTheorem : Type 0
NumberOneTheorem = (v : List ℕ) → One (NumberOf v)

-- a number that is printed is read back; one that is read prints as it was
abbrev pub DecimalRoundTripTheorem : Type 0
DecimalRoundTripTheorem =
    ((n : ℕ) (r : Option ℕ) → n ≤ greatest → NumberOf (decimal n) r → r ≡ Some n)
    × ((s : List ℕ) (n : ℕ) → NumberOf s (Some n) → decimal n ≡ s)

-- the digits that are printed of bytes spell those bytes; data spell bytes that print as they were
abbrev pub HexRoundTripTheorem : Type 0
HexRoundTripTheorem = ((bs : List ℕ) → All Byte bs → unhex (hex bs) ≡ bs) × ((v : List ℕ) → IsData v → hex (unhex v) ≡ v)
