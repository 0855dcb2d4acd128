-- A store in digits is the store of the bytes that they spell (02, Three): "For every input it gives what store gives for the bytes spelt, both
-- buffers included; wrong digits are 13, the first check."
use Rattle.std.specs.Prelude.{ℕ, ◌≡◌}
use Rattle.spelling.specs.Hex.{Spells, IsData}
use Rattle.protocol.specs.{Buffers.Bytes, Machine.Machine, Step.{refused, step}}
use Rattle.protocol.specs.declared.{Call.TheVariants.Store, Given.TheVariants.{Bytes as AsBytes, Digits as AsDigits}}

-- for every machine, core and line: digits that spell bs give what bs give; digits that spell nothing give 13 and the machine as it was
abbrev pub DigitsTheorem : Type 0
DigitsTheorem =
    (m : Machine) (c l : ℕ) (ds : Bytes)
    → ((bs : Bytes) → Spells ds bs → step m (Store AsDigits c l) ds ≡ step m (Store AsBytes c l) bs)
    × ((IsData ds → ⊥) → step m (Store AsDigits c l) ds ≡ record { reply = refused 13; machine = m })
