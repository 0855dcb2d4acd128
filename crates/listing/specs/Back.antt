-- The parts of a line of text that is built back to front. Assumes nothing.
use Rattle.std.specs.Prelude.{ℕ, ◌*◌, List, ◌++◌}
use Rattle.spelling.specs.{Text.text, Decimal.decimal}
use Rattle.protocol.specs.declared.Given.{Given, TheVariants.{Bytes, Digits}}

-- how many digits data have: two a byte
abbrev pub digit_count : Given → ℕ → ℕ
digit_count Bytes n = 2 * n
digit_count Digits n = n

-- the record of a load or a store, whose text before the core is `commit`, with the digits of its data
abbrev pub access : ℕ → List ℕ → ℕ → ℕ → ℕ → List ℕ → List ℕ
access n commit core line ts digits =
    text "n=" ++ decimal n ++ commit ++ decimal core ++ text " line=" ++ decimal line ++ text " ts=" ++ decimal ts ++ text " data=" ++ digits
    ++ text "\n"
