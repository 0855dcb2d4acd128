-- The line that a refused conversion has on standard error.
use Rattle.std.specs.Prelude.{ℕ, ◌≤◌, length, drop}
use mathlib.Core.{Path.◌≡◌, List.◌++◌}
use Rattle.protocol.specs.Buffers.{Bytes}
use Rattle.spelling.specs.{Text.text, Decimal.decimal}

-- `refused=14`
abbrev pub refusal_text : ℕ → Bytes
refusal_text n = text "refused=" ++ decimal n ++ text "\n"

-- a buffer of 32 bytes ends with the line, which starts at an offset
pub record RefusalLine (n : ℕ) (line : Bytes) (start : ℕ) : Type 0 where
  pub size : length line ≡ 32
  pub within : start ≤ 32
  pub text : drop start line ≡ refusal_text n
