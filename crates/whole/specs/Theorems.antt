-- The theorems about a whole journal at once: one answer each. Assumes nothing.
use Rattle.protocol.specs.Buffers.{Bytes}
use Rattle.spelling.specs.One.{One}
use Rattle.whole.specs.{Whole.{Lists, Checks}, declared.Checked.Checked}
use Rattle.std.specs.Prelude.{ℕ, Option}

-- what listing a journal leaves: its answer, and the buffer
pub record Listed : Type 0 where
  pub answer : Option ℕ
  pub buffer : Bytes

-- each journal and buffer has exactly one answer of `list`, and one buffer after it
abbrev pub OneListedTheorem : Type 0
OneListedTheorem = (journal old : Bytes) → One (λ (x : Listed). Lists journal old x.buffer x.answer)

-- each journal has exactly one answer of `check`
abbrev pub OneCheckTheorem : Type 0
OneCheckTheorem = (journal : Bytes) → One (λ (x : Checked). Checks journal x.refusal x.line)
