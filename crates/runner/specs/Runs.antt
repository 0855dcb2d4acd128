-- What a program does that reads a journal and writes a text, for an input and an output whose bytes are known.
use Rattle.std.specs.Prelude.{◌++◌, Option, Result, Ok, Err}
use Rattle.std.specs.Io.KnownBytes.{Appends, Keeps}
use Rattle.protocol.specs.Buffers.{Bytes}
use Rattle.runner.specs.Moved.{Given}
use Rattle.runner.specs.declared.streams.Fault.{Fault, TheVariants.{Reading, Writing}}

-- IsAnswer says which value and which text a journal has. old and new are the input's bytes before and after, before and after those of the
-- output
pub data Runs {T : Type 0} (IsAnswer : Bytes → T → Bytes → Type 0) (old new before after : Option Bytes) : Result T Fault → Type 0 where
  -- the output got the text of the journal that the input gave, and nothing else
  done :
      (journal text : Bytes) {v : T} → Given old new journal → IsAnswer journal v text → Appends before after text
      → Runs IsAnswer old new before after (Ok v)
  -- the input could not be read, and the output got nothing
  unread : {why : _} → Keeps before after → Runs IsAnswer old new before after (Err (Reading why))
  -- the output took no more, and got a beginning of the text
  unwritten :
      (journal text rest : Bytes) (v : T) {why : _} → Given old new journal → IsAnswer journal v (text ++ rest) → Appends before after text
      → Runs IsAnswer old new before after (Err (Writing why))
