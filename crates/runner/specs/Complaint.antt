-- What a program says on standard error of a read or a write that failed: a line.
use Rattle.std.specs.Prelude.{◌++◌, ◌∷◌, [], Option, Result}
use Rattle.protocol.specs.Buffers.{Bytes}
use Rattle.spelling.specs.Text.{text}
use Rattle.runner.specs.Moved.{Gave}
use Rattle.runner.specs.declared.streams.Fault.{Fault, TheVariants.{Reading, Writing}}

-- what failed
abbrev pub said : Fault → Bytes
said (Reading why) = text ": cannot read standard input: "
said (Writing why) = text ": cannot write standard output: "

-- a line that begins so and goes on with some words
abbrev pub line : Bytes → Bytes → Bytes
line start words = start ++ (words ++ 10 ∷ [])

-- a writer got a line that begins so and goes on with some words, the reason; at an error a beginning of it
abbrev pub SaysWhy : {T E : Type 0} → Option Bytes → Option Bytes → Result T E → Bytes → Type 0
SaysWhy old new r start = (words : Bytes) × Gave old new r (line start words)
