-- What `to1` and `to2` say on standard error.
use Rattle.std.specs.Prelude.{ℕ, ◌++◌, Option, Result, Ok, Err, IsOk}
use Rattle.std.specs.Io.KnownBytes.{Keeps}
use Rattle.protocol.specs.Buffers.{Bytes}
use Rattle.grammar.specs.{Refusal.number, declared.Refusal.{Refusal}}
use Rattle.runner.specs.{Moved.Gave, Complaint.{said, SaysWhy}, declared.streams.Fault.Fault}
use Rattle.converter.specs.Refusal.{refusal_text}

-- a writer got nothing of a result, the line of a refusal, or one that says which program failed, at what, and why; at an error a beginning of the
-- line
abbrev pub Reports : {T E : Type 0} → Option Bytes → Option Bytes → Bytes → Result (Result ℕ Refusal) Fault → Result T E → Type 0
Reports old new program (Ok (Ok n)) r = Keeps old new × IsOk r
Reports old new program (Ok (Err refusal)) r = Gave old new r (refusal_text (number refusal))
Reports old new program (Err fault) r = SaysWhy old new r (program ++ said fault)
