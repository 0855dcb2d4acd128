-- `spelling::all_hex` meets its contract. The invariant: the contract, of the bytes passed. Assumes nothing.
use Rattle.std.proofs.Common.{get_or}
use Rattle.spelling.specs.{Bytes.{Test, Below}, Hex.HexDigit}
use Rattle.spelling.proofs.all_hex.Given as goal

abbrev pub invariant-loop-b : goal.invariant-loop-b
invariant-loop-b l = Test (Below l.b-index (λ k. HexDigit (get_or l.s k 0))) l.ok
