-- `spelling::run_end` meets its contract. The invariant: from where the search is, the byte is as far as it was from the start. Assumes nothing.
use Rattle.std.proofs.Common.{◌≡◌, ◌+◌, length, drop}
use Rattle.spelling.specs.Bytes.{up_to}
use Rattle.spelling.proofs.run_end.Given as goal

abbrev pub invariant-loop-i : goal.invariant-loop-i
invariant-loop-i l = l.at + length (up_to l.stop (drop l.at l.s)) ≡ l.i + length (up_to l.stop (drop l.i l.s))
