-- `spelling::read_number` meets its contract. The invariant: the bytes passed spell the value so far. Assumes nothing.
use Rattle.std.proofs.Common.{◌≡◌, ◌+◌, ◌≤◌, take}
use Rattle.spelling.specs.Decimal.{decimal, greatest}
use Rattle.spelling.proofs.read_number.Given as goal

abbrev pub invariant-loop-b : goal.invariant-loop-b
invariant-loop-b l = (l.v ≤ greatest) × (take (l.b-index + 1) l.s ≡ decimal l.v)
