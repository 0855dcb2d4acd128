-- `spelling::put_hex` meets its contract. The invariant: there is room, and the buffer holds the digits of the bytes that were passed. Assumes nothing.
use Rattle.std.proofs.Common.{◌≡◌, ◌≤◌, ◌+◌, ◌*◌, length}
use lib.Seq.{paste}
use Rattle.spelling.specs.Hex.{hex}
use Rattle.spelling.proofs.put_hex.Given as goal

abbrev pub invariant-loop-i : goal.invariant-loop-i
invariant-loop-i l = (l.at + 2 * length l.bytes ≤ length l.initial.out) × (l.out ≡ paste l.initial.out l.at (hex l.bytes) (2 * l.i))
