-- `spelling::put_unhex` meets its contract. The invariant: there is room, and the buffer holds the bytes of the digits that were passed. Assumes nothing.
use Rattle.std.proofs.Common.{◌≡◌, ◌≤◌, ◌+◌, ◌*◌, length, drop}
use lib.Seq.{paste}
use Rattle.spelling.specs.Hex.{unhex}
use Rattle.spelling.proofs.put_unhex.Given as goal

abbrev pub invariant-loop-i : goal.invariant-loop-i
invariant-loop-i l =
    let pairs = l.i-iterator.iter in
    let i = l.i-iterator.count in record {
      room : l.at + length (unhex l.digits) ≤ length l.initial.out;
      within : i ≤ length (unhex l.digits);
      size : pairs.size ≡ 2;
      left : drop (2 * i) l.digits ≡ pairs.rest.now;
      laid : l.out ≡ paste l.initial.out l.at (unhex l.digits) i;
    }
