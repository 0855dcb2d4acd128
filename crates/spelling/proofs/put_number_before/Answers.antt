-- `spelling::put_number_before` meets its contract. The loop's invariant: the digits so far are before the offset, and come after those of `m`.
-- Assumes nothing.
use Rattle.std.proofs.Common.{arith}
use Rattle.spelling.proofs.OverLaws.{digits_room, digits_next, digits_last}
use Rattle.spelling.proofs.put_number_before.Goals as goal

pub overflow_sub-k : goal.overflow_sub-k
overflow_sub-k c = omega (arith, digits_room _ _ _ _ _ _ c.loop-m.invariant)

pub loop-m-preserved : goal.loop-m-preserved
loop-m-preserved c = digits_next _ _ _ _ _ _ c.loop-m.invariant (omega arith)

pub overflow_sub-k-2 : goal.overflow_sub-k-2
overflow_sub-k-2 c = omega (arith, digits_room _ _ _ _ _ _ c.loop-m.invariant)

pub returns : goal.returns
returns c = digits_last _ _ _ _ _ _ c.loop-m.invariant (omega arith)
