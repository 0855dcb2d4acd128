-- No product passes the largest number, since the sizes lie inside the limits.
use borrow.Author.Tests.{eq-eqb, ne_eqb}
use native.Mathlib.Omega.{arith}
use Rattle.protocol.{specs.Refusals.buffers_fit, proofs.Extents.{inside, copies_most, private_most, rows_most, shared_most}}
use Rattle.refusals.proofs.input.buffers_fit.Goals as goal

pub overflow_mul-cores : goal.overflow_mul-cores
overflow_mul-cores c = let m = copies_most (inside _ c.requires) in omega arith

pub overflow_mul-cores-2 : goal.overflow_mul-cores-2
overflow_mul-cores-2 c = let m = private_most (inside _ c.requires) in omega arith

pub overflow_mul-result : goal.overflow_mul-result
overflow_mul-result c = let m = inside _ c.requires in omega arith

pub overflow_add-result : goal.overflow_add-result
overflow_add-result c = let m = rows_most (inside _ c.requires) in omega arith

pub overflow_mul-result-then-private-cores : goal.overflow_mul-result-then-private-cores
overflow_mul-result-then-private-cores c = let m = shared_most (inside _ c.requires) in omega arith

pub returns-then-private-cores : goal.returns-then-private-cores
unfolding buffers_fit
returns-then-private-cores c = rw (eq-eqb _ _ c.if-private-cores.true)

pub returns-else-private-cores : goal.returns-else-private-cores
unfolding buffers_fit
returns-else-private-cores c = rw (ne_eqb _ _ c.if-private-cores.false)
