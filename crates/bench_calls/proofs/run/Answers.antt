-- The lengths of the buffers of an opening that fits are at most those of the greatest.
use native.Mathlib.Omega.{arith}
use Rattle.protocol.proofs.Extents.{inside, length_inside, private_most, shared_most}
use Rattle.bench_calls.proofs.run.Goals as goal

pub slice_bounds-private-end : goal.slice_bounds-private-end
slice_bounds-private-end g c = omega (arith, length_inside _ _ _ c.requires c.private_length.ensures, private_most (inside _ c.requires))

pub slice_bounds-shared-end : goal.slice_bounds-shared-end
slice_bounds-shared-end g c = omega (arith, length_inside _ _ _ c.requires c.shared_length.ensures, shared_most (inside _ c.requires))

pub slice_bounds-calls-end : goal.slice_bounds-calls-end
slice_bounds-calls-end g c = (inside _ c.requires).most_width
