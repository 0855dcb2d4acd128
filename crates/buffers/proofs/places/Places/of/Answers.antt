-- The places lie in the buffers, since the sizes lie inside the limits.
use mathlib.Core.Path.{sym, ◌∙◌}
use Rattle.protocol.proofs.Extents.{inside, there_at}
use Rattle.buffers.proofs.places.Places.of.Goals as goal

pub invariant_of-result : goal.invariant_of-result
invariant_of-result c =
    record { there = there_at (inside _ (sym c.fits.ensures ∙ c.if-fits.true)) c.if-core-opening.true c.if-line-opening.true }
