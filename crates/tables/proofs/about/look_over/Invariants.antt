-- The copies of the lines passed are gone through.
use mathlib.Core.Path.{◌≡◌}
use Rattle.protocol.specs.Machine.{copy_at}
use Rattle.tables.specs.Look.{look_to}
use Rattle.tables.proofs.about.look_over.Given as goal

abbrev pub invariant-loop-line : goal.invariant-loop-line
invariant-loop-line l = l.look ≡ look_to (copy_at l.state l.core) l.line
