-- `driver::play` meets its contract. The loop's invariant: the lengths of both buffers and the opening stay, and `Reached`. The measure is what is left of the
-- journal. A step is one fact, `made`, at the place where its effect is known; what comes later goes by it. Assumes nothing.
use Prim.Native.Nat.{◌-◌}
use mathlib.Core.Path.{◌≡◌}
use lib.ListN.{length}
use Rattle.driver.proofs.Loop.{Reached}
use Rattle.driver.proofs.play.Given as goal

abbrev pub invariant-loop-last : goal.invariant-loop-last
invariant-loop-last l =
    (length l.private ≡ length l.initial.private)
    × (length l.shared ≡ length l.initial.shared)
    × (l.opening ≡ l.here.state.opening)
    × Reached l.journal l.initial.here l.initial.private l.initial.shared l.initial.out l.base l.private l.shared l.out l.here l.used

abbrev pub decreases-loop-last : goal.decreases-loop-last
decreases-loop-last l = length l.journal - l.here.at
