-- `whole::check_steps` meets its contract: each line that is read lies before the next one. Assumes nothing.
use Prim.Native.Nat.{◌-◌}
use lib.ListN.{length}
use Rattle.whole.proofs.{Checking.{Passed}}
use Rattle.whole.proofs.check_steps.Given as goal

abbrev pub invariant-loop-next : goal.invariant-loop-next
invariant-loop-next l = Passed l.journal l.form l.from l.at l.line

abbrev pub decreases-loop-next : goal.decreases-loop-next
decreases-loop-next l = length l.journal - l.at
