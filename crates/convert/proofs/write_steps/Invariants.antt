-- `convert::write_steps` meets its contract. The loop's invariant is `Reached`, and the measure is what is left of the journal. A step is one fact, `made`, at the place where its effect is known. Assumes nothing.
use Prim.Native.Nat.{◌-◌}
use lib.ListN.{length}
use Rattle.convert.proofs.Loop.{Reached}
use Rattle.convert.proofs.write_steps.Given as goal

abbrev pub invariant-loop-item : goal.invariant-loop-item
invariant-loop-item l =
    Reached l.to l.journal l.opening l.from l.at l.s l.text l.refusal

abbrev pub decreases-loop-item : goal.decreases-loop-item
decreases-loop-item l = length l.journal - l.at
