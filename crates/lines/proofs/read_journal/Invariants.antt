-- Each pass of the loop reads a byte or more.
use Rattle.std.proofs.Common.{◌≡◌, ◌-◌, ◌≤◌, length}
use Rattle.lines.proofs.read_journal.Given as goal

abbrev pub invariant-loop-done : goal.invariant-loop-done
invariant-loop-done g l = (length l.journal ≡ 65537) × (l.done ≤ 65537)

abbrev pub decreases-loop-done : goal.decreases-loop-done
decreases-loop-done g l = 65537 - l.done
