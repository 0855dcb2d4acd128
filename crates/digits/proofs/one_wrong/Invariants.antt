-- No more are refused than were made.
use Rattle.std.proofs.Common.{◌≤◌}
use Rattle.digits.proofs.one_wrong.Given as goal

abbrev pub invariant-loop-i : goal.invariant-loop-i
invariant-loop-i g l = l.refused ≤ l.i
