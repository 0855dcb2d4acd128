-- No more are refused than were made.
use Rattle.std.proofs.Common.{◌≤◌}
use Rattle.bench_calls.proofs.calls.Given as goal

abbrev pub invariant-loop : goal.invariant-loop
invariant-loop l = l.refused ≤ l.counter
