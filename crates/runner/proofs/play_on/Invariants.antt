-- Each call that goes on gets further on in the journal.
use Rattle.std.proofs.Common.{◌≡◌, ◌-◌, length}
use Rattle.runner.proofs.Calling.{Called}
use Rattle.runner.proofs.play_on.Given as goal

abbrev pub invariant-loop-there : goal.invariant-loop-there
invariant-loop-there g l =
    (length l.private ≡ length l.initial.private) × (length l.shared ≡ length l.initial.shared) × (length l.out ≡ length l.initial.out)
    × Called l.journal l.initial.there l.initial.private l.initial.shared l.there l.private l.shared l.out l.texts (g.W.Write.contents l.initial.to) (g.W.Write.contents l.to)

abbrev pub decreases-loop-there : goal.decreases-loop-there
decreases-loop-there g l = length l.journal - l.there.at
