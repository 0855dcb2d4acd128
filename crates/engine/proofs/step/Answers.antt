-- The law of one call, where it sees its core and its line.
use Rattle.engine.proofs.{Performing.performs}
use Rattle.engine.proofs.step.Goals as goal

pub returns : goal.returns
returns c =
    rw c.write_back.ensures
    (performs _ _ _ _ _ c.input_refusal-refusal.ensures c.of-seen.ensures c.effect-effect.ensures (rw c.copy_start-start.ensures at c.span_of-span.ensures)
    (rw (c.given-read.ensures, c.about.ensures) at c.move_bytes.ensures))
