-- `spelling::clear_len` meets its contract: eight bytes without `stop` more. Assumes nothing.
use Rattle.std.proofs.Common.{arith, ◌∙◌}
use Rattle.spelling.proofs.Split.{up_to_run}
use Rattle.spelling.proofs.clear_len.Goals as goal

pub loop-eight-preserved : goal.loop-eight-preserved
loop-eight-preserved c =
    let l = c.loop-eight in
    let eight = c.in-Some.ensures.steps.1 in
    let run = up_to_run c.args.stop c.args.s.now c.in-Some.eight.now c.next.new.self.rest.now l.n 8 l.invariant.within (omega arith) (l.invariant.left ∙ eight.0) c.if-not-is_clear.ensures in
    record { size = omega arith; within = omega (arith, run); left = run.0; clear = omega arith }
