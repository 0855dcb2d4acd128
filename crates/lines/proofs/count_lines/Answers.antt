-- Where reading goes on there is a line more, and less is left to read.
use mathlib.Core.Path.{sym, ap, ◌∙◌}
use native.Mathlib.Omega.{arith}
use Rattle.journal.specs.Theorems.{start}
use Rattle.lines.proofs.Walking.{counted, counted_more, left_smaller, lines_fit}
use Rattle.lines.proofs.count_lines.Goals as goal

pub loop-lines-init : goal.loop-lines-init
loop-lines-init c =
    let new = c.new.ensures in
    counted (ap (λ r. r.now) new.0) (rw (new.1, new.2) start) c.next-s.ensures

pub overflow_add-lines : goal.overflow_add-lines
overflow_add-lines c = omega (arith, lines_fit c.loop-lines.invariant (sym c.goes_on.ensures ∙ c.loop-lines-test.true))

pub loop-lines-smaller : goal.loop-lines-smaller
loop-lines-smaller c = left_smaller c.loop-lines.invariant (sym c.goes_on.ensures ∙ c.loop-lines-test.true) c.next-s-in-loop-lines.ensures

pub loop-lines-preserved : goal.loop-lines-preserved
loop-lines-preserved c = counted_more c.loop-lines.invariant (sym c.goes_on.ensures ∙ c.loop-lines-test.true) c.next-s-in-loop-lines.ensures
