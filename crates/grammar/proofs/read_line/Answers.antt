-- `grammar::read_line` meets its contract: the rows of each form are one range of the table. Assumes nothing.
use native.Mathlib.Omega.{arith}
use Rattle.grammar.specs.{Line.too_long}
use Rattle.grammar.proofs.Judge.{none_answer, found_answer}
use Rattle.grammar.proofs.read_line.Goals as goal

pub returns-then-line-gt200 : goal.returns-then-line-gt200
returns-then-line-gt200 c = too_long c.if-line-gt200.true

pub returns-in-Some : goal.returns-in-Some
returns-in-Some c =
    let a = c.args in
    rw c.answer.ensures (found_answer a.form a.line.now (omega arith) c.in-Some.found (rw c.range_of.ensures at c.in-Some.ensures))

pub returns-in-None : goal.returns-in-None
returns-in-None c = let a = c.args in none_answer a.form a.line.now (omega arith) (rw c.range_of.ensures at c.in-None.ensures)
