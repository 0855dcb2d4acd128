-- `grammar::find` meets its contract: only one row may have the line. Assumes nothing.
use native.Mathlib.Omega.{arith}
use Rattle.std.proofs.lemmas.Bool.Decides.{nat_tests}
use Rattle.grammar.proofs.{Judge.{none_short, none_there}}
use Rattle.grammar.proofs.find.Goals as goal

pub returns-then-line-lt8 : goal.returns-then-line-lt8
returns-then-line-lt8 c = none_short c.args.line.now c.args.rows c.requires (omega arith)

pub returns-then-not-contains : goal.returns-then-not-contains
returns-then-not-contains c = none_there c.args.line.now c.args.rows _ c.requires c.row_at-row.ensures (λ a b. absurd (grind (arith, nat_tests, c.if-not-contains.ensures.value)))

pub returns-in_err-values : goal.returns-in_err-values
returns-in_err-values c = rw c.from_residual.ensures (none_there c.args.line.now c.args.rows _ c.requires c.row_at-row.ensures (λ a b. c.in_err-values.ensures))
