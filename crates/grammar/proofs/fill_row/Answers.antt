-- `grammar::fill_row` meets its contract: in each arm, the row's own kind and keys. Assumes nothing.
use mathlib.Core.Path.{◌≡◌}
use native.Mathlib.Omega.{arith}
use Rattle.grammar.proofs.fill_row.Goals as goal

pub returns-in_default : goal.returns-in_default
returns-in_default c = let e : c.args.row ≡ 13 = omega arith in rw e c.read-in_default.ensures

pub returns-in-10 : goal.returns-in-10
returns-in-10 c = rw c.in-10.is c.read-in-10.ensures

pub returns-in-11 : goal.returns-in-11
returns-in-11 c = rw c.in-11.is c.read-in-11.ensures
