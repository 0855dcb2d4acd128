-- `grammar::call_of` meets its contract: what the row says of its numbers. Assumes nothing.
use mathlib.Core.Path.{◌≡◌}
use native.Mathlib.Omega.{arith}
use Rattle.grammar.proofs.call_of.Goals as goal

pub returns-in_default : goal.returns-in_default
returns-in_default c = let e : c.args.row ≡ 11 = omega arith in rw e

pub returns-in-2 : goal.returns-in-2
returns-in-2 c = rw c.in-2.is
