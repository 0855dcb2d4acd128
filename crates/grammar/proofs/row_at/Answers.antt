-- `grammar::row_at` meets its contract: each row has a tag of its own. Assumes nothing.
use Prim.Native.Nat.{◌+◌, ◌*◌, ◌%◌}
use native.Mathlib.Omega.{arith}
use Rattle.grammar.proofs.{Rows.{letter_high, row_by_tag}}
use Rattle.grammar.proofs.row_at.Goals as goal

pub returns : goal.returns
returns c = rw (c.from-3.ensures, c.from.ensures, c.from-2.ensures) (row_by_tag _)

pub overflow_sub-from : goal.overflow_sub-from
overflow_sub-from c = letter_high 0 32 ((c.from.result * 15 + c.from-2.result) % 32) (omega arith)
