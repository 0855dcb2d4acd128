-- `convert::text::Text::put_opening` meets its contract: the line is as the grammar spells it. Assumes nothing.
use Rattle.convert.proofs.{Appending.{first_line_lem, second_line, append_more, append_same}}
use Rattle.convert.proofs.text.Text.put_opening.Goals as goal
use Rattle.convert.proofs.text.Text.put_opening.Goals.{in-First, in-Second}

pub returns : goal.returns
returns c =
    elim c.match-to.branch [
      | in-First w ↦
          rw w.in-First.is (append_same (first_line_lem c.args.opening) (append_more (rw (← w.self-is) at w.put_sizes.ensures) c.put.ensures))
      | in-Second w ↦
          rw w.in-Second.is
          (append_same (second_line c.args.opening)
          (append_more (append_more w.put_sizes-in-Second.ensures (rw (← w.self-is) at w.put_field.ensures)) c.put.ensures))
    ]
