-- `convert::text::Text::put_line` meets its contract where the line changes its kind from or to writeback: the new kind, and the line from its keys on. Assumes nothing.
use Rattle.spelling.specs.Text.{text}
use Rattle.convert.proofs.{Appending.{append_same, from_on}}
use Rattle.convert.proofs.text.Text.put_line.Goals as goal

pub returns-in-ToWriteback : goal.returns-in-ToWriteback
returns-in-ToWriteback c =
    rw c.in-ToWriteback.is (append_same (from_on (text "op=writeback") 8 c.args.line.now) c.put_kind-in-ToWriteback.ensures)

pub returns-in-FromWriteback : goal.returns-in-FromWriteback
returns-in-FromWriteback c =
    rw c.in-FromWriteback.is (append_same (from_on (text "op=evict") 12 c.args.line.now) c.put_kind-in-FromWriteback.ensures)
