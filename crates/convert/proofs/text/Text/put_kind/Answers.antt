-- `convert::text::Text::put_kind` meets its contract: one text after the other. Assumes nothing.
use Rattle.convert.proofs.Appending.{append_more}
use Rattle.convert.proofs.text.Text.put_kind.Goals as goal

pub returns : goal.returns
returns c = append_more c.put.ensures c.put-2.ensures
