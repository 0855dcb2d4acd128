-- `listing::put_access` meets its contract: the line holds the four fields, from the last to the first, and the data come behind it. Assumes nothing.
use mathlib.Core.List.{append_assoc}
use Rattle.listing.proofs.Laws.{put_same}
use Rattle.listing.proofs.put_access.Goals as goal

pub returns : goal.returns
returns c =
    put_same (simp (c.line.ensures, c.field-4.ensures.text, c.field-3.ensures.text, c.field-2.ensures.text, c.field.ensures.text, c.text.ensures.text, c.new-head.ensures.text, append_assoc)) c.put_with_data.ensures
