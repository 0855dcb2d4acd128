-- `listing::put_end` meets its contract: the line holds the three fields, from the last to the first. Assumes nothing.
use mathlib.Core.List.{append_assoc}
use Rattle.listing.specs.Record.{end_text}
use Rattle.listing.proofs.Laws.{put_same}
use Rattle.listing.proofs.put_end.Goals as goal

pub returns : goal.returns
unfolding end_text
returns c =
    put_same (simp (c.line.ensures, c.field-3.ensures.text, c.field-2.ensures.text, c.field.ensures.text, c.text.ensures.text, c.new-line.ensures.text, append_assoc)) c.put_text.ensures
