-- `listing::put_tally` meets its contract: the line holds the seven fields, from the last to the first. Assumes nothing.
use mathlib.Core.List.{append_assoc}
use Rattle.listing.specs.Record.{tally_text}
use Rattle.listing.proofs.Laws.{put_same}
use Rattle.listing.proofs.put_tally.Goals as goal

pub returns : goal.returns
unfolding tally_text
returns c =
    put_same
    (simp (
      c.line.ensures,
      c.field-7.ensures.text,
      c.field-6.ensures.text,
      c.field-5.ensures.text,
      c.field-4.ensures.text,
      c.field-3.ensures.text,
      c.field-2.ensures.text,
      c.field.ensures.text,
      c.text.ensures.text,
      c.new-line.ensures.text,
      append_assoc,
    ))
    c.put_text.ensures
