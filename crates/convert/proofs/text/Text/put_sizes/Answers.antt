-- `convert::text::Text::put_sizes` meets its contract: one field after the other. Assumes nothing.
use Rattle.spelling.specs.{Decimal.decimal, Text.text}
use Rattle.convert.proofs.{Appending.{fields, append_more, append_same}}
use Rattle.convert.proofs.text.Text.put_sizes.Goals as goal

pub returns : goal.returns
returns c =
    let o = c.args.opening in
    append_same
    (fields c.args.form.now (text " cores=") (decimal o.cores) (text " lines=") (decimal o.lines) (text " width=") (decimal o.width)
    (text " lease=") (decimal o.lease))
    (append_more (append_more (append_more (append_more c.put.ensures c.put_field.ensures) c.put_field-2.ensures) c.put_field-3.ensures) c.put_field-4.ensures)
