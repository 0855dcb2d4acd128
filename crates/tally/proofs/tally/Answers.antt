-- What was read is played, and what the output got is the line of its tally, or a beginning of it.
use Rattle.runner.proofs.Reading.{given, read_failed, wrote}
use Rattle.tally.proofs.Putting.{line_text}
use Rattle.tally.proofs.tally.Goals as goal

pub returns-in_err-n : goal.returns-in_err-n
returns-in_err-n g c = read_failed c.read_input.result c.from_residual.result _ c.in_err-n.ensures.cases c.from_residual.ensures.1

pub slice_bounds-line-end : goal.slice_bounds-line-end
slice_bounds-line-end g c = c.put_line-end.ensures.fits

pub returns : goal.returns
returns g c =
    wrote _ tt (given _ c.read_input.result _ c.in_ok-n.ensures.cases c.read_input.ensures.count c.read_input.ensures.bytes c.read_input.array_long)
    (λ u. line_text c.put_line-end.ensures) c.write_all.result c.map_err-2.result c.map_err-2.ensures.cases c.write_all.ensures.bytes
