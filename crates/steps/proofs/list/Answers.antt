-- What was read is played, and what the output got is the listing or a beginning of it.
use Rattle.runner.proofs.Reading.{given, read_failed}
use Rattle.steps.proofs.Listed.{all_listed, part_listed}
use Rattle.steps.proofs.list.Goals as goal

pub returns-in_err-n : goal.returns-in_err-n
returns-in_err-n g c = read_failed c.read_input.result c.from_residual.result _ c.in_err-n.ensures.cases c.from_residual.ensures.1

pub returns-in_err-map_err : goal.returns-in_err-map_err
returns-in_err-map_err g c =
    part_listed tt (given _ c.read_input.result _ c.in_ok-n.ensures.cases c.read_input.ensures.count c.read_input.ensures.bytes c.read_input.array_long)
    c.play_whole.result c.play_whole.ensures c.from_residual-in_err-map_err.result _ c.in_err-map_err.ensures.cases c.from_residual-in_err-map_err.ensures.1

pub returns : goal.returns
returns g c =
    all_listed tt (given _ c.read_input.result _ c.in_ok-n.ensures.cases c.read_input.ensures.count c.read_input.ensures.bytes c.read_input.array_long)
    c.play_whole.result c.play_whole.ensures _ c.in_ok-map_err.ensures.cases
