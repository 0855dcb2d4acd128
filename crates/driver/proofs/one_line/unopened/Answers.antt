-- `driver::one_line::unopened` meets its contract: the first checkpoint of the smallest opening. Assumes nothing.
use Rattle.driver.proofs.one_line.unopened.Goals as goal

pub returns : goal.returns
returns c = rw (c.first.ensures, c.smallest.ensures)
