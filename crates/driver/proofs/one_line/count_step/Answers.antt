-- `driver::one_line::count_step` meets its contract: the class is that of the call with its answer. Assumes nothing.
use Rattle.driver.proofs.one_line.count_step.Goals as goal

pub count-requires : goal.count-requires
count-requires c = c.requires

pub returns : goal.returns
returns c = rw (← c.of.ensures) c.count.ensures
