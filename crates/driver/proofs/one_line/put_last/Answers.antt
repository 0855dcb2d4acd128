-- `driver::one_line::put_last` meets its contract: the end line alone, or after the line that is refused. Assumes nothing.
use Rattle.driver.proofs.one_line.put_last.Goals as goal

pub returns-in-Some : goal.returns-in-Some
returns-in-Some c = rw c.in-Some.is (rw c.count.ensures at c.put_stop.ensures)

pub returns-in-None : goal.returns-in-None
returns-in-None c = rw c.in-None.is c.put_end.ensures
