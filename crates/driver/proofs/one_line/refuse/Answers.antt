-- `driver::one_line::refuse` meets its contract: the lines are put, or have no room. Assumes nothing.
use Rattle.driver.proofs.one_line.refuse.Goals as goal

pub returns-in-Some : goal.returns-in-Some
returns-in-Some c = record { put = _; text = c.put_stop.ensures; played = rw (c.unopened.ensures, c.in-Some.is) }

pub returns-in-None : goal.returns-in-None
returns-in-None c = record { put = _; text = c.put_stop.ensures; played = rw (c.unopened-in-None.ensures, c.in-None.is) }
