-- `driver::one_line::open` meets its contract: the line is put, or has no room. Assumes nothing.
use Rattle.protocol.specs.Step.{meaning}
use Rattle.driver.proofs.one_line.open.Goals as goal

pub returns-in-Some : goal.returns-in-Some
unfolding meaning
returns-in-Some c =
    record { put = _; text = c.put_record.ensures; played = rw (c.first.ensures, c.in-Some.is) }

pub returns-in-None : goal.returns-in-None
unfolding meaning
returns-in-None c =
    record { put = _; text = c.put_record.ensures; played = rw (c.unopened.ensures, c.in-None.is) }
