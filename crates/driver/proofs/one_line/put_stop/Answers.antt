-- `driver::one_line::put_stop` meets its contract: both lines fit the local buffer, and are put in one piece. Assumes nothing.
use mathlib.Core.Path.{refl}
use Rattle.protocol.specs.Step.{meaning}
use Rattle.driver.proofs.{Putting.{first_fits, second_fits, last_text}}
use Rattle.driver.proofs.one_line.put_stop.Goals as goal

pub returns-in_err-line : goal.returns-in_err-line
unfolding meaning
returns-in_err-line c = absurd (first_fits c.args.counts _ refl c.put_record.ensures c.in_err-line.was)

pub returns-in_err-end : goal.returns-in_err-end
unfolding meaning
returns-in_err-end c = absurd (second_fits _ _ refl c.put_record.ensures c.in_ok-line.was c.put_end.ensures c.in_err-end.was)

pub returns : goal.returns
unfolding meaning
returns c =
    rw (← last_text _ _ refl c.put_record.ensures c.in_ok-line.was c.put_end.ensures c.in_ok-end.was c.args.refusal c.number-n.ensures) c.put_text.ensures
