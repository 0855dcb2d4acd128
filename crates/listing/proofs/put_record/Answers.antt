-- `listing::put_record` meets its contract: for each case of an answer, the text that is put is that answer's record. Assumes nothing.
use Rattle.protocol.specs.Step.{meaning}
use Rattle.listing.specs.Record.{record_as}
use Rattle.listing.proofs.put_record.Goals as goal

pub returns-in-Refused : goal.returns-in-Refused
unfolding record_as meaning
returns-in-Refused c = rw c.in-Refused.is c.put_refused.ensures

pub returns-in-Done : goal.returns-in-Done
unfolding record_as meaning
returns-in-Done c = rw c.in-Done.is c.put_done.ensures

pub returns-in-Commit : goal.returns-in-Commit
unfolding record_as meaning
returns-in-Commit c = rw c.in-Commit.is c.put_commit.ensures
