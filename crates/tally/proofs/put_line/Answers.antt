-- The line has room.
use native.Mathlib.Omega.{arith}
use Rattle.tally.proofs.Putting.{put_or}
use Rattle.tally.proofs.put_line.Goals as goal

pub returns : goal.returns
returns c = put_or c.tally.ensures c.put_tally.ensures (omega arith) _ c.unwrap_or.ensures
