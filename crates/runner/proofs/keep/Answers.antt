-- A text that is dropped is no write that fails.
use Rattle.std.proofs.KnownBytes.{Keeps-refl}
use Rattle.runner.proofs.Calling.{kept_of}
use Rattle.runner.specs.Ran.{kept}
use Rattle.runner.proofs.keep.Goals as goal

pub returns-in-Written : goal.returns-in-Written
returns-in-Written g c = rw c.in-Written.is (kept_of c.write_all.result c.write_all.ensures.bytes)

pub returns-in-Dropped : goal.returns-in-Dropped
returns-in-Dropped g c = rw c.in-Dropped.is (kept (Keeps-refl _))
