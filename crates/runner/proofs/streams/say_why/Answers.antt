-- The words are those of the reason, as far as they are shown.
use Rattle.runner.proofs.streams.say_why.Goals as goal

pub returns : goal.returns
returns g c = (_, c.say.ensures)
