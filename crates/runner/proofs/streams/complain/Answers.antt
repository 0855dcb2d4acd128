-- By what failed.
use Rattle.runner.proofs.streams.complain.Goals as goal

pub returns-in-Reading : goal.returns-in-Reading
returns-in-Reading g c = rw c.in-Reading.is c.say_why.ensures

pub returns-in-Writing : goal.returns-in-Writing
returns-in-Writing g c = rw c.in-Writing.is c.say_why-in-Writing.ensures
