-- `grammar::fill`: what the keys to come give, the whole gives. Assumes nothing.
use Rattle.grammar.proofs.{Walk.{State}}
use Rattle.grammar.proofs.fill.Given as goal

abbrev pub invariant-loop-i : goal.invariant-loop-i
invariant-loop-i l = State l.line l.head l.keys l.values l.at l.i
