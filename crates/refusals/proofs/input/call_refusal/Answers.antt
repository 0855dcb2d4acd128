-- The tests in their order, of what the call is about.
use Rattle.protocol.specs.{Pick.first, Refusals.{call_rules, call_refusal}}
use Rattle.refusals.proofs.input.call_refusal.Goals as goal

pub returns-then-no_core : goal.returns-then-no_core
unfolding call_refusal call_rules first
returns-then-no_core c = rw (← c.about-core.ensures, ← c.no_core.ensures, c.if-no_core.true)

pub returns-then-no_line : goal.returns-then-no_line
unfolding call_refusal call_rules first
returns-then-no_line c = rw (← c.about-core.ensures, ← c.no_core.ensures, c.if-no_core.false, ← c.no_line.ensures, c.if-no_line.true)

pub returns-then-wrong_count : goal.returns-then-wrong_count
unfolding call_refusal call_rules first
returns-then-wrong_count c = rw (← c.about-core.ensures, ← c.no_core.ensures, c.if-no_core.false, ← c.no_line.ensures, c.if-no_line.false, ← c.wrong_count.ensures, c.if-wrong_count.true)

pub returns-then-by_nothing : goal.returns-then-by_nothing
unfolding call_refusal call_rules first
returns-then-by_nothing c = rw (← c.about-core.ensures, ← c.no_core.ensures, c.if-no_core.false, ← c.no_line.ensures, c.if-no_line.false, ← c.wrong_count.ensures, c.if-wrong_count.false, ← c.by_nothing.ensures, c.if-by_nothing.true)

pub returns : goal.returns
unfolding call_refusal call_rules first
returns c = rw (← c.about-core.ensures, ← c.no_core.ensures, c.if-no_core.false, ← c.no_line.ensures, c.if-no_line.false, ← c.wrong_count.ensures, c.if-wrong_count.false, ← c.by_nothing.ensures, c.if-by_nothing.false)
