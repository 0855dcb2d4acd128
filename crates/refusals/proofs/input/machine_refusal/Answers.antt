-- 1, then 2.
use mathlib.Core.Path.{sym, ◌∙◌}
use Rattle.std.proofs.{Common.arith, lemmas.Grind.common_steps}
use Rattle.protocol.{specs.{Pick.first, Refusals.{machine_refusal, state_fits}}, proofs.Tests.{both_true}}
use Rattle.refusals.proofs.input.machine_refusal.Goals as goal

pub returns-then-not-state_fits : goal.returns-then-not-state_fits
unfolding machine_refusal first
returns-then-not-state_fits c = rw (← c.state_fits.ensures, c.if-not-state_fits.true)

pub buffers_fit-requires : goal.buffers_fit-requires
unfolding state_fits
buffers_fit-requires c = (both_true _ _ (sym c.state_fits.ensures ∙ c.if-not-state_fits.false)).0

pub returns-then-not-buffers_fit : goal.returns-then-not-buffers_fit
unfolding machine_refusal first
returns-then-not-buffers_fit c = grind (arith, common_steps)

pub returns : goal.returns
unfolding machine_refusal first
returns c = grind (arith, common_steps)
