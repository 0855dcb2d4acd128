-- The opening, the owners and the slots, one after the other.
use mathlib.Core.Path.{sym, ◌∙◌}
use Rattle.std.proofs.{Common.arith, lemmas.Grind.common_steps}
use Rattle.protocol.{specs.Refusals.state_fits, proofs.{Extents.inside, Tests.never}}
use Rattle.refusals.proofs.input.state_fits.Goals as goal
use Rattle.refusals.proofs.input.state_fits.Goals.{then-fits, else-fits}

pub owners_fit-requires : goal.owners_fit-requires
owners_fit-requires c = (inside _ (sym c.fits.ensures ∙ c.if-fits.true)).most_lines

pub slots_fit-requires : goal.slots_fit-requires
slots_fit-requires c =
    elim c.if-fits.branch [
      | then-fits w ↦ (inside _ (sym c.fits.ensures ∙ w.if-fits.true)).most_cores
      | else-fits w ↦ never (sym c.if-owners_fit.true ∙ w.value-is ∙ w.if-fits.false)
    ]

pub returns-then-owners_fit : goal.returns-then-owners_fit
unfolding state_fits
returns-then-owners_fit c = grind (arith, common_steps)

pub returns-else-owners_fit : goal.returns-else-owners_fit
unfolding state_fits
returns-else-owners_fit c = grind (arith, common_steps)
