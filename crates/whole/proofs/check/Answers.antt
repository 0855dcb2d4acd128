-- `whole::check` meets its contract: by what is found at the start of the journal. Assumes nothing.
use mathlib.Core.Path.{refl, sym, ◌∙◌}
use borrow.Author.{Tests.{not-true, not-false}}
use Rattle.journal.proofs.Lines.{item_found, end_found}
use Rattle.driver.proofs.Reading.{known}
use Rattle.whole.proofs.{Checking.{first_long, checks_outside, checks_refused, checks_opened}}
use Rattle.whole.proofs.check.Goals as goal

pub returns-else-not-fits : goal.returns-else-not-fits
returns-else-not-fits c =
    let o = c.in-Ok-Some in
    checks_opened (item_found o.ensures o.field-0-is c.in-Opening.is) (sym c.fits.ensures ∙ not-false _ c.if-not-fits.false-raw) c.check_steps.ensures

pub returns-then-not-fits : goal.returns-then-not-fits
returns-then-not-fits c =
    let o = c.in-Ok-Some in
    checks_outside (item_found o.ensures o.field-0-is c.in-Opening.is) (sym c.fits.ensures ∙ not-true _ c.if-not-fits.true-raw)

pub check_steps-requires : goal.check_steps-requires
check_steps-requires c =
    let o = c.in-Ok-Some in
    let x = item_found o.ensures o.field-0-is c.in-Opening.is in
    ((known x).1, first_long x)

pub returns-in-Err : goal.returns-in-Err
returns-in-Err c = checks_refused c.in-Err.ensures

pub returns-in-Step : goal.returns-in-Step
returns-in-Step c =
    let o = c.in-Ok-Some in
    absurd ((known (item_found o.ensures o.field-0-is c.in-Step.is)).0 refl)

pub returns-in-Ok-None : goal.returns-in-Ok-None
returns-in-Ok-None c = absurd (known (end_found c.in-Ok-None.ensures c.in-Ok-None.field-0-is) refl)
