-- `driver::start` meets its contract: by what is found at the start of the journal. Assumes nothing.
use mathlib.Core.Path.{refl, sym, ◌∙◌}
use borrow.Author.{Tests.{not-true, not-false}}
use Rattle.journal.proofs.Lines.{item_found, end_found}
use Rattle.driver.specs.Listing.{refused_first}
use Rattle.driver.proofs.{Reading.known, Starting.{outside_limits, starts_refused, starts_open}}
use Rattle.driver.proofs.start.Goals as goal

pub returns-then-not-fits : goal.returns-then-not-fits
returns-then-not-fits c =
    let o = c.in-Ok-Some in
    let x = item_found o.ensures o.field-0-is c.in-Opening.is in
    starts_refused (outside_limits x (sym c.fits.ensures ∙ not-true _ c.if-not-fits.true-raw)) c.refuse-then-not-fits.ensures

pub returns-else-not-fits : goal.returns-else-not-fits
returns-else-not-fits c =
    let o = c.in-Ok-Some in
    let x = item_found o.ensures o.field-0-is c.in-Opening.is in
    starts_open x (sym c.fits.ensures ∙ not-false _ c.if-not-fits.false-raw) c.before.before.«open».ensures

pub returns-in-Step : goal.returns-in-Step
returns-in-Step c =
    let o = c.in-Ok-Some in
    absurd ((known (item_found o.ensures o.field-0-is c.in-Step.is)).0 refl)

pub returns-in-Ok-None : goal.returns-in-Ok-None
returns-in-Ok-None c = absurd (known (end_found c.in-Ok-None.ensures c.in-Ok-None.field-0-is) refl)

pub returns-in-Err : goal.returns-in-Err
returns-in-Err c = starts_refused (refused_first c.in-Err.ensures) c.refuse-in-Err.ensures
