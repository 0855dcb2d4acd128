-- `convert::write` meets its contract: by the answer at the journal's start. Assumes nothing.
use mathlib.Core.{Path.{refl, sym, ◌∙◌}, List.[]}
use Rattle.journal.proofs.Lines.{item_found, end_found}
use Rattle.driver.proofs.Reading.{known}
use Rattle.convert.specs.{Conversion.{form_from, other_form}, Writing.malformed}
use Rattle.convert.proofs.{FirstLine.{other_named, opens_as}}
use Rattle.convert.proofs.write.Goals as goal

pub returns-then-form-form_from : goal.returns-then-form-form_from
returns-then-form-form_from c =
    let o = c.in-Ok-Some in
    let x = item_found o.ensures o.field-0-is c.in-Opening.is in
    malformed (other_form (other_named (form_from c.args.to) x (λ e. c.if-form-form_from.true (e ∙ sym c.form_from.ensures))))

pub write_steps-requires : goal.write_steps-requires
write_steps-requires c =
    let o = c.in-Ok-Some in
    record {
      first = opens_as (c.if-form-form_from.false ∙ c.form_from.ensures) (item_found o.ensures o.field-0-is c.in-Opening.is);
      text = c.put_opening.ensures [] c.requires;
    }

-- where the first line is due, neither a step nor the end is found
pub returns-in-Step : goal.returns-in-Step
returns-in-Step c =
    let o = c.in-Ok-Some in
    absurd ((known (item_found o.ensures o.field-0-is c.in-Step.is)).0 refl)

pub returns-in-Ok-None : goal.returns-in-Ok-None
returns-in-Ok-None c = absurd (known (end_found c.in-Ok-None.ensures c.in-Ok-None.field-0-is) refl)

pub returns-in-Err : goal.returns-in-Err
returns-in-Err c = malformed c.first_refusal.ensures
