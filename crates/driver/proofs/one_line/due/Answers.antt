-- `driver::one_line::due` meets its contract: what is known of the line there. Assumes nothing.
use Prim.Native.Nat.{ℕ}
use mathlib.Core.Path.{sym, ◌∙◌, ap}
use native.Mathlib.Omega.{arith}
use Rattle.std.specs.{Prelude.{Option, Some, Err}, Option.{option_or}}
use Rattle.protocol.specs.{Refusals.{call_refusal}, Buffers.Bytes}
use Rattle.refusals.specs.Input.{applies}
use Rattle.grammar.specs.declared.Refusal.{Refusal}
use Rattle.journal.{specs.Journal.NextOf, proofs.Lines.{item_found, end_found}}
use Rattle.driver.specs.{Listing.{at_end, at_refusal}, Pieces.{DueAt, a_step, the_end}, declared.{Checkpoint.Checkpoint, Due.TheVariants.{Last as AtLast}}}
use Rattle.driver.proofs.{Reading.known}
use Rattle.driver.proofs.one_line.due.Goals as goal

pub returns-in-Opening : goal.returns-in-Opening
returns-in-Opening c =
    let o = c.in-Ok-Some in
    absurd (c.requires (known (item_found o.ensures o.field-0-is c.in-Opening.is)).0)

-- a refusal ends the journal there
refused_there : {j : Bytes} {s : Checkpoint} {base : Option ℕ} {r : Refusal} → NextOf j s.at s.form (Err r) → DueAt j s base (AtLast (Some r))
refused_there {r = r} x = the_end {w = Some r} (at_refusal x)

pub returns-in-Err : goal.returns-in-Err
returns-in-Err c = refused_there c.in-Err.ensures

pub returns-in-Step : goal.returns-in-Step
returns-in-Step c =
    let o = c.in-Ok-Some in
    let x = item_found o.ensures o.field-0-is c.in-Step.is in
    let k = (known x).1 in
    let a = c.args in
    a_step
    (record {
      line = x;
      order = k.order;
      ends = k.ends;
      right = k.right;
      number = c.or-refusal.ensures ∙ ap (option_or a.base) (c.call_refusal.ensures ∙ ap (λ (n : ℕ). applies (call_refusal c.in-Step.call a.here.now.state.opening n)) (sym k.count));
      forward = k.forward;
      inside = k.inside;
    })

pub overflow_sub-count : goal.overflow_sub-count
overflow_sub-count c =
    let o = c.in-Ok-Some in
    omega (arith, (known (item_found o.ensures o.field-0-is c.in-Step.is)).1.order)

pub returns-in-Ok-None : goal.returns-in-Ok-None
returns-in-Ok-None c = the_end (at_end (end_found c.in-Ok-None.ensures c.in-Ok-None.field-0-is))
