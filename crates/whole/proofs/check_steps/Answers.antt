-- `whole::check_steps` meets its contract: each line that is read lies before the next one. Assumes nothing.
use native.Mathlib.Omega.{arith}
use Rattle.journal.proofs.Lines.{item_found, end_found}
use Rattle.driver.proofs.Reading.{known}
use Rattle.whole.proofs.{Checking.{passed_none, passed_more, passed_end, passed_refused}}
use Rattle.whole.proofs.check_steps.Goals as goal

pub loop-next-init : goal.loop-next-init
loop-next-init c = passed_none _ _ _

pub overflow_add-line : goal.overflow_add-line
overflow_add-line c = omega (arith, c.loop-next.invariant.few)

pub loop-next-smaller : goal.loop-next-smaller
loop-next-smaller c = let s = c.in-Ok-Some-Step in let k = (known (item_found s.ensures s.field-0-is s.field-0-0-is)).1 in omega (arith, k.forward, k.inside)

pub loop-next-preserved : goal.loop-next-preserved
loop-next-preserved c = let s = c.in-Ok-Some-Step in passed_more c.loop-next.invariant c.requires.1 (item_found s.ensures s.field-0-is s.field-0-0-is)

pub returns-in-Ok-None : goal.returns-in-Ok-None
returns-in-Ok-None c = passed_end c.loop-next.invariant (end_found c.in-Ok-None.ensures c.in-Ok-None.field-0-is)

pub overflow_add-result : goal.overflow_add-result
overflow_add-result c = omega (arith, c.loop-next.invariant.few)

pub returns-in-Err : goal.returns-in-Err
returns-in-Err c = passed_refused c.loop-next.invariant c.in-Err.ensures

pub returns-in-Ok-Some-Opening : goal.returns-in-Ok-Some-Opening
returns-in-Ok-Some-Opening c = let o = c.in-Ok-Some-Opening in absurd (c.requires.0 (known (item_found o.ensures o.field-0-is o.field-0-0-is)).0)
