-- `spelling::read_number` meets its contract. The invariant: the bytes passed spell the value so far. Assumes nothing.
use Rattle.std.proofs.Common.{arith, subst, sym, ap, ◌∙◌}
use Rattle.spelling.specs.Decimal.{decimal, NumberOf}
use Rattle.spelling.proofs.DecimalLaws.{no_empty, no_first, no_next, first_digit, next_digit, whole}
use Rattle.spelling.proofs.read_number.Goals as goal

pub returns-in_err-first : goal.returns-in_err-first
returns-in_err-first c = subst (NumberOf _) (sym c.from_residual.ensures) (no_empty _ c.in_err-first.ensures.cases)

pub returns-in_err-v : goal.returns-in_err-v
returns-in_err-v c = subst (NumberOf _) (sym c.from_residual-in_err-v.ensures) (no_first _ _ _ c.in_ok-first.ensures.cases.0 c.in_err-v.ensures)

pub loop-b-init : goal.loop-b-init
loop-b-init c = (omega arith, first_digit _ _ _ c.in_ok-first.ensures.cases.0 c.in_ok-v.ensures.0 ∙ ap decimal (sym c.in_ok-v.ensures.1))

pub returns-in_err-v-2 : goal.returns-in_err-v-2
returns-in_err-v-2 c =
    let l = c.loop-b in
    subst (NumberOf _) (sym c.from_residual-in_err-v-2.ensures) (no_next _ _ _ c.in_ok-first.ensures.cases.0 l.b-index l.v (omega arith) l.invariant.1 c.in_err-v-2.ensures)

pub loop-b-preserved : goal.loop-b-preserved
loop-b-preserved c =
    let l = c.loop-b in
    (omega arith, next_digit _ _ _ c.in_ok-first.ensures.cases.0 l.b-index l.v (omega arith) l.invariant.1 c.in_ok-v-2.ensures.0 ∙ ap decimal (sym c.in_ok-v-2.ensures.1))

pub returns : goal.returns
returns c = (omega arith, whole _ _ _ c.in_ok-first.ensures.cases.0 c.loop-b.b-index c.loop-b.v (omega arith) c.loop-b.invariant.1)
