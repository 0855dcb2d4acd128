-- 13, then 1 and 2, then 3 to 6.
use Rattle.std.proofs.Common.{rules}
use lib.ListN.{length}
use Rattle.protocol.{specs.{Refusals.{given_refusal, machine_refusal, call_refusal}, Given.count_as}, proofs.Digits.count_given}
use Rattle.refusals.{specs.Input.machine_with, proofs.Laws.{chained, or_assoc}}
use Rattle.refusals.proofs.input.input_refusal.Goals as goal

pub returns : goal.returns
returns c =
    let a = c.args in
    let g = c.given-read.result in
    let e = chained (given_refusal g a.given.now) (machine_refusal (machine_with a.state.now a.private a.shared)) _ _ c.given_refusal.ensures c.or_else.ensures (λ p. search rules) in
    let h = chained _ (call_refusal a.call a.state.now.opening (count_as g (length a.given.now))) _ _ e c.or_else-2.ensures (λ p. search rules) in
    rw (← c.about.ensures, ← c.given-read.ensures, count_given g, or_assoc) h
