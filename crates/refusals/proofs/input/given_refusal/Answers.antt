-- Digits are looked at, bytes are not.
use mathlib.Core.Path.{sym, ap, subst}
use Rattle.spelling.specs.Hex.{DataTest}
use Rattle.protocol.proofs.Digits.{digits_right, digits_wrong}
use Rattle.refusals.specs.Input.{applies}
use Rattle.refusals.proofs.input.given_refusal.Goals as goal

pub returns-in-Digits : goal.returns-in-Digits
returns-in-Digits c =
    rw c.in-Digits.is (ap applies (sym (digits_wrong _ (subst (DataTest _) c.if-not-is_data.true c.is_data.ensures))))

pub returns-in_default : goal.returns-in_default
returns-in_default c =
    let d = subst (DataTest _) c.if-not-is_data.false c.is_data.ensures in
    rw c.in-Digits.is (ap applies (sym (digits_right _ d.0 d.1)))
