-- `convert::first_refusal` meets its contract: the eighth byte tells a wrong first line of the other form. Assumes nothing.
use mathlib.Core.Path.{sym, ◌∙◌}
use native.Mathlib.Omega.{arith}
use borrow.Author.Rules.{rules}
use denote.Enum.Bare.{same_true, same_false}
use Rattle.grammar.specs.contracts.Refusal.{the_type}
use Rattle.convert.specs.Conversion.{form_from, first_line, other_form}
use Rattle.convert.proofs.{FirstLine.{other_digit, refused_own, wrong_other}}
use Rattle.convert.proofs.first_refusal.Goals as goal
use Rattle.convert.proofs.first_refusal.Goals.{else-eq-via-then-eq+then-journal-gt-DIGIT+else-journal-digit_from, else-eq-via-then-eq+else-journal-gt-DIGIT, else-eq-via-else-eq}

pub returns-then-journal-digit_from : goal.returns-then-journal-digit_from
returns-then-journal-digit_from c =
    other_form
    (wrong_other (form_from c.args.to) c.requires (same_true the_type (search rules) _ _ (sym c.if-eq.ensures))
    (λ e. c.if-journal-digit_from.true (e ∙ sym c.digit_from.ensures)))

pub returns : goal.returns
returns c =
    let form = form_from c.args.to in
    first_line c.requires
    (elim c.else-eq.branch [
      | else-eq-via-then-eq+then-journal-gt-DIGIT+else-journal-digit_from w ↦
          λ o. (other_digit form o).1 (w.if-journal-digit_from.false ∙ w.digit_from.ensures)
      | else-eq-via-then-eq+else-journal-gt-DIGIT w ↦ λ o. let d = (other_digit form o).0 in omega (arith, w.if-journal-gt-DIGIT.false)
      | else-eq-via-else-eq w ↦ refused_own form c.requires (same_false the_type _ _ (sym w.if-eq.ensures))
    ])
