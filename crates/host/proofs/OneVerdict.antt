-- Each line has exactly one number. Assumes nothing.
use mathlib.Core.Path.{refl, ◌∙◌, ap}
use Rattle.grammar.{specs.Line.number_of, proofs.OneAnswer.one_answer_theorem}
use Rattle.host.specs.Verdict.{OneVerdictTheorem}

pub one_verdict_theorem : OneVerdictTheorem
one_verdict_theorem s =
    let o = one_answer_theorem 1 s in
    record {
      answer = number_of o.answer;
      holds = record { answer = o.answer; line = o.holds; number = refl };
      only = λ b v. v.number ∙ ap number_of (o.only v.answer v.line);
    }
