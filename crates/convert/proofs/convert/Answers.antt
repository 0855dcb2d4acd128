-- `convert::convert` meets its contract: a result is copied where it has room. Assumes nothing.
use Prim.Native.Nat.{ℕ}
use mathlib.Core.Path.{sym, ◌∙◌, ap, subst}
use Rattle.grammar.specs.declared.Refusal.{Refusal}
use Rattle.convert.specs.Conversion.{Converts}
use Rattle.std.{specs.Prelude.{Result, Err}, proofs.lemmas.Result.err_from_is_err_and}
use Rattle.convert.proofs.{Copying.{refused_copied, length_written, result_most, copied_or}}
use Rattle.convert.proofs.convert.Goals as goal

pub returns-in_err-n : goal.returns-in_err-n
returns-in_err-n c =
    let p = err_from_is_err_and c.from_residual.result c.from_residual.ensures.1 in
    let a = c.args in
    subst (λ (r : Result ℕ Refusal). Converts a.to a.journal.now a.out.now r a.out.now) (sym (p.1 ∙ ap Err p.2)) (refused_copied _ c.write.ensures c.in_err-n.was)

pub returns : goal.returns
returns c = copied_or (length_written c.write.ensures c.in_ok-n.was) c.put_text.ensures c.ok_or.ensures.value

pub shared_ref_as_front-put_text : goal.shared_ref_as_front-put_text
shared_ref_as_front-put_text c = result_most (length_written c.write.ensures c.in_ok-n.was)
