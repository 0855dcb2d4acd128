-- `journal::step_at` meets its contract. Assumes nothing.
use Prim.Native.Nat.{◌+◌, ◌≤◌}
use mathlib.Core.Path.{◌≡◌, sym, ◌∙◌, ap, subst}
use native.Mathlib.Omega.{arith}
use Rattle.std.{specs.Prelude.{Result, Ok, Err}, proofs.lemmas.Result.err_from_is_err_and}
use Rattle.grammar.{specs.{Table.rows_of, Line.LineOf, declared.{Line.Line, Refusal.Refusal}}, proofs.Inside.inside}
use Rattle.journal.specs.Journal.{in_journal, NextOf, too_much, empty, ended, unended}
use Rattle.journal.proofs.{Lines.{line_here, none_here, line_answer}}
use Rattle.journal.proofs.step_at.Goals as goal
use Rattle.journal.proofs.step_at.Goals.{After-read_line, In-Step}

pub returns-then-journal-e : goal.returns-then-journal-e
returns-then-journal-e c =
    let a = c.args in
    unended (omega arith) (omega arith) (none_here a.journal.now a.at _ c.run_end-e.ensures c.if-journal-e.true)

-- a line that was read is the answer
answered :
    (c : After-read_line) (a : Result Line Refusal) → c.read_line.result ≡ a → let s = c.args in
    NextOf s.journal.now s.at s.form (in_journal a s.at (c.run_end-e.result + 1))
answered c a e =
    let s = c.args in
    let o = subst (LineOf (rows_of s.form) _) e c.read_line.ensures in
    line_answer s.journal.now s.at _ s.form a (omega arith) c.run_end-e.ensures (omega arith) o

-- the data of a step lie before the line's end
data_ends :
    (c : In-Step) → let r = c in
    (r.args.at + c.in-Step.start ≤ r.run_end-e.result) × (r.args.at + c.in-Step.end ≤ r.run_end-e.result)
data_ends c =
    let r = c in
    let s = r.args in
    let l = line_here s.journal.now s.at _ r.run_end-e.ensures (omega arith) in
    let i = inside (subst (LineOf (rows_of s.form) _) (c.in_ok-line.was ∙ ap Ok c.in-Step.is) c.read_line.ensures) in
    (omega (arith, i.0, i.1, l.after), omega (arith, i.1, l.after))

pub returns-then-journal-gt65536 : goal.returns-then-journal-gt65536
returns-then-journal-gt65536 c = too_much (omega (arith, c.if-journal-gt65536.true))

pub returns-then-form-eq0 : goal.returns-then-form-eq0
returns-then-form-eq0 c = empty (omega arith) (omega arith) c.if-form-eq0.true

pub returns-then-journal-at : goal.returns-then-journal-at
returns-then-journal-at c = ended (omega arith) (omega arith) c.if-form-eq0.false

pub returns-in_err-line : goal.returns-in_err-line
returns-in_err-line c =
    let p = err_from_is_err_and c.from_residual.result c.from_residual.ensures.1 in
    subst (NextOf _ _ _) (sym (p.1 ∙ ap Err p.2)) (answered (goal.at.returns-in_err-line c).After-read_line _ c.in_err-line.was)

pub overflow_add-result-in-Step : goal.overflow_add-result-in-Step
overflow_add-result-in-Step c = let d = data_ends c in omega arith

pub overflow_add-result-in-Step-2 : goal.overflow_add-result-in-Step-2
overflow_add-result-in-Step-2 c = let d = data_ends c in omega arith

pub returns-in-Opening : goal.returns-in-Opening
returns-in-Opening c = answered (goal.at.returns-in-Opening c).After-read_line _ (c.in_ok-line.was ∙ ap Ok c.in-Opening.is)

pub returns-in-Step : goal.returns-in-Step
returns-in-Step c = answered (goal.at.returns-in-Step c).After-read_line _ (c.in_ok-line.was ∙ ap Ok c.in-Step.is)
