-- `convert::write_steps` meets its contract. The loop's invariant is `Reached`, and the measure is what is left of the journal. A step is one fact, `made`, at the place where its effect is known. Assumes nothing.
use Prim.Native.Nat.{ℕ, ◌≤◌, ◌<◌}
use mathlib.Core.Path.{sym, ◌∙◌, ap, subst}
use native.Mathlib.Omega.{arith}
use lib.ListN.{length}
use Rattle.std.{specs.{Prelude.{is_some, Ok, Err}, Option.option_or}, proofs.lemmas.Result.err_from_is_err_and}
use Rattle.protocol.proofs.Tests.{never}
use Rattle.journal.{specs.Journal.NextOf, proofs.Lines.{item_found, end_found}}
use Rattle.driver.proofs.Reading.{known}
use Rattle.convert.specs.Conversion.{form_from}
use Rattle.convert.specs.Writing.{Writes}
use Rattle.convert.proofs.Loop.{reached_start, none_found, form_named, later_line_lem, ends_with, refused_by_line, none_before, none_of_line, unseen, StepInPlace, unlike_made, skips, step_made}
use Rattle.convert.proofs.write_steps.Goals as goal
use Rattle.convert.proofs.write_steps.Goals.{After-effect-effect, In_ok-item}

-- what is at the offset, in the form that is read
at_offset : (c : In_ok-item) → NextOf c.args.journal.now c.loop-item.at (form_from c.args.to) (Ok c.in_ok-item.field-0)
at_offset c =
    subst (λ (f : ℕ). NextOf c.args.journal.now c.loop-item.at f (Ok c.in_ok-item.field-0)) c.form_from-form.ensures c.in_ok-item.ensures

pub loop-item-init : goal.loop-item-init
loop-item-init c =
    reached_start c.args.to c.args.journal.now c.args.opening c.args.from _ c.args.text.now _ c.requires c.fresh-s.ensures c.opening_refusal-refusal.ensures

pub returns-in-Opening : goal.returns-in-Opening
returns-in-Opening c =
    absurd (form_named c.args.to (known (item_found (at_offset (goal.at.returns-in-Opening c).In_ok-item) c.in-Some.is c.in-Opening.is)).0)

pub returns : goal.returns
returns c =
    ends_with c.loop-item.invariant (end_found (at_offset (goal.at.returns c).In_ok-item) c.in_default.is) c.last_answer.ensures

pub returns-in_err-item : goal.returns-in_err-item
returns-in_err-item c =
    let p = err_from_is_err_and c.from_residual.result c.from_residual.ensures.1 in
    let a = c.args in
    let x = subst (λ (f : ℕ). NextOf a.journal.now c.loop-item.at f (Err c.in_err-item.field-0.0)) c.form_from-form.ensures c.in_err-item.ensures in
    subst (Writes a.to a.journal.now c.loop-item.text.bytes) (sym (p.1 ∙ ap Err p.2)) (later_line_lem c.loop-item.invariant x)

pub loop-item-preserved-then-is_some : goal.loop-item-preserved-then-is_some
loop-item-preserved-then-is_some c =
    refused_by_line c.loop-item.invariant (item_found (at_offset (goal.at.loop-item-preserved-then-is_some c).In_ok-item) c.in-Some.is c.in-Step.is)
    c.about-which.ensures (c.or-refusal.ensures ∙ ap (option_or c.loop-item.refusal) c.victim_refusal.ensures) (λ e. never (c.if-is_some.ensures ∙ ap is_some e))

-- its digits start before they end
pub overflow_sub-end : goal.overflow_sub-end
overflow_sub-end c = (known (item_found (at_offset (goal.at.overflow_sub-end c).In_ok-item) c.in-Some.is c.in-Step.is)).1.order

abbrev made : (c : After-effect-effect)
    → (let a = c.args in StepInPlace a.to a.journal.now a.opening a.from)
made c =
    record {
      at = _;
      s = _;
      out = _;
      n = _;
      call = _;
      start = _;
      end = _;
      next = _;
      w = _;
      k = _;
      y = _;
      d = _;
      reached = c.loop-item.invariant;
      none = none_before c.loop-item.refusal _ c.or-refusal.ensures c.if-is_some.ensures;
      plain = sym c.victim_refusal.ensures ∙ none_of_line c.loop-item.refusal _ c.or-refusal.ensures c.if-is_some.ensures;
      line =
          item_found (subst (λ (f : ℕ). NextOf c.args.journal.now c.loop-item.at f (Ok c.in_ok-item.field-0)) c.form_from-form.ensures c.in_ok-item.ensures)
          c.in-Some.is c.in-Step.is;
      about = c.about-which.ensures;
      number = c.call_refusal-number.ensures;
      sees = c.seen_of-seen.ensures;
      effect = c.effect-effect.ensures;
    }

pub seen_of-seen-requires : goal.seen_of-seen-requires
seen_of-seen-requires c =
    unseen c.loop-item.invariant (item_found (at_offset (goal.at.seen_of-seen-requires c).In_ok-item) c.in-Some.is c.in-Step.is) c.about-which.ensures
    (none_before c.loop-item.refusal _ c.or-refusal.ensures c.if-is_some.ensures)
    (sym c.victim_refusal.ensures ∙ none_of_line c.loop-item.refusal _ c.or-refusal.ensures c.if-is_some.ensures)

-- the next line is further on in the journal
further : (c : After-effect-effect)
    → (let m = made c in (m.at < m.next) × (m.next ≤ length c.args.journal.now))
further c = let k = (known (made c).line).1 in (k.forward, k.inside)

pub loop-item-smaller-then-unlike_answer : goal.loop-item-smaller-then-unlike_answer
loop-item-smaller-then-unlike_answer c = let f = further (goal.at.loop-item-smaller-then-unlike_answer c).After-effect-effect in omega arith

pub loop-item-preserved-then-unlike_answer : goal.loop-item-preserved-then-unlike_answer
loop-item-preserved-then-unlike_answer c =
    unlike_made (made (goal.at.loop-item-preserved-then-unlike_answer c).After-effect-effect) (sym c.unlike_answer.ensures ∙ c.if-unlike_answer.true)

pub put_line-requires : goal.put_line-requires
put_line-requires c =
    rw c.change_of-change.ensures (skips (made (goal.at.put_line-requires c).After-effect-effect) (sym c.unlike_answer.ensures ∙ c.if-unlike_answer.false) _ c.owns_with-owns.ensures)

pub loop-item-smaller : goal.loop-item-smaller
loop-item-smaller c = let f = further (goal.at.loop-item-smaller c).After-effect-effect in omega arith

pub loop-item-preserved : goal.loop-item-preserved
loop-item-preserved c =
    rw c.write_back.ensures
    (step_made (made (goal.at.loop-item-preserved c).After-effect-effect) (sym c.unlike_answer.ensures ∙ c.if-unlike_answer.false) _ c.owns_with-owns.ensures (rw c.change_of-change.ensures at c.put_line.ensures)
    (none_found _ c.if-is_some.ensures))

pub slice_bounds-put_line-count : goal.slice_bounds-put_line-count
slice_bounds-put_line-count c = let f = further (goal.at.slice_bounds-put_line-count c).After-effect-effect in omega arith

pub slice_bounds-put_line-start : goal.slice_bounds-put_line-start
slice_bounds-put_line-start c = let f = further (goal.at.slice_bounds-put_line-start c).After-effect-effect in omega arith

pub slice_bounds-put_line-end : goal.slice_bounds-put_line-end
slice_bounds-put_line-end c = let f = further (goal.at.slice_bounds-put_line-end c).After-effect-effect in omega arith
