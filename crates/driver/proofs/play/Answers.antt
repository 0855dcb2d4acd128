-- `driver::play` meets its contract. The loop's invariant: the lengths of both buffers and the opening stay, and `Reached`. The measure is what is left of the
-- journal. A step is one fact, `made`, at the place where its effect is known; what comes later goes by it. Assumes nothing.
use Prim.Native.Nat.{◌≤◌}
use mathlib.Core.{Path.{◌≡◌, refl, sym, ◌∙◌}, Bool.true}
use native.Mathlib.Omega.{arith}
use lib.ListN.{length}
use Rattle.driver.specs.{Play.{few, unfit}}
use Rattle.driver.proofs.{Counting.each_few, Stepping.looked_over, Putting.fills_none}
use Rattle.driver.proofs.Loop.{reached_start, at_checkpoint, room_for, finish, step_due, end_due, StepInPlace, shows, step_short, step_made}
use Rattle.driver.proofs.play.Goals as goal
use Rattle.driver.proofs.play.Goals.{After-effect-effect, At-loop-last}

-- the journal is no longer than a slice can be
short : (c : At-loop-last) → length c.args.journal.now ≤ 9223372036854775807
short c = omega (arith, c.well_formed.0.1)

-- the counts leave room for more
room : (c : At-loop-last) → few c.loop-last.here.counts 9223372036854775807 ≡ true
room c = room_for c.loop-last.invariant.3 _ (short c)

abbrev made : (c : After-effect-effect) → let a = c.args in StepInPlace a.journal.now a.from a.private.now a.shared.now a.out.now
made c =
    record {
      o = _;
      base = _;
      p = _;
      q = _;
      out = _;
      there = _;
      used = _;
      call = _;
      r = _;
      start = _;
      end = _;
      next = _;
      w = _;
      x = _;
      d = _;
      opening = c.loop-last.invariant.2;
      reached = c.loop-last.invariant.3;
      due = step_due c.due.ensures c.in-Step.is;
      about = c.about-act.ensures;
      sees = c.of-seen.ensures;
      effect = c.effect-effect.ensures;
    }

-- its digits lie in the journal
inside : (c : After-effect-effect)
    → (let m = made c in (m.start ≤ m.end) × (m.end ≤ length c.args.journal.now))
inside c = ((made c).due.order, (made c).due.ends)

pub returns-then-not-resumable : goal.returns-then-not-resumable
returns-then-not-resumable c =
    record { fills = fills_none _; tells = unfit (sym c.resumable.ensures ∙ c.if-not-resumable.true) refl refl refl refl }

pub loop-last-init : goal.loop-last-init
loop-last-init c =
    let a = c.args in
    let e = sym c.resumable.ensures ∙ c.if-not-resumable.false in
    (refl, refl, refl, reached_start a.journal.now a.from a.private.now a.shared.now a.out.now _ e (looked_over a.from.state a.private.now a.shared.now c.machine_refusal-base.ensures))

pub due-requires : goal.due-requires
due-requires c = (at_checkpoint c.loop-last.invariant.3).named

pub put_last-put-requires : goal.put_last-put-requires
put_last-put-requires c = room (goal.at.put_last-put-requires c).At-loop-last

pub returns-in-Last : goal.returns-in-Last
returns-in-Last c =
    finish c.loop-last.invariant.3 _ _ _ _ (end_due c.due.ensures c.in-Last.is) c.put_last-put.ensures c.played.ensures

pub put_answer-requires : goal.put_answer-requires
put_answer-requires c = shows (made (goal.at.put_answer-requires c).After-effect-effect)

pub returns-in-None : goal.returns-in-None
returns-in-None c =
    step_short (made (goal.at.returns-in-None c).After-effect-effect) _ _ _ c.put_answer.ensures c.in-None.is c.played-in-None.ensures

pub loop-last-smaller : goal.loop-last-smaller
loop-last-smaller c =
    let d = (made (goal.at.loop-last-smaller c).After-effect-effect).due in
    omega (arith, d.forward, d.inside)

pub loop-last-preserved : goal.loop-last-preserved
loop-last-preserved c =
    let i = c.loop-last.invariant in (
      c.private-1.given ∙ i.0,
      c.shared-1.given ∙ i.1,
      rw c.write_back.ensures i.2,
      step_made (made (goal.at.loop-last-preserved c).After-effect-effect) _ _ _ _ _ _ _ _ c.put_answer.ensures c.in-Some.is c.given.ensures
          c.move_bytes.ensures c.count_step.ensures c.write_back.ensures,
    )

pub overflow_add-here : goal.overflow_add-here
overflow_add-here c = let r = room (goal.at.overflow_add-here c).At-loop-last in omega (arith, (each_few _ _ r).steps)

pub count_step-requires : goal.count_step-requires
count_step-requires c = room (goal.at.count_step-requires c).At-loop-last

pub slice_bounds-put_answer-count : goal.slice_bounds-put_answer-count
slice_bounds-put_answer-count c = let a = inside (goal.at.slice_bounds-put_answer-count c).After-effect-effect in omega arith

pub slice_bounds-put_answer-start : goal.slice_bounds-put_answer-start
slice_bounds-put_answer-start c = let a = inside (goal.at.slice_bounds-put_answer-start c).After-effect-effect in omega arith

pub slice_bounds-put_answer-end : goal.slice_bounds-put_answer-end
slice_bounds-put_answer-end c = let a = inside (goal.at.slice_bounds-put_answer-end c).After-effect-effect in omega arith

pub slice_bounds-move_bytes-count : goal.slice_bounds-move_bytes-count
slice_bounds-move_bytes-count c = let a = inside (goal.at.slice_bounds-move_bytes-count c).After-effect-effect in omega arith

pub slice_bounds-move_bytes-start : goal.slice_bounds-move_bytes-start
slice_bounds-move_bytes-start c = let a = inside (goal.at.slice_bounds-move_bytes-start c).After-effect-effect in omega arith

pub slice_bounds-move_bytes-end : goal.slice_bounds-move_bytes-end
slice_bounds-move_bytes-end c = let a = inside (goal.at.slice_bounds-move_bytes-end c).After-effect-effect in omega arith
