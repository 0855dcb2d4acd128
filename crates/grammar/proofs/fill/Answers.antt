-- `grammar::fill` meets its contract; `Walk` has the laws. Assumes nothing.
use Prim.Native.Nat.{◌≤◌}
use native.Mathlib.Omega.{arith}
use lib.ListN.{length}
use Rattle.spelling.proofs.Split.{up_to_within}
use Rattle.grammar.proofs.{Walk.{key_there, key_missing, more_there, no_more, after_within}}
use Rattle.grammar.proofs.fill.Goals as goal

pub returns-in_err-start : goal.returns-in_err-start
returns-in_err-start c = let l = c.loop-i in rw c.from_residual.ensures (key_missing _ _ _ _ _ l.i l.invariant (omega arith) c.in_err-start.ensures)

pub slice_bounds-value-end : goal.slice_bounds-value-end
slice_bounds-value-end c =
    let line = c.args.line.now in
    let l = c.loop-i in
    let h : c.in_ok-start.start ≤ length line = after_within line _ l.at _ l.invariant.within c.in_ok-start.ensures in
    omega (arith, c.run_end-at.ensures, up_to_within 32 line c.in_ok-start.start h)

pub loop-i-preserved : goal.loop-i-preserved
loop-i-preserved c = let l = c.loop-i in key_there _ _ _ _ _ l.i l.invariant _ _ _ (omega arith) c.in_ok-start.ensures c.run_end-at.ensures c.read_value.ensures

pub returns-then-at-line : goal.returns-then-at-line
returns-then-at-line c = let l = c.loop-i in more_there _ _ _ _ _ l.i l.invariant (omega arith) (omega arith)

pub returns : goal.returns
returns c = let l = c.loop-i in no_more _ _ _ _ _ l.i l.invariant (omega arith) (omega arith)
