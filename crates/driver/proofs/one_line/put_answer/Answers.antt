-- `driver::one_line::put_answer` meets its contract: a store's data are those given, the bytes of any other call lie in the private buffer. Assumes nothing.
use Prim.Native.Nat.{◌+◌, ◌-◌, ◌≤◌}
use lib.ListN.{length}
use mathlib.Core.Path.{◌≡◌, sym, ◌∙◌}
use native.Mathlib.Omega.{arith}
use Rattle.driver.proofs.{Stepping.{act_bytes_are, given_else}}
use Rattle.driver.proofs.one_line.put_answer.Goals as goal
use Rattle.driver.proofs.one_line.put_answer.Goals.{After-span_of-span}

ends : (c : After-span_of-span) → c.span_of-span.result.start + c.span_of-span.result.count ≤ length c.args.private.now
ends c = rw (c.span_of-span.ensures, c.copy_start-copy.ensures) c.requires

pub returns-then-is_store : goal.returns-then-is_store
returns-then-is_store c =
    rw (act_bytes_are, sym c.is_store.ensures ∙ c.if-is_store.true, ← c.given.ensures) c.put_record.ensures

pub returns : goal.returns
returns c =
    let r = c.span_of-span.result in
    let n : r.start + r.count - r.start ≡ r.count = omega arith in
    let e = sym c.is_store.ensures ∙ c.if-is_store.false in
    rw (act_bytes_are, e, given_else _ e) (rw (n, c.span_of-span.ensures, c.copy_start-copy.ensures) at c.put_record-2.ensures)

pub overflow_add-end : goal.overflow_add-end
overflow_add-end c = let a = ends (goal.at.overflow_add-end c).After-span_of-span in omega arith

pub slice_bounds-put_record-end : goal.slice_bounds-put_record-end
slice_bounds-put_record-end c = let a = ends (goal.at.slice_bounds-put_record-end c).After-span_of-span in omega arith
