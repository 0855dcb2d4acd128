-- Nothing under a refusal, else the part of the copy or of the manager's line.
use mathlib.Core.Path.{sym, ◌∙◌}
use native.Mathlib.Omega.{arith}
use Rattle.protocol.{specs.Buffers.There, proofs.Extents.indices}
use Rattle.engine.proofs.{Showing.{there, shows_nothing, shows_copy, shows_manager}}
use Rattle.engine.proofs.show.Goals as goal
use Rattle.engine.proofs.show.Goals.{Else-is_some}

pub returns-then-is_some : goal.returns-then-is_some
returns-then-is_some c =
    shows_nothing _ _ _ _ _ _ c.input_refusal.ensures (sym c.is_some.ensures ∙ c.if-is_some.true) _ c.part.ensures

there_now : (c : Else-is_some) → There c.args.s.opening c.args.core c.args.line
there_now c =
    let a = c.args in
    there a.s a.«private» a.shared a.core a.line _ c.input_refusal.ensures (sym c.is_some.ensures ∙ c.if-is_some.false)

pub returns-then-is_held : goal.returns-then-is_held
returns-then-is_held c =
    shows_copy _ _ _ _ _ _ c.input_refusal.ensures (sym c.is_some.ensures ∙ c.if-is_some.false) (sym c.is_held.ensures ∙ c.if-is_held.true) _
    c.copy_start-start.ensures _ c.part-then-is_held.ensures

pub returns : goal.returns
returns c =
    shows_manager _ _ _ _ _ _ c.input_refusal.ensures (sym c.is_some.ensures ∙ c.if-is_some.false) (sym c.is_held.ensures ∙ c.if-is_held.false) _
    c.manager_start-start.ensures _ c.part-2.ensures

pub overflow_mul-core : goal.overflow_mul-core
overflow_mul-core c = let a = indices (there_now c) in omega arith

pub overflow_add-core : goal.overflow_add-core
overflow_add-core c = let a = indices (there_now c) in omega arith

pub offset_bounds-s-core : goal.offset_bounds-s-core
offset_bounds-s-core c = let a = indices (there_now c) in omega arith

pub bounds-s-core : goal.bounds-s-core
bounds-s-core c = let a = indices (there_now c) in omega arith
