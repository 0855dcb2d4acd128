-- The copy of one line more.
use Prim.Native.Nat.{ℕ, ◌+◌, ◌-◌, ◌*◌, ◌<◌}
use mathlib.Core.Path.{◌∙◌, ap}
use native.Mathlib.Omega.{arith}
use lib.ListN.{drop, length-take}
use Rattle.std.proofs.lemmas.List.{get_or-take, get_or-drop}
use Rattle.protocol.specs.{Fresh.fresh_cell, declared.Cell.Cell}
use Rattle.tables.{specs.Look.{look_to, with_copy}, proofs.Looking.look_next}
use Rattle.tables.proofs.about.look_over.Goals as goal

pub loop-line-init : goal.loop-line-init
unfolding look_to
loop-line-init c = c.nothing-look.ensures

pub loop-line-preserved : goal.loop-line-preserved
loop-line-preserved c =
    let a = c.args in
    let first : ℕ = a.core * 64 in
    let n : ℕ = first + a.lines - first in
    let line = c.loop-line.line in
    let h : line < n = omega (arith, length-take n (drop first a.state.now.cell)) in
    let e = get_or-take n (drop first a.state.now.cell) line fresh_cell h ∙ get_or-drop first a.state.now.cell line fresh_cell in
    look_next _ line c.loop-line.look _ c.loop-line.invariant (c.with-look.ensures ∙ ap (λ (x : Cell). with_copy c.loop-line.look line x.copy) e)
