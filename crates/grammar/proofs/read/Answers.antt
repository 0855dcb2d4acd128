-- `grammar::read` meets its contract. Assumes nothing.
use Prim.Native.Nat.{ℕ}
use mathlib.Core.{Path.{sym, subst}, List.List}
use lib.ListN.{length}
use Rattle.grammar.specs.Scan.{Scans, texted, field_parts, nothing_read}
use Rattle.grammar.proofs.Walk.{text_read, text_missing}
use Rattle.grammar.proofs.read.Goals as goal

pub returns-in_err-after : goal.returns-in_err-after
returns-in_err-after c = rw c.from_residual.ensures (text_missing _ c.args.kind.now c.args.line.now c.in_err-after.ensures)

pub returns : goal.returns
returns c =
    let s = c.args.line.now in
    let n = length s in
    subst (λ (x : List ℕ). Scans n (texted c.args.kind.now (field_parts c.args.keys.now)) x 0 (nothing_read n) c.fill.result) (sym c.in_ok-after.ensures.0) (text_read c.args.kind.now _ c.fill.ensures)
