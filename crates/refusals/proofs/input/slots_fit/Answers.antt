-- The library's test of every element is that of the definition.
use mathlib.Core.Path.{◌∙◌}
use borrow.Author.Tests.{tests}
use lib.ListN.{take}
use Rattle.std.proofs.{Common.rules, lemmas.Iterator.{YieldsList-from_slice, Search.all_from_yields_List}}
use Rattle.protocol.specs.{Refusals.{slot_fits, slots_fit}, declared.Core.Core}
use Rattle.protocol.proofs.Scan.{all_every}
use Rattle.refusals.proofs.input.slots_fit.Goals as goal

pub returns : goal.returns
unfolding slots_fit
returns c =
    let s = c.args.state.now in
    all_from_yields_List (λ (k : Core). slot_fits s.opening.lines k.slot) _ _ _ c.all.ensures.ran (YieldsList-from_slice (take s.opening.cores s.core) c.iter.ensures.rest) (λ x b q k. search (rules, tests)) ∙ all_every _ _
