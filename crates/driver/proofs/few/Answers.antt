-- The library's test of every element is that of the definition.
use mathlib.Core.Path.{◌∙◌}
use borrow.Author.Tests.{tests}
use lib.Dec.{leb}
use Rattle.std.proofs.{Common.rules, lemmas.Iterator.{YieldsList-from_slice, Search.all_from_yields_List}}
use Rattle.protocol.proofs.Scan.{all_every}
use Rattle.driver.specs.Play.{each}
use Rattle.driver.proofs.few.Goals as goal

pub returns : goal.returns
returns c =
    let a = c.args in
    all_from_yields_List (λ n. leb n a.most) _ _ _ c.all.ensures.ran (YieldsList-from_slice (each a.counts) c.iter.ensures.rest) (λ x b q k. search (rules, tests)) ∙ all_every _ _
