-- `spelling::is_data` meets its contract: hex digits, some and even in number, are data, and nothing else is. Assumes nothing.
use Rattle.std.proofs.Common.{arith, sym, ◌∙◌}
use borrow.Author.Tests.{eqb-true}
use Rattle.std.proofs.lemmas.Bool.Decides.{nat_tests}
use Rattle.spelling.proofs.HexLaws.{data_all, data_none}
use Rattle.spelling.proofs.is_data.Goals as goal
use Rattle.spelling.proofs.is_data.Goals.{then-not-is_empty, else-not-is_empty}

pub returns-then-s-eq0 : goal.returns-then-s-eq0
returns-then-s-eq0 c = data_all _ _ (elim c.if-not-is_empty.branch [ then-not-is_empty w ↦ (grind (arith, nat_tests), omega (arith, eqb-true _ _ (sym w.value-is ∙ c.if-s-eq0.true))) | else-not-is_empty w ↦ grind (arith, nat_tests) ]) c.all_hex.ensures

pub returns-else-s-eq0 : goal.returns-else-s-eq0
returns-else-s-eq0 c =
    data_none _ _ c.if-s-eq0.false (λ h. elim c.if-not-is_empty.branch [ then-not-is_empty w ↦ grind (arith, nat_tests) | else-not-is_empty w ↦ grind (arith, nat_tests) ])
