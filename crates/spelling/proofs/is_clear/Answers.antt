-- `spelling::is_clear` meets its contract. The invariant: the contract, of the bytes passed. Assumes nothing.
use Rattle.std.proofs.Common.{◌≡◌, arith, get_or}
use Rattle.spelling.proofs.Tests.{test_other, test_more, test_all}
use Rattle.spelling.proofs.is_clear.Goals as goal

pub loop-b-init : goal.loop-b-init
loop-b-init c = λ k h. absurd (omega arith)

pub loop-b-preserved : goal.loop-b-preserved
loop-b-preserved c =
    let l = c.loop-b in
    let a = c.args in
    test_more (λ k. get_or a.s.now k 0 ≡ a.stop → ⊥) l.b-index l.clear _ l.invariant (test_other _ a.stop)

pub returns : goal.returns
returns c = test_all (λ x. x ≡ c.args.stop → ⊥) _ c.loop-b.b-index _ (omega arith) c.loop-b.invariant
