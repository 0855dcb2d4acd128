-- `spelling::all_hex` meets its contract. The invariant: the contract, of the bytes passed. Assumes nothing.
use Rattle.std.proofs.Common.{arith, get_or}
use Rattle.spelling.specs.Hex.{HexDigit}
use Rattle.spelling.proofs.Tests.{test_more, test_all}
use Rattle.spelling.proofs.all_hex.Goals as goal

pub loop-b-init : goal.loop-b-init
loop-b-init c = λ k h. absurd (omega arith)

pub loop-b-preserved : goal.loop-b-preserved
loop-b-preserved c =
    let l = c.loop-b in
    test_more (λ k. HexDigit (get_or c.args.s.now k 0)) l.b-index l.ok _ l.invariant c.is_hex-ok.ensures

pub returns : goal.returns
returns c = test_all HexDigit _ c.loop-b.b-index _ (omega arith) c.loop-b.invariant
