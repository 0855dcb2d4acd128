-- `spelling::is_clear` meets its contract. The invariant: the contract, of the bytes passed. Assumes nothing.
use Rattle.std.proofs.Common.{◌≡◌, get_or}
use Rattle.spelling.specs.Bytes.{Test, Below}
use Rattle.spelling.proofs.is_clear.Given as goal

abbrev pub invariant-loop-b : goal.invariant-loop-b
invariant-loop-b l = Test (Below l.b-index (λ k. get_or l.s k 0 ≡ l.stop → ⊥)) l.clear
