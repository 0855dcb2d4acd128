-- `spelling::run_end` meets its contract. The invariant: from where the search is, the byte is as far as it was from the start. Assumes nothing.
use Rattle.std.proofs.Common.{arith, ◌≡◌, ◌+◌, ◌-◌, ℕ, List, length, take, drop, length-drop, subst, ap}
use lib.Seq.{take_all, drop-drop}
use Rattle.spelling.specs.Bytes.{up_to}
use Rattle.spelling.proofs.Split.{up_to_at, up_to_stop, up_to_end}
use Rattle.spelling.proofs.run_end.Goals as goal

pub loop-i-init : goal.loop-i-init
loop-i-init c =
    let s = c.args.s.now in
    let n = c.clear_len-clear.result in
    let stop = c.args.stop in
    let rest : take (length s - c.args.at) (drop c.args.at s) ≡ drop c.args.at s = take_all _ _ (simp length-drop (omega arith)) in
    let clear : length (up_to stop (drop c.args.at s)) ≡ n + length (up_to stop (drop n (drop c.args.at s))) = subst (λ (l : List ℕ). length (up_to stop l) ≡ n + length (up_to stop (drop n l))) rest c.clear_len-clear.ensures.clear in
    omega (arith, clear, ap (λ (l : List ℕ). length (up_to stop l)) (drop-drop n c.args.at s))

pub loop-i-preserved : goal.loop-i-preserved
loop-i-preserved c = omega (arith, up_to_at c.args.stop c.args.s.now c.loop-i.i (omega arith) (omega arith))

pub returns-then-s-i : goal.returns-then-s-i
returns-then-s-i c = omega (arith, up_to_stop c.args.stop c.args.s.now c.loop-i.i (omega arith) (omega arith))

pub returns-then-s-at : goal.returns-then-s-at
returns-then-s-at c = omega (arith, up_to_end c.args.stop c.args.s.now c.args.at (omega arith))

pub returns : goal.returns
returns c = omega (arith, up_to_end c.args.stop c.args.s.now c.loop-i.i (omega arith))
