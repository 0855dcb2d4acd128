-- `spelling::put_unhex` meets its contract. The invariant: there is room, and the buffer holds the bytes of the digits that were passed. Assumes nothing.
use Rattle.std.proofs.Common.{arith, subst, sym, ap, ◌∙◌, ◌*◌, ◌+◌, ◌≡◌, drop, length, length-drop, Some}
use lib.Seq.{paste, paste-zero}
use Rattle.spelling.specs.{Hex.unhex, Over.PutAt}
use Rattle.spelling.proofs.{HexLaws.unhex_length, OverLaws.{pasted, put_short, put_done, pair_within, pair_rest, unhex_more}}
use Rattle.spelling.proofs.put_unhex.Goals as goal

pub returns-in_err-end : goal.returns-in_err-end
returns-in_err-end c =
    let a = c.args in
    subst (PutAt a.out.now a.at (unhex a.digits.now) a.out.now) (sym c.from_residual.ensures) (put_short _ _ _ (omega (arith, c.in_err-end.ensures, unhex_length a.digits.now)))

pub loop-i-init : goal.loop-i-init
loop-i-init c =
    let a = c.args in
    let e = c.enumerate-i-items.ensures in
    let start : c.into_iter-i-iterator.result.count ≡ 0 = cc in
    record {
      room = omega (arith, unhex_length a.digits.now);
      within = omega arith;
      size = cc;
      left = ap (λ k. drop (2 * k) a.digits.now) start ∙ cc;
      laid = paste-zero a.out.now a.at (unhex a.digits.now) ∙ ap (paste a.out.now a.at (unhex a.digits.now)) (sym start);
    }

pub loop-i-preserved : goal.loop-i-preserved
loop-i-preserved c =
    let l = c.loop-i in
    let i = l.i-iterator.count in
    let a = c.args in
    let v = a.digits.now in
    let s = c.in-Some.ensures.steps in
    let left = l.invariant.left ∙ s.0.1.0 in
    let two : length c.in-Some.pair.now ≡ 2 = omega arith in
    record {
      room = l.invariant.room;
      within = omega (arith, unhex_length v, pair_within v _ _ i left two);
      size = omega arith;
      left = ap (λ k. drop (2 * k) v) s.2 ∙ pair_rest v _ _ i left two;
      laid = cc (unhex_more v _ _ i left two a.out.now a.at (c.nibble.result * 16 + c.nibble-in-loop-i.result) l.invariant.room (omega (arith, c.nibble.ensures, c.nibble-in-loop-i.ensures)));
    }

pub returns : goal.returns
returns c =
    let l = c.loop-i in
    let v = c.args.digits.now in
    let n = unhex_length v in
    let done : l.i-iterator.count ≡ length (unhex v) = omega (arith, n, c.in-None.ensures.steps, simp length-drop at (ap length l.invariant.left)) in
    put_done _ _ _ _ _ (omega (arith, n)) (ap Some (omega (arith, n))) (l.invariant.laid ∙ pasted _ _ (unhex v) l.i-iterator.count done)
