-- `spelling::put_hex` meets its contract. The invariant: there is room, and the buffer holds the digits of the bytes that were passed. Assumes nothing.
use Rattle.std.proofs.Common.{arith, subst, sym, ap, ◌∙◌, ◌*◌, Some}
use lib.Seq.{paste-zero}
use Rattle.spelling.specs.{Hex.hex, Over.PutAt}
use Rattle.spelling.proofs.{HexLaws.hex_length, OverLaws.{pasted, put_short, put_done, hex_more}}
use Rattle.spelling.proofs.put_hex.Goals as goal

pub returns-in_err-end : goal.returns-in_err-end
returns-in_err-end c =
    let a = c.args in
    subst (PutAt a.out.now a.at (hex a.bytes.now) a.out.now) (sym c.from_residual.ensures) (put_short _ _ _ (omega (arith, c.in_err-end.ensures, hex_length a.bytes.now)))

pub loop-i-init : goal.loop-i-init
loop-i-init c = let a = c.args in (omega arith, paste-zero a.out.now a.at (hex a.bytes.now))

pub loop-i-preserved : goal.loop-i-preserved
loop-i-preserved c =
    let l = c.loop-i in
    let a = c.args in
    (l.invariant.0, rw (c.hex_digit.ensures, c.hex_digit-in-loop-i.ensures, l.invariant.1) (hex_more a.out.now a.at a.bytes.now l.i (omega (arith, hex_length a.bytes.now)) (omega arith)))

pub returns : goal.returns
returns c =
    let l = c.loop-i in
    let a = c.args in
    let n = hex_length a.bytes.now in
    put_done _ _ _ _ _ (omega (arith, n)) (ap Some (omega (arith, n))) (l.invariant.1 ∙ pasted a.out.now a.at (hex a.bytes.now) (2 * l.i) (omega (arith, n)))
