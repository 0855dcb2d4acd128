-- The part that was lent has room for just the bytes that the digits spell.
use Prim.Native.Nat.{◌+◌, ◌/◌, ◌-◌}
use mathlib.Core.Path.{◌≡◌, sym, ◌∙◌}
use native.Mathlib.{Omega.arith, Nat.add-sub_cancel_left}
use lib.{ListN.{length, take, drop}, Seq.drop-drop}
use Rattle.spelling.{specs.Hex.unhex, proofs.HexLaws.unhex_length}
use Rattle.protocol.proofs.Bytes.{length_part}
use Rattle.buffers.proofs.{Laws.put_whole}
use Rattle.buffers.proofs.lines.put_digits.Goals as goal

pub returns : goal.returns
returns c =
    let a = c.args in
    let n = unhex_length a.digits.now in
    let k : a.at + length a.digits.now / 2 - a.at ≡ length a.digits.now / 2 = add-sub_cancel_left _ _ in
    let lent : length (unhex a.digits.now) ≡ length (take (a.at + length a.digits.now / 2 - a.at) (drop a.at a.buf.now)) =
    rw k (n ∙ sym (length_part a.buf.now a.at (length a.digits.now / 2) (omega (arith, n, c.requires)))) in
    rw (put_whole c.put_unhex.ensures lent, k, drop-drop, n)

pub slice_bounds-put_unhex-end : goal.slice_bounds-put_unhex-end
slice_bounds-put_unhex-end c = omega (arith, unhex_length c.args.digits.now, c.requires)
