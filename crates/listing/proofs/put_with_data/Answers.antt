-- `listing::put_with_data` meets its contract: after the test for room, each of the three texts is put behind the one before it. Assumes nothing.
use Rattle.std.proofs.Common.{arith, refl, ◌≡◌, ◌+◌, length}
use Rattle.listing.specs.Record.{text_as}
use Rattle.listing.proofs.{Laws.{data_short, data_put, digits_count}}
use Rattle.listing.proofs.put_with_data.Goals as goal

pub returns-in_err-end : goal.returns-in_err-end
returns-in_err-end c =
    let a = c.args in
    data_short a.out.now a.at a.head.now (text_as a.read a.given.now) _ c.from_residual-in_err-end.ensures (omega (arith, digits_count a.read a.given.now, c.digit_count.ensures, c.in_err-end.ensures))

pub returns-then-out-end : goal.returns-then-out-end
returns-then-out-end c =
    let a = c.args in
    data_short a.out.now a.at a.head.now (text_as a.read a.given.now) _ refl (omega (arith, digits_count a.read a.given.now, c.digit_count.ensures))

pub returns : goal.returns
returns c =
    let a = c.args in
    let end : c.in_ok-end.end ≡ c.in_ok-digits.digits + length (text_as a.read a.given.now) = omega (arith, digits_count a.read a.given.now, c.digit_count.ensures) in
    data_put a.out.now a.at a.head.now (text_as a.read a.given.now) _ _ _ _ _ _ c.in_ok-digits.digits c.in_ok-end.end (omega arith) end (omega arith) c.put_text.ensures c.put_data.ensures c.put_text-2.ensures
