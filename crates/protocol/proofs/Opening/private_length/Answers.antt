-- Inside the limits neither product passes the greatest number.
use mathlib.Core.Path.{sym}
use native.Mathlib.Omega.{arith}
use Rattle.protocol.proofs.Extents.{inside, copies_most, private_most}
use Rattle.protocol.proofs.Opening.private_length.Goals as goal

pub overflow_mul-result : goal.overflow_mul-result
overflow_mul-result c = let a = copies_most (inside c.args.self (sym c.if-fits.ensures)) in omega arith

pub overflow_mul-result-then-fits : goal.overflow_mul-result-then-fits
overflow_mul-result-then-fits c = let a = private_most (inside c.args.self (sym c.if-fits.ensures)) in omega arith
