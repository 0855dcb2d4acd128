-- Inside the limits neither the sum nor a product passes the greatest number.
use mathlib.Core.Path.{sym}
use native.Mathlib.Omega.{arith}
use Rattle.protocol.proofs.Extents.{inside, rows_most, shared_most}
use Rattle.protocol.proofs.Opening.shared_length.Goals as goal

pub overflow_mul-result : goal.overflow_mul-result
overflow_mul-result c = omega (arith, (inside c.args.self (sym c.if-fits.ensures)).most_lines)

pub overflow_add-result : goal.overflow_add-result
overflow_add-result c = let a = rows_most (inside c.args.self (sym c.if-fits.ensures)) in omega arith

pub overflow_mul-result-then-fits : goal.overflow_mul-result-then-fits
overflow_mul-result-then-fits c = let a = shared_most (inside c.args.self (sym c.if-fits.ensures)) in omega arith
