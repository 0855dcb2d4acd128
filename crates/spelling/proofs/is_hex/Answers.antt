-- `spelling::is_hex` meets its contract. Assumes nothing.
use Prim.Native.Nat.{◌≤◌}
use mathlib.Core.Bool.{◌&&◌}
use lib.Dec.{leb}
use Rattle.spelling.proofs.{Tests.{test_within, test_either}}
use Rattle.spelling.proofs.is_hex.Goals as goal

pub returns : goal.returns
returns c =
    let b = c.args.b in
    test_either ((48 ≤ b) × (b ≤ 57)) ((97 ≤ b) × (b ≤ 102)) (leb 48 b && leb b 57) (leb 97 b && leb b 102) (test_within 48 b 57) (test_within 97 b 102)
