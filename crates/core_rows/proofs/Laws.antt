-- The earliest that a lease lets a store be: it is the table's, and where there is none the store is refused with 27.
use Prim.Native.Nat.{ℕ}
use mathlib.Core.{Path.{◌≡◌, refl}, Bool.{Bool, true, false}}
use native.Mathlib.Omega.{arith}
use Rattle.protocol.specs.{Pick.pick, Stamps.after, Refusals.store_passes, Tables.earliest}
use Rattle.std.specs.Prelude.{Option, Some, None}
use Rattle.protocol.specs.declared.{Stamp.Stamp, Copy.TheVariants.Owned as CopyOwned}
use Rattle.protocol.proofs.Stamps.{sum_at, sum_passes}

-- it is a timestamp
pub store_at : (d : Bool) (w r : Stamp) {s : Stamp} → pick d (Some r) (after r 1) ≡ Some s → (store_passes (CopyOwned d w r) ≡ false) × (s ≡ earliest d r)
store_at true w r h = (refl, cc)
store_at false w r h = let a = sum_at r 1 h in (rw a.0, a.1)

-- it passes the greatest timestamp
pub store_passes_lem : (d : Bool) (w r : Stamp) → pick d (Some r) (after r 1) ≡ None → store_passes (CopyOwned d w r) ≡ true
store_passes_lem true w r h = absurd (let z : ◌≡◌ {A = ℕ} 0 1 = cc in omega arith)
store_passes_lem false w r h = rw (sum_passes r 1 h)
