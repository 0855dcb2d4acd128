-- Laws of timestamps: two tests of one order, and the timestamp so much later.
use Prim.Native.Nat.{ℕ}
use mathlib.Core.{Path.{◌≡◌, refl}, Bool.{Bool, true, false}}
use Rattle.std.specs.Prelude.{Option, Some, None}
use native.Mathlib.Omega.{arith}
use Rattle.protocol.specs.{Pick.pick, Stamps.{at_most, earlier, plus, can_add, after}, declared.Stamp.Stamp}
use borrow.Author.Tests.{leb-true, leb-false, lt-ltb, le-ltb}

-- a ≤ b, and not b < a
pub not_earlier : (a b : Stamp) → at_most a b ≡ true → earlier b a ≡ false
not_earlier a b e = le-ltb b.0 a.0 (leb-true a.0 b.0 e)

-- not a ≤ b, and b < a
pub then_earlier : (a b : Stamp) → at_most a b ≡ false → earlier b a ≡ true
then_earlier a b e = lt-ltb b.0 a.0 (leb-false a.0 b.0 e)

-- the sum is a timestamp: it fits, and is n later
pub sum_at : (t : Stamp) (n : ℕ) {s : Stamp} → after t n ≡ Some s → (can_add t n ≡ true) × (s ≡ plus t n)
sum_at t n {s} = go (can_add t n) refl
  where
    go : (b : Bool) → can_add t n ≡ b → pick b (Some (plus t n)) None ≡ Some s → (can_add t n ≡ true) × (s ≡ plus t n)
    go true e h = (e, cc)
    go false e h = absurd (let z : ◌≡◌ {A = ℕ} 0 1 = cc in omega arith)

-- the sum passes the greatest timestamp: it does not fit
pub sum_passes : (t : Stamp) (n : ℕ) → after t n ≡ None → can_add t n ≡ false
sum_passes t n = go (can_add t n) refl
  where
    go : (b : Bool) → can_add t n ≡ b → pick b (Some (plus t n)) None ≡ None → can_add t n ≡ false
    go true e h = absurd (let z : ◌≡◌ {A = ℕ} 0 1 = cc in omega arith)
    go false e h = e
