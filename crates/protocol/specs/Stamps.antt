-- Timestamps, and the keys that commits are sorted by.
--
-- "Timestamps are 0 to 4,294,967,295. A place is a call's position in the list, from 1. A timestamp is compared only with a
-- timestamp, a place only with a place."
use Rattle.std.specs.Prelude.{ℕ, ◌+◌, ◌<◌, max}
use mathlib.Core.{Path.◌≡◌, Bool.{Bool, true, false}, Logic.◌⊎◌}
use Rattle.std.specs.Prelude.{ltb, leb, eqb, Option, Some, None}
use Rattle.protocol.specs.{Pick.pick, declared.{Stamp.Stamp, Place.Place, Key.Key}}

-- a number as a timestamp
abbrev pub stamp : ℕ → Stamp
stamp n = record { 0 = n }

-- the greatest timestamp
abbrev pub greatest : Stamp
greatest = stamp 4294967295

-- the number n later, as a timestamp
abbrev pub plus : Stamp → ℕ → Stamp
plus t n = stamp (t.0 + n)

-- a ≤ b, of two timestamps
abbrev pub at_most : Stamp → Stamp → Bool
at_most a b = leb a.0 b.0

-- a < b, of two timestamps
abbrev pub earlier : Stamp → Stamp → Bool
earlier a b = ltb a.0 b.0

-- two timestamps are equal
abbrev pub same : Stamp → Stamp → Bool
same a b = eqb a.0 b.0

-- "Made earlier means at a smaller place."
abbrev pub made_earlier : Place → Place → Bool
made_earlier a b = ltb a.0 b.0

-- the later of two timestamps
abbrev pub later : Stamp → Stamp → Stamp
later a b = stamp (max a.0 b.0)

-- the timestamp n later does not pass the greatest (refusal 27 where it does)
abbrev pub can_add : Stamp → ℕ → Bool
can_add t n = at_most (plus t n) greatest

-- the timestamp n later, or none where it passes the greatest
abbrev pub after : Stamp → ℕ → Option Stamp
after t n = pick (can_add t n) (Some (plus t n)) None

-- "One commit precedes another if its timestamp is smaller, or if the timestamps are equal and its place is smaller."
abbrev pub Precedes : Key → Key → Type 0
Precedes a b = (a.0.0 < b.0.0) ⊎ ((a.0.0 ≡ b.0.0) × (a.1.0 < b.1.0))

-- the same as a test
abbrev pub precedes : Key → Key → Bool
precedes a b = pick (earlier a.0 b.0) true (pick (same a.0 b.0) (made_earlier a.1 b.1) false)
