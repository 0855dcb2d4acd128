-- What the rows of the calls rest on: that a request for a line that is owned does not add to a timestamp, and what giving a copy up is.
use Prim.Native.Nat.{ℕ}
use mathlib.Core.{Path.{◌≡◌, refl}, Bool.false}
use Rattle.std.specs.Prelude.{Option}
use Rattle.protocol.specs.{Pick.first, Machine.pieces, Refusals.{serve_passes, state_rules, state_refusal}, Tables.{evict_table, table_of, effect_of}}
use Rattle.protocol.specs.declared.{Stamp.Stamp, Want.{Want, TheVariants.{Load as WantLoad, Store as WantStore}}, Opening.Opening, Core.Core}
use Rattle.protocol.specs.declared.{Slot.TheVariants.Asked, Manager.TheVariants.Owned, ManagerLine.ManagerLine, Call.TheVariants.Evict}
use Rattle.protocol.specs.declared.{Name.TheVariants.Evict as Evicted, Copy.{Copy, TheVariants.{None as NoCopy, Shared as CopyShared, Owned as CopyOwned}}}

pub owned_passes : (a : Want) (l : ℕ) (t : Stamp) (h : Option Stamp) (k : ℕ) (o : Opening) → serve_passes (Asked a l t h) (Owned k) o ≡ false
owned_passes WantLoad l t h k o = refl
owned_passes WantStore l t h k o = refl

-- evict takes either copy
pub evict_effect : (k : Core) (v : Copy) (m : ManagerLine) (c l n i : ℕ) (o : Opening) → evict_table Evicted v (pieces n k v m i) ≡ effect_of (Evict c l) (pieces n k v m i) o
unfolding effect_of table_of evict_table state_refusal state_rules first
evict_effect k NoCopy m c l n i o = refl
evict_effect k (CopyShared w r) m c l n i o = refl
evict_effect k (CopyOwned d w r) m c l n i o = refl
