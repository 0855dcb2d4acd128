-- What the order asks of the tables' rows, each as a small fact: where a commit is to the leases, and what a grant or a writeback carries.
use Prim.Native.Nat.{ℕ, ◌≤◌, ◌<◌}
use mathlib.Core.{Path.{◌≡◌, refl, sym, ap}, Bool.{Bool, true, false}}
use native.Mathlib.Omega.{arith}
use borrow.Author.Tests.{eqb-true}
use Rattle.std.specs.Prelude.{Option, Some, None}
use Rattle.protocol.specs.Stamps.{stamp}
use Rattle.protocol.specs.declared.Pieces.{Pieces}
use Rattle.protocol.specs.Tables.{load_owned, load_shared, store_table, evict_table, same_version, leased_to, serve_load, receive_grant, yield_table}
use Rattle.protocol.specs.declared.{Name.Name, Stamp.Stamp, Copy.{Copy, TheVariants.{None as NoCopy, Shared as CopyShared, Owned as CopyOwned}}}
use Rattle.protocol.specs.declared.Slot.{Slot, TheVariants.{Empty, Asked, Answered}}
use Rattle.protocol.specs.declared.{Manager.{Manager, TheVariants.{Shared, Owned}}, Flight.Flight}
use Rattle.protocol.specs.declared.{Answer.{Answer, TheVariants.{Refused, Done, Commit}}, Move.TheVariants.Writeback as MoveWriteback}
use Rattle.protocol.specs.declared.Grant.TheVariants.{Own as GrantOwn}
use Rattle.protocol.proofs.Tests.{never}

-- ---- the timestamps in a row

-- the timestamp of a commit
abbrev pub time_of : Answer → ℕ
time_of (Refused n) = 0
time_of (Done d) = 0
time_of (Commit c t k) = t.0

-- the end of the lease of a copy, of an answer, of the manager's version, of a writeback
abbrev pub copy_rts : Copy → ℕ
copy_rts NoCopy = 0
copy_rts (CopyShared w r) = r.0
copy_rts (CopyOwned d w r) = r.0

abbrev pub slot_rts : Slot → ℕ
slot_rts Empty = 0
slot_rts (Asked a l t h) = 0
slot_rts (Answered g l w r) = r.0

abbrev pub manager_rts : Manager → ℕ
manager_rts (Shared w r) = r.0
manager_rts (Owned c) = 0

abbrev pub writeback_rts : Option Flight → ℕ
writeback_rts None = 0
writeback_rts (Some f) = f.rts.0

-- ---- load

module _ (c l : ℕ) (w r : Stamp) (p : Pieces) where
  -- an owner's read is within the lease that its copy has after it
  pub read_within : (d : Bool) → time_of (load_owned d c l w r p).answer ≤ copy_rts (load_owned d c l w r p).copy
  unfolding load_owned
  read_within true = omega arith
  read_within false = omega arith

  -- the copy's lease does not shrink
  pub lease_grows : (d : Bool) → r.0 ≤ copy_rts (load_owned d c l w r p).copy
  unfolding load_owned
  lease_grows true = omega arith
  lease_grows false = omega arith

  -- a read is at or after the core's lts, and at or before its lts after the step
  pub read_after : (d : Bool) → p.core.clocks.lts.0 ≤ time_of (load_owned d c l w r p).answer
  unfolding load_owned
  read_after true = omega arith
  read_after false = omega arith

  pub read_clocked : (d : Bool) → time_of (load_owned d c l w r p).answer ≤ (load_owned d c l w r p).core.clocks.lts.0
  unfolding load_owned
  read_clocked true = omega arith
  read_clocked false = omega arith

  -- a read of a copy that is not dirty is at or after the store that made it
  pub read_version : w.0 ≤ time_of (load_owned false c l w r p).answer
  unfolding load_owned
  read_version = omega arith

  -- the same of a shared copy within its lease
  pub shared_version : w.0 ≤ time_of (load_shared c l w p).answer
  shared_version = omega arith

  pub shared_within : w.0 ≤ r.0 → p.core.clocks.lts.0 ≤ r.0 → time_of (load_shared c l w p).answer ≤ r.0
  shared_within h k = omega arith

  -- ---- store

  -- a store is at or after the end of its copy's lease, past it if the copy is not dirty, and at or after both clocks
  pub store_from_lem : (d : Bool) → r.0 ≤ time_of (store_table (CopyOwned d w r) c l p).answer
  unfolding store_table
  store_from_lem true = omega arith
  store_from_lem false = omega arith

  pub store_past : r.0 < time_of (store_table (CopyOwned false w r) c l p).answer
  unfolding store_table
  store_past = omega arith

  pub store_after_loads : (d : Bool) → p.core.clocks.lts.0 ≤ time_of (store_table (CopyOwned d w r) c l p).answer
  unfolding store_table
  store_after_loads d = omega arith

  pub store_after_stores : (d : Bool) → p.core.clocks.sts.0 ≤ time_of (store_table (CopyOwned d w r) c l p).answer
  unfolding store_table
  store_after_stores d = omega arith

-- ---- serve

-- a renewal is of the version that the core holds
pub same_version_lem : (h : Option Stamp) (w : Stamp) → same_version h w ≡ true → h ≡ Some w
same_version_lem None w e = never (sym e)
same_version_lem (Some v) w e = let q : v.0 ≡ w.0 = omega (arith, eqb-true) in ap (λ (n : ℕ). Some (stamp n)) q

module _ (l : ℕ) (w r : Stamp) (p : Pieces) where
  -- the lease that is handed out is the manager's too
  pub grant_within : (d : Bool) → slot_rts (serve_load d l w r p).core.slot ≤ manager_rts (serve_load d l w r p).line.manager
  unfolding serve_load
  grant_within true = omega arith
  grant_within false = omega arith

-- the manager's lease does not shrink
pub manager_grows : (l : ℕ) (w r t : Stamp) (lease : ℕ) (p : Pieces) (d : Bool)
    → r.0 ≤ manager_rts (serve_load d l w (leased_to r t lease) p).line.manager
unfolding serve_load
manager_grows l w r t lease p true = omega arith
manager_grows l w r t lease p false = omega arith

-- ---- receive

-- a line that a core was given is not dirty, whichever copy of it the core held
pub own_clean : (w r : Stamp) (p : Pieces) → (receive_grant GrantOwn w r p).copy ≡ CopyOwned false w r
unfolding receive_grant
own_clean w r p = refl

-- ---- evict, drop, writeback, yield and take

module _ (w r : Stamp) (d : Bool) (p : Pieces) where
  -- the writeback has the whole lease of the owner's copy
  pub evict_lease : (n : Name) → r.0 ≤ writeback_rts (evict_table n (CopyOwned d w r) p).line.writeback
  unfolding evict_table
  evict_lease n = omega arith

  pub yield_lease : r.0 ≤ writeback_rts (yield_table (CopyOwned d w r) p).line.writeback
  unfolding yield_table
  yield_lease = omega arith

  -- its bytes come along
  pub evict_moves : (n : Name) → (evict_table n (CopyOwned d w r) p).moves ≡ MoveWriteback
  unfolding evict_table
  evict_moves n = refl

  pub yield_moves : (yield_table (CopyOwned d w r) p).moves ≡ MoveWriteback
  unfolding yield_table
  yield_moves = refl
