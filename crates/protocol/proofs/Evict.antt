-- Evict is the call that fits the copy.
use Prim.Native.Nat.{ℕ}
use mathlib.Core.{Path.{◌≡◌, refl}, Bool.{Bool, true, false}}
use lib.Dec.{eqb}
use Rattle.protocol.specs.{Pick.{pick, first}, Buffers.Bytes, Machine.{Machine, copy_at, pieces_at, applied}}
use Rattle.protocol.specs.Refusals.{call_refusal, state_rules, state_refusal, refusal}
use Rattle.protocol.specs.{Tables.{evict_table, table_of}, Step.{refused, Outcome, meaning, accepted, step}, Evict.{fitting, answering, EvictTheorem}}
use Rattle.protocol.specs.declared.Copy.{Copy, TheVariants.{None as NoCopy, Shared as CopyShared, Owned as CopyOwned}}
use Rattle.protocol.specs.declared.{Call.{Call, TheVariants.Evict}, Name.TheVariants.Evict as Evicted}

-- a refusal has no name: what is accepted decides
chosen : (n : ℕ) (m : Machine) (x y : Outcome) → x ≡ answering Evicted y
    → pick (eqb n 0) x (record { reply = refused n; machine = m }) ≡ answering Evicted (pick (eqb n 0) y (record { reply = refused n; machine = m }))
chosen n m x y e = go (eqb n 0)
  where
    go : (b : Bool) → pick b x (record { reply = refused n; machine = m }) ≡ answering Evicted (pick b y (record { reply = refused n; machine = m }))
    go true = e
    go false = refl

-- the copy v that is there
module _ (m : Machine) (c l : ℕ) (given : Bytes) where
  -- both are refused alike
  same_refusal : (v : Copy) → copy_at m.state c l ≡ v → refusal m (fitting v c l) given ≡ refusal m (Evict c l) given
  unfolding refusal call_refusal state_refusal state_rules first
  same_refusal NoCopy e = rw e refl
  same_refusal (CopyShared w r) e = rw e refl
  same_refusal (CopyOwned d w r) e = rw e refl

  -- an accepted call, by its table
  abbrev made : Call → Outcome
  made call = accepted m call given c l (table_of call (pieces_at m.state c l) m.state.opening)

  -- both have one row, each with its name
  same_row : (v : Copy) → copy_at m.state c l ≡ v → made (Evict c l) ≡ answering Evicted (made (fitting v c l))
  unfolding table_of evict_table accepted meaning applied
  same_row NoCopy e = rw e refl
  same_row (CopyShared w r) e = rw e refl
  same_row (CopyOwned d w r) e = rw e refl

  by_copy : (v : Copy) → copy_at m.state c l ≡ v → step m (Evict c l) given ≡ answering Evicted (step m (fitting v c l) given)
  unfolding step
  by_copy NoCopy e = rw (same_refusal NoCopy e) (chosen (refusal m (Evict c l) given) m _ _ (same_row NoCopy e))
  by_copy (CopyShared w r) e = rw (same_refusal (CopyShared w r) e) (chosen (refusal m (Evict c l) given) m _ _ (same_row (CopyShared w r) e))
  by_copy (CopyOwned d w r) e = rw (same_refusal (CopyOwned d w r) e) (chosen (refusal m (Evict c l) given) m _ _ (same_row (CopyOwned d w r) e))

pub evict_theorem : EvictTheorem
evict_theorem m c l given = by_copy m c l given (copy_at m.state c l) refl
