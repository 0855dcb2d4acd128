-- The invariant of the machine and the log of commits, and that a step's effect on one core and one line keeps it, if it keeps that
-- line's part.
use Prim.Native.Nat.{ℕ, ◌≤◌, ◌<◌}
use mathlib.Core.{Path.◌≡◌, Bool.true, Logic.{inl, inr}, List.List}
use native.Mathlib.{Omega.arith, Decide.ℕ_discrete}
use lib.ListN.{length}
use Rattle.protocol.specs.{Buffers.{Bytes, There, given_fits}, Machine.{Machine, core_at, copy_at, applied}, Step.{Op, load, store, fence}, Run.Commit}
use Rattle.protocol.specs.Order.{Stores}
use Rattle.protocol.specs.declared.{Stamp.Stamp, Clocks.Clocks, Copy.{Copy, TheVariants.{None as NoCopy, Shared as CopyShared, Owned as CopyOwned}}}
use Rattle.std.specs.Prelude.{Some}
use Rattle.protocol.specs.declared.{Slot.{Slot, TheVariants.{Empty, Asked, Answered}}, Opening.Opening, Effect.Effect}
use Rattle.protocol.specs.declared.Grant.TheVariants.{Share as GrantShare, Renew as GrantRenew, Own as GrantOwn}
use Rattle.protocol.proofs.{Moves.{manager_after, writeback_after, copy_after, answer_after}, Refusals.Fit}
use Rattle.protocol.proofs.Written.{Arrays, core_at_lem, core_off, copy_at_lem, copy_off, arrays_written}
use Rattle.protocol.proofs.Order.Log.{All, all_map, Touches}
use Rattle.protocol.proofs.Order.Versions.{Spot, at_manager, at_writeback, at_copy, at_slot, Elsewhere, Content, Newest, ContentAgrees, VersionAgrees}
use Rattle.protocol.proofs.Order.Versions.{LineAgrees, thin}
use Rattle.protocol.proofs.Order.Look.{LineCell, Value, view_manager, view_writeback, view_copy, view_slot, look, SpeaksOf, SlotStep, look_manager}
use Rattle.protocol.proofs.Order.Look.{look_writeback, look_copy, look_slot, copy_spot_off, slot_spot_off, line_spots_off}

-- the commit stores x to the cell i of line l
abbrev pub Writes : ℕ → LineCell → Commit Bytes → Value → Type 0
Writes l i = Stores l

-- the commit loads from or stores to line l
abbrev pub On : ℕ → Commit Bytes → Type 0
On l e = Touches l e.op

-- a core's loads and fences are at or before its lts, its stores at or before its sts
abbrev pub Passed : Op Bytes → ℕ → Clocks → Type 0
Passed (load l b) t k = t ≤ k.lts.0
Passed (store l b) t k = t ≤ k.sts.0
Passed fence t k = t ≤ k.lts.0

-- a shared copy of wts w beside a slot that speaks of its line: a request and a renewal are of that version
abbrev OfVersion : Slot → Stamp → Type 0
OfVersion Empty w = Unit {0}
OfVersion (Asked a l t h) w = h ≡ Some w
OfVersion (Answered GrantShare l v r) w = Unit {0}
OfVersion (Answered GrantRenew l v r) w = v ≡ w
OfVersion (Answered GrantOwn l v r) w = Unit {0}

-- what a core's copy may be while its slot speaks of the line: not owned, and of the version that the slot names
abbrev pub Allowed : Slot → Copy → Type 0
Allowed v NoCopy = Unit {0}
Allowed v (CopyShared w r) = OfVersion v w
Allowed v (CopyOwned d w r) = ⊥

abbrev pub Beside : ℕ → Slot → Copy → Type 0
Beside l v x = SpeaksOf l v → Allowed v x

-- the commits within a core's clocks
abbrev pub Within : List (Commit Bytes) → Machine → ℕ → Type 0
Within H m c = All (λ a. a.core ≡ c → Passed a.op a.ts.0 (core_at m.state c).clocks) H

-- what holds of line l: of its newest version, of what is at a spot, and of all spots
abbrev pub VersionOf : Value → ℕ → List (Commit Bytes) → Newest LineCell Value → Type 0
VersionOf z l = VersionAgrees z (Writes l) (On l)

abbrev pub SpotOf : Value → ℕ → List (Commit Bytes) → Newest LineCell Value → Spot → Content LineCell Value → Type 0
SpotOf z l = ContentAgrees z (Writes l) (On l)

abbrev pub LineInv : Value → ℕ → List (Commit Bytes) → (Spot → Content LineCell Value) → Newest LineCell Value → Type 0
LineInv z l = LineAgrees z (Writes l) (On l)

-- the invariant; z is the value of a fresh cell
pub record Inv (z : Value) (H : List (Commit Bytes)) (m : Machine) : Type 0 where
  pub arrays : Arrays m.state
  pub clocks : (c : ℕ) → Within H m c
  pub pairs : (c l : ℕ) → l < m.state.opening.lines → Beside l (core_at m.state c).slot (copy_at m.state c l)
  pub lines : (l : ℕ) → l < m.state.opening.lines → (g : Newest LineCell Value) × LineInv z l H (look m l) g

-- clocks that do not go back hold the commits so far
abbrev pub Onward : Clocks → Clocks → Type 0
Onward k k' = (k.lts.0 ≤ k'.lts.0) × (k.sts.0 ≤ k'.sts.0)

clock_up : (o : Op Bytes) (t : ℕ) (k k' : Clocks) → Onward k k' → Passed o t k → Passed o t k'
clock_up (load l b) t k k' p h = omega (arith, p.0)
clock_up (store l b) t k k' p h = omega (arith, p.1)
clock_up fence t k k' p h = omega (arith, p.0)

-- ---- a step's effect d on core c and line l

module _ {z : Value} {H : List (Commit Bytes)} {m : Machine} (I : Inv z H m) (f : Fit m) {c l : ℕ} (q : There m.state.opening c l)
    (given : Bytes) (d : Effect) (hg : given_fits d.moves m.state.opening.width (length given) ≡ true) where
  abbrev o : Opening
  o = m.state.opening

  abbrev m' : Machine
  m' = applied m c l given d

  pub clocks_applied : Onward (core_at m.state c).clocks d.core.clocks → (c' : ℕ) → Within H m' c'
  unfolding applied
  clocks_applied a c' = go (ℕ_discrete c' c)
    where
      go : Dec (c' ≡ c) → Within H m' c'
      go (yes e) =
          rw (e, core_at_lem I.arrays q d)
          (all_map (λ x k i. clock_up x.op x.ts.0 (core_at m.state c).clocks d.core.clocks a (k i)) (I.clocks c))
      go (no n) = rw (core_off I.arrays q d c' n) (I.clocks c')

  pairs_applied : SlotStep m c l d → Beside l d.core.slot d.copy → (c' l' : ℕ) → l' < o.lines
      → Beside l' (core_at m'.state c').slot (copy_at m'.state c' l')
  unfolding applied
  pairs_applied st pr c' l' h = go (ℕ_discrete c' c) (ℕ_discrete l' l) st
    where
      go : Dec (c' ≡ c) → Dec (l' ≡ l) → SlotStep m c l d → Beside l' (core_at m'.state c').slot (copy_at m'.state c' l')
      go (yes e) (yes i) t = rw (e, i, core_at_lem I.arrays q d, copy_at_lem I.arrays q d) pr
      go (yes e) (no n) (inl t) =
          rw (e, core_at_lem I.arrays q d, copy_off I.arrays q d c l' h (λ _ i. n i), t.0) (I.pairs c l' h)
      go (yes e) (no n) (inr t) =
          rw (e, core_at_lem I.arrays q d, copy_off I.arrays q d c l' h (λ _ i. n i)) (λ k. absurd (n (t l' k)))
      go (no n) i t = rw (core_off I.arrays q d c' n, copy_off I.arrays q d c' l' h (λ e _. n e)) (I.pairs c' l' h)

  -- the invariant after the step, for a log H' that may have one commit more
  pub inv_applied : {g' : Newest LineCell Value} (H' : List (Commit Bytes)) → SlotStep m c l d → Beside l d.core.slot d.copy
      → ((c' : ℕ) → Within H' m' c')
      → ((l' : ℕ) (g : Newest LineCell Value) → (l' ≡ l → ⊥) → LineInv z l' H (look m l') g → LineInv z l' H' (look m l') g)
      → LineInv z l H' (look m' l) g' → Inv z H' m'
  unfolding applied
  inv_applied {g'} H' st pr ck grow this = record {
    arrays = arrays_written I.arrays q d;
    clocks = ck;
    pairs = pairs_applied st pr;
    lines = λ l' h. go l' h (ℕ_discrete l' l);
  }
    where
      go : (l' : ℕ) → l' < o.lines → Dec (l' ≡ l) → (g : Newest LineCell Value) × LineInv z l' H' (look m' l') g
      go l' h (yes e) = rw e (g', this)
      go l' h (no n) =
          let k = I.lines l' h in
          (k.0, thin z (Writes l') (On l') (grow l' k.0 n k.1) (look m' l') (line_spots_off I.arrays f q given d hg st l' h n))

  -- what the row leaves at the four spots of core c and line l agrees: the manager's, the writeback's, the copy's, the slot's
  abbrev pub Leaves : List (Commit Bytes) → Newest LineCell Value → Type 0
  Leaves H' g' =
      SpotOf z l H' g' at_manager (view_manager d.line.manager (manager_after m c l given d.moves))
      × SpotOf z l H' g' at_writeback (view_writeback d.line.writeback (writeback_after m c l given d.moves))
      × SpotOf z l H' g' (at_copy c) (view_copy c d.copy (copy_after m c l given d.moves))
      × SpotOf z l H' g' (at_slot c) (view_slot l d.core.slot (answer_after m c l given d.moves))

  -- line l itself, spot by spot: these four, and the other cores' as they were
  pub line_applied : {H' : List (Commit Bytes)} {g' : Newest LineCell Value} → VersionOf z l H' g'
      → ((Y : Spot) → Elsewhere c Y → SpotOf z l H' g' Y (look m l Y)) → Leaves H' g' → LineInv z l H' (look m' l) g'
  line_applied {H'} {g'} ok rest x = record { version = ok; spots = go }
    where
      copy : (c' : ℕ) → Dec (c' ≡ c) → SpotOf z l H' g' (at_copy c') (look m' l (at_copy c'))
      copy c' (yes e) = rw (e, look_copy I.arrays f q given d hg) x.2
      copy c' (no n) = rw (copy_spot_off I.arrays f q given d hg c' l q.line (λ e _. n e)) (rest (at_copy c') n)

      slot : (c' : ℕ) → Dec (c' ≡ c) → SpotOf z l H' g' (at_slot c') (look m' l (at_slot c'))
      slot c' (yes e) = rw (e, look_slot I.arrays f q given d hg) x.3
      slot c' (no n) = rw (slot_spot_off I.arrays f q given d hg c' l n) (rest (at_slot c') n)

      go : (Y : Spot) → SpotOf z l H' g' Y (look m' l Y)
      go at_manager = rw (look_manager I.arrays f q given d hg) x.0
      go at_writeback = rw (look_writeback I.arrays f q given d hg) x.1
      go (at_copy c') = copy c' (ℕ_discrete c' c)
      go (at_slot c') = slot c' (ℕ_discrete c' c)
