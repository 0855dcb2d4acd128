-- The spots of a line read off the machine, and what a step's effect on one core and one line makes of them.
use Prim.Native.Nat.{ℕ, ◌<◌}
use mathlib.Core.{Path.{◌≡◌, refl, ◌∙◌, ap, ap₂}, Logic.{◌⊎◌, inl, inr}, Bool.{Bool, true, false}}
use native.Mathlib.Decide.{ℕ_discrete}
use lib.ListN.{length}
use Rattle.std.specs.Prelude.{Option, Some, None}
use Rattle.protocol.specs.Buffers.{Bytes, There, copy_bytes, manager_bytes, writeback_bytes, answer_bytes, given_fits, moved_shared}
use Rattle.protocol.specs.Machine.{Machine, core_at, copy_at, line_at, applied}
use Rattle.protocol.specs.declared.{Stamp.Stamp, Copy.{Copy, TheVariants.{None as NoCopy, Shared as CopyShared, Owned as CopyOwned}}}
use Rattle.protocol.specs.declared.Grant.{Grant, TheVariants.{Share as GrantShare, Renew as GrantRenew, Own as GrantOwn}}
use Rattle.protocol.specs.declared.{Slot.{Slot, TheVariants.{Empty, Asked, Answered}}, Core.Core, Manager.{Manager, TheVariants.{Shared, Owned}}}
use Rattle.protocol.specs.declared.{Flight.Flight, ManagerLine.ManagerLine, Opening.Opening}
use Rattle.protocol.specs.declared.Effect.{Effect}
use Rattle.protocol.proofs.{Refusals.Fit, Written.{Arrays, core_at_lem, core_off, line_at_lem, line_off, copy_at_lem, copy_off}}
use Rattle.protocol.proofs.Moves.{manager_after, writeback_after, copy_after, answer_after, AnswerStays, manager_after_lem, writeback_after_lem, copy_after_lem}
use Rattle.protocol.proofs.Moves.{answer_after_lem, manager_other, writeback_other, answer_other, private_other}
use Rattle.protocol.proofs.Order.Versions.{Spot, at_manager, at_writeback, at_copy, at_slot, Mark, clean, mine, Content, nothing, snapshot, renewal, newest}

-- ---- what is at each spot

-- the cells of a line and their values: one cell, the line's bytes
abbrev pub LineCell : Type 0
LineCell = Unit {0}

abbrev pub Value : Type 0
Value = Bytes

abbrev pub cells : Bytes → LineCell → Value
cells b i = b

-- the marks of the cells of core c's copy
abbrev pub mark_by : ℕ → Bool → Mark
mark_by c true = mine c
mark_by c false = clean

abbrev pub marks : ℕ → Bool → LineCell → Mark
marks c d i = mark_by c d

abbrev pub all_clean : LineCell → Mark
all_clean i = clean

abbrev pub view_manager : Manager → Bytes → Content LineCell Value
view_manager (Shared w r) b = newest all_clean w.0 r.0 (cells b)
view_manager (Owned c) b = nothing

abbrev pub view_writeback : Option Flight → Bytes → Content LineCell Value
view_writeback None b = nothing
view_writeback (Some f) b = newest all_clean f.wts.0 f.rts.0 (cells b)

abbrev pub view_copy : ℕ → Copy → Bytes → Content LineCell Value
view_copy c NoCopy b = nothing
view_copy c (CopyShared w r) b = snapshot w.0 r.0 (cells b)
view_copy c (CopyOwned d w r) b = newest (marks c d) w.0 r.0 (cells b)

abbrev pub granted : Grant → Stamp → Stamp → Bytes → Content LineCell Value
granted GrantShare w r b = snapshot w.0 r.0 (cells b)
granted GrantRenew w r b = renewal w.0 r.0
granted GrantOwn w r b = newest all_clean w.0 r.0 (cells b)

-- an answer counts for the line that it speaks of
abbrev pub view_grant : {B : Type 0} → Dec B → Grant → Stamp → Stamp → Bytes → Content LineCell Value
view_grant (no n) g w r b = nothing
view_grant (yes p) g w r b = granted g w r b

abbrev pub view_slot : ℕ → Slot → Bytes → Content LineCell Value
view_slot l Empty b = nothing
view_slot l (Asked a n t h) b = nothing
view_slot l (Answered g n w r) b = view_grant (ℕ_discrete n l) g w r b

pub view_at : (l : ℕ) (g : Grant) (w r : Stamp) (b : Bytes) → view_slot l (Answered g l w r) b ≡ granted g w r b
view_at l g w r b = go (ℕ_discrete l l)
  where
    go : (d : Dec (l ≡ l)) → view_grant d g w r b ≡ granted g w r b
    go (yes p) = refl
    go (no n) = absurd (n refl)

-- line l of the machine, spot by spot
unfoldable pub look : Machine → ℕ → Spot → Content LineCell Value
look m l at_manager = view_manager (line_at m.state l).manager (manager_bytes m.state.opening m.shared l)
look m l at_writeback = view_writeback (line_at m.state l).writeback (writeback_bytes m.state.opening m.shared l)
look m l (at_copy c) = view_copy c (copy_at m.state c l) (copy_bytes m.state.opening m.private c l)
look m l (at_slot c) = view_slot l (core_at m.state c).slot (answer_bytes m.state.opening m.shared c)

-- the slot speaks of line l
abbrev pub SpeaksOf : ℕ → Slot → Type 0
SpeaksOf l Empty = ⊥
SpeaksOf l (Asked a n t h) = n ≡ l
SpeaksOf l (Answered g n w r) = n ≡ l

-- a slot that does not has nothing on the line
pub view_none : (l : ℕ) (v : Slot) (b : Bytes) → (SpeaksOf l v → ⊥) → view_slot l v b ≡ nothing
view_none l Empty b n = refl
view_none l (Asked k i t h) b n = refl
view_none l (Answered g i w r) b n = go (ℕ_discrete i l)
  where
    go : (d : Dec (i ≡ l)) → view_grant d g w r b ≡ nothing
    go (yes p) = absurd (n p)
    go (no p) = refl

-- ---- a step's effect on core c and line l

-- the core's slot stays, or speaks of no other line than l after the step
abbrev pub SlotStep : Machine → ℕ → ℕ → Effect → Type 0
SlotStep m c l d =
    ((d.core.slot ≡ (core_at m.state c).slot) × AnswerStays d.moves)
    ⊎ ((l' : ℕ) → SpeaksOf l' d.core.slot → l' ≡ l)

module _ {m : Machine} (ar : Arrays m.state) (f : Fit m) {c l : ℕ} (q : There m.state.opening c l) (given : Bytes) (d : Effect)
    (hg : given_fits d.moves m.state.opening.width (length given) ≡ true) where
  abbrev o : Opening
  o = m.state.opening

  abbrev m' : Machine
  m' = applied m c l given d

  -- the four spots of core c and line l
  pub look_manager : look m' l at_manager ≡ view_manager d.line.manager (manager_after m c l given d.moves)
  unfolding look applied
  look_manager = ap₂ (λ (v : ManagerLine). view_manager v.manager) (line_at_lem ar q d) (manager_after_lem m c l given f q d.moves)

  pub look_writeback : look m' l at_writeback ≡ view_writeback d.line.writeback (writeback_after m c l given d.moves)
  unfolding look applied
  look_writeback = ap₂ (λ (v : ManagerLine). view_writeback v.writeback) (line_at_lem ar q d) (writeback_after_lem m c l given f q d.moves)

  pub look_copy : look m' l (at_copy c) ≡ view_copy c d.copy (copy_after m c l given d.moves)
  unfolding look applied
  look_copy = ap₂ (view_copy c) (copy_at_lem ar q d) (copy_after_lem m c l given f q d.moves hg)

  pub look_slot : look m' l (at_slot c) ≡ view_slot l d.core.slot (answer_after m c l given d.moves)
  unfolding look applied
  look_slot = ap₂ (λ (v : Core). view_slot l v.slot) (core_at_lem ar q d) (answer_after_lem m c l given f q d.moves)

  -- the spots of other cores on any line
  pub copy_spot_off : (c' l' : ℕ) → l' < o.lines → (c' ≡ c → l' ≡ l → ⊥) → look m' l' (at_copy c') ≡ look m l' (at_copy c')
  unfolding look applied
  copy_spot_off c' l' h n = ap₂ (view_copy c') (copy_off ar q d c' l' h n) (private_other m c l given f q d.moves hg c' l' h n)

  pub slot_spot_off : (c' l' : ℕ) → (c' ≡ c → ⊥) → look m' l' (at_slot c') ≡ look m l' (at_slot c')
  unfolding look applied
  slot_spot_off c' l' n =
      ap₂ (λ (v : Core). view_slot l' v.slot) (core_off ar q d c' n)
      (answer_other m c l given f q d.moves c' (λ e. absurd (n e)))

  -- every spot of another line
  pub line_spots_off : SlotStep m c l d → (l' : ℕ) → l' < o.lines → (l' ≡ l → ⊥) → (Y : Spot)
      → (look m' l' Y ≡ look m l' Y) ⊎ (look m' l' Y ≡ nothing)
  unfolding look applied
  line_spots_off st l' h n at_manager =
      inl (ap₂ (λ (v : ManagerLine). view_manager v.manager) (line_off ar q d l' n)
      (manager_other m c l given f q d.moves l' h n))
  line_spots_off st l' h n at_writeback =
      inl (ap₂ (λ (v : ManagerLine). view_writeback v.writeback) (line_off ar q d l' n)
      (writeback_other m c l given f q d.moves l' h n))
  line_spots_off st l' h n (at_copy c') = inl (copy_spot_off c' l' h (λ _ e. n e))
  line_spots_off st l' h n (at_slot c') = go (ℕ_discrete c' c) st
    where
      go : Dec (c' ≡ c) → SlotStep m c l d → (look m' l' (at_slot c') ≡ look m l' (at_slot c')) ⊎ (look m' l' (at_slot c') ≡ nothing)
      go (no i) t = inl (slot_spot_off c' l' i)
      go (yes i) (inl t) =
          inl (rw i (ap₂ (view_slot l') (ap (λ (v : Core). v.slot) (core_at_lem ar q d) ∙ t.0)
          (answer_other m c l given f q d.moves c (λ _. t.1))))
      go (yes i) (inr t) =
          inr (rw i (ap₂ (λ (v : Core). view_slot l' v.slot) (core_at_lem ar q d) refl
          ∙ view_none l' d.core.slot (answer_bytes o (moved_shared d.moves o c l m.private m.shared) c) (λ e. n (t l' e))))
