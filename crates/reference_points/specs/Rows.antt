-- A worked example is a row: a small machine, a call on it, what the call answers and the machine after it, as 01 says them.
--
-- The machine has 3 cores, 4 lines and a width of 5, and a row is about core 1 and line 2. The other cores, lines and copies hold something of
-- their own, and so do cores and lines outside the sizes, so that a step which looks or writes elsewhere shows. No two bytes are equal.
use Rattle.std.specs.Prelude.{ℕ, zero, suc, Option, Some, None as NoWriteback}
use Rattle.std.specs.Prelude.{None as NothingHeld, Some as Version}
use mathlib.Core.{Path.◌≡◌, Bool.{true, false}, List.{List, [], ◌∷◌, ◌++◌}}
use Rattle.std.specs.Prelude.{set, replicate}
use Rattle.protocol.specs.{Stamps.stamp, Fresh.{fresh_core, fresh_cell, fresh_line}, Buffers.Bytes, Step.{Reply, Outcome, step}}
use Rattle.protocol.specs.Machine.{Machine, machine}
use Rattle.protocol.specs.declared.{Pieces.Pieces, Stamp.Stamp}
use Rattle.protocol.specs.declared.Copy.{Copy, TheVariants.{None as NoCopy, Shared as CopyShared, Owned as CopyOwned}}
use Rattle.protocol.specs.declared.Want.{Want, TheVariants.{Load as WantLoad, Store as WantStore}}
use Rattle.protocol.specs.declared.{Grant.{Grant, TheVariants.{Share as GrantShare, Own as GrantOwn}}, Slot.{Slot, TheVariants.{Asked, Answered}}, Core.Core, Cell.Cell}
use Rattle.protocol.specs.declared.{Manager.TheVariants.{Shared, Owned}, Recall.{Recall, TheVariants.{None as NoRecall, Downgrade, Flush}}}
use Rattle.protocol.specs.declared.{ManagerLine.ManagerLine, State.State, Call.Call}

-- ---- parts of a machine

-- a core: lts, sts and slot
abbrev pub core : ℕ → ℕ → Slot → Core
core lts sts s = record { clocks = record { lts = stamp lts; sts = stamp sts }; slot = s }

-- its slot: asked for line 2, at an lts; or answered for line 2, with wts and rts
abbrev pub asked : Want → ℕ → Option Stamp → Slot
asked a lts h = Asked a 2 (stamp lts) h

abbrev pub answered : Grant → ℕ → ℕ → Slot
answered g wts rts = Answered g 2 (stamp wts) (stamp rts)

-- a slot in use for another line: line 3 asked for, to load or to store, or answered, with a share or an own
abbrev pub asked_elsewhere : Slot
asked_elsewhere = Asked WantLoad 3 (stamp 1) (Version (stamp 2))

abbrev pub store_asked_elsewhere : Slot
store_asked_elsewhere = Asked WantStore 3 (stamp 1) NothingHeld

abbrev pub answered_elsewhere : Slot
answered_elsewhere = Answered GrantShare 3 (stamp 2) (stamp 3)

abbrev pub own_elsewhere : Slot
own_elsewhere = Answered GrantOwn 3 (stamp 2) (stamp 3)

-- a copy: shared; owned, not dirty; owned, dirty; each with wts and rts
abbrev pub shared_copy : ℕ → ℕ → Copy
shared_copy wts rts = CopyShared (stamp wts) (stamp rts)

abbrev pub clean_copy : ℕ → ℕ → Copy
clean_copy wts rts = CopyOwned false (stamp wts) (stamp rts)

abbrev pub dirty_copy : ℕ → ℕ → Copy
dirty_copy wts rts = CopyOwned true (stamp wts) (stamp rts)

-- a manager line without a writeback: shared, with wts and rts; or owned by a core, with a recall
abbrev pub shared_line : ℕ → ℕ → ManagerLine
shared_line wts rts = record { manager = Shared (stamp wts) (stamp rts); recall = NoRecall; writeback = NoWriteback }

abbrev pub owned_line : ℕ → Recall → ManagerLine
owned_line c k = record { manager = Owned c; recall = k; writeback = NoWriteback }

-- the same with a recall; with a writeback in flight, with wts and rts
abbrev pub with_recall : Recall → ManagerLine → ManagerLine
with_recall k m = record { manager = m.manager; recall = k; writeback = m.writeback }

abbrev pub with_writeback : ℕ → ℕ → ManagerLine → ManagerLine
with_writeback wts rts m = record { manager = m.manager; recall = m.recall; writeback = Some (record { wts = stamp wts; rts = stamp rts }) }

-- the same with both
abbrev pub busy : ManagerLine → ManagerLine
busy m = with_recall Downgrade (with_writeback 5 6 m)

-- core 1, its copy of line 2, and the manager's line 2; how many copies core 1 holds is the machine's to say
abbrev pub pieces : Core → Copy → ManagerLine → Pieces
pieces k x m = record { number = 2; core = k; copy = x; line = m; copies = 0 }

-- ---- the bytes

-- the bytes of line 2 at its four places: core 1's copy, the manager's line, the writeback, the answer to core 1
pub data Places : Type 0 where
  places : (copy manager writeback answer : Bytes) → Places

-- n bytes that count from a
abbrev pub counting : ℕ → ℕ → Bytes
counting zero a = []
counting (suc n) a = a ∷ counting n (suc a)

-- what is at each of them before the call
abbrev pub copy_bytes : Bytes
copy_bytes = counting 5 40

abbrev pub manager_bytes : Bytes
manager_bytes = counting 5 110

abbrev pub writeback_bytes : Bytes
writeback_bytes = counting 5 130

abbrev pub answer_bytes : Bytes
answer_bytes = counting 5 145

abbrev pub unmoved : Places
unmoved = places copy_bytes manager_bytes writeback_bytes answer_bytes

-- the bytes given to a store
abbrev pub given : Bytes
given = counting 5 200

-- the private buffer: core 0's copies of the four lines, then core 1's, then core 2's
abbrev pub private : Places → Bytes
private (places x m w a) = counting 30 10 ++ x ++ counting 25 45

-- the shared buffer: the four lines, their writebacks, the answers to the three cores
abbrev pub shared : Places → Bytes
shared (places x m w a) = counting 10 100 ++ m ++ counting 15 115 ++ w ++ counting 10 135 ++ a ++ counting 5 150

-- ---- the machine

-- the greatest timestamp
abbrev pub greatest : ℕ
greatest = 4294967295

abbrev pub cell : Copy → Cell
cell x = record { copy = x }

-- the state with this lease and these pieces, and with room for a copy of each line. Core 2 asks to store to line 1, which is shared, with wts
-- later than rts. Cores 3 and 4 and lines 4 and 5 lie outside the sizes: core 3 has lts at the greatest timestamp, an answered slot and an owned
-- copy of line 2, not dirty, at the greatest rts; core 4 asked at the greatest timestamp; core 1 has such a copy of line 4 too; line 4 has an
-- owner, and line 5 an owner who holds no copy, and a recall
abbrev pub state_of : ℕ → Pieces → State
state_of lease p =
    record {
      opening = record { cores = 3; lines = 4; width = 5; lease = lease; cap = 4 };
      core =
          core 3 5 (Asked WantStore 0 (stamp 2) NothingHeld) ∷ p.core ∷ core 4 2 (Asked WantStore 1 (stamp 4) (Version (stamp 8)))
          ∷ core greatest 1 (Answered GrantShare 4 (stamp 1) (stamp 1)) ∷ core 1 1 (asked WantLoad greatest NothingHeld) ∷ replicate 11 fresh_core;
      cell =
          cell (dirty_copy 6 8) ∷ cell (shared_copy 1 2) ∷ cell (shared_copy 2 3) ∷ replicate 61 fresh_cell
          ++ cell (shared_copy 3 4) ∷ cell (shared_copy 8 12) ∷ cell p.copy ∷ cell (clean_copy 5 9) ∷ cell (clean_copy 6 greatest)
          ∷ replicate 59 fresh_cell
          ++ cell NoCopy ∷ cell (shared_copy 8 9) ∷ cell (shared_copy 1 3) ∷ replicate 61 fresh_cell
          ++ cell NoCopy ∷ cell NoCopy ∷ cell (clean_copy 6 greatest) ∷ replicate 829 fresh_cell;
      line =
          with_writeback 5 7 (owned_line 0 Downgrade) ∷ shared_line 8 7 ∷ p.line ∷ owned_line 1 NoRecall ∷ owned_line 3 NoRecall ∷ owned_line 1 Flush
          ∷ replicate 58 fresh_line;
    }

abbrev pub machine_of : ℕ → Pieces → Places → Machine
machine_of lease p b = machine (state_of lease p) (private b) (shared b)

-- a state with another core c, or with another line l
abbrev pub with_core : ℕ → Core → State → State
with_core c k s = record { opening = s.opening; core = set s.core c k; cell = s.cell; line = s.line }

abbrev pub with_line : ℕ → ManagerLine → State → State
with_line l m s = record { opening = s.opening; core = s.core; cell = s.cell; line = set s.line l m }

-- ---- rows

-- a row: the lease and the pieces before the call; the call; its answer, the pieces and the bytes after it
pub data Row : Type 0 where
  row : (lease : ℕ) (before : Pieces) (call : Call) (reply : Reply) (after : Pieces) (bytes : Places) → Row

-- what `step` gives on a row's machine, and what the row says: the answer, the whole state and both buffers
abbrev pub got : Row → Outcome
got (row lease before call reply after bytes) = step (machine_of lease before unmoved) call given

abbrev pub told : Row → Outcome
told (row lease before call reply after bytes) = record { reply = reply; machine = machine_of lease after bytes }

-- P holds of each entry of a list
abbrev pub Each : {A : Type 0} → (A → Type 0) → List A → Type 0
Each P [] = Unit
Each P (x ∷ xs) = P x × Each P xs

-- two functions give the same of each entry
abbrev pub Agree : {A B : Type 0} → (A → B) → (A → B) → List A → Type 0
Agree {A} f g = Each (λ (x : A). f x ≡ g x)

-- every row of a table holds
abbrev pub AllHold : List Row → Type 0
AllHold = Agree got told
