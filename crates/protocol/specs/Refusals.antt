-- The refusals of the calls, in the scope document's order: "Checked in this order; first that applies." 30 is of 02, Two; that 13 is the
-- first check of a store in digits of 02, Three; 31, and the 26 of victim, of 02, Four; that a store to a dirty line is never 27 of 02, Six.
use Rattle.std.specs.Prelude.{ℕ, ◌%◌, Option, Some, None}
use mathlib.Core.{Bool.{Bool, true, false}, List.{List, [], ◌∷◌}}
use lib.{Dec.{ltb, leb, eqb}, ListN.{length, take}}
use Rattle.protocol.specs.{Pick.{pick, both, fails, every, Rule, first, ◌gives◌}, Stamps.{earlier, can_add}, Limits.opening_fits}
use Rattle.protocol.specs.{Buffers.{Bytes, private_length, shared_length}, About.about, Copies.{is_held, is_shared, is_owned}, Given.{given_as, bytes_given}}
use Rattle.protocol.specs.Machine.{Machine, pieces_at, core_of, line_of}
use Rattle.protocol.specs.declared.Pieces.{Pieces}
use Rattle.protocol.specs.declared.{Stamp.Stamp, Copy.{Copy, TheVariants.{None as NoCopy, Shared as CopyShared, Owned as CopyOwned}}}
use Rattle.protocol.specs.declared.Want.TheVariants.{Load as WantLoad, Store as WantStore}
use Rattle.protocol.specs.declared.Grant.{Grant, TheVariants.{Share as GrantShare, Renew as GrantRenew, Own as GrantOwn}}
use Rattle.protocol.specs.declared.{Slot.{Slot, TheVariants.{Empty, Asked, Answered}}, Core.Core}
use Rattle.protocol.specs.declared.Manager.{Manager, TheVariants.{Shared, Owned}}
use Rattle.protocol.specs.declared.Recall.{Recall, TheVariants.{None as NoRecall, Downgrade, Flush}}
use Rattle.protocol.specs.declared.{Flight.Flight, ManagerLine.ManagerLine}
use Rattle.protocol.specs.declared.{Opening.Opening, State.State}
use Rattle.protocol.specs.declared.Call.{Call, TheVariants.{Load, Store, Fence, Evict, Drop, Writeback as WriteBack, Advance}}
use Rattle.protocol.specs.declared.Call.TheVariants.{Serve, Receive, Yield, Take, Victim}
use Rattle.protocol.specs.declared.Who.{Who, TheVariants.{Named as NamedCore, Owner, Nobody}}
use Rattle.protocol.specs.declared.Which.{Which, TheVariants.{Named as NamedLine, Asked as OfAsked, Answered as OfAnswered, Nothing, Victim as OfVictim}}
use Rattle.protocol.specs.declared.Act.{Act, TheVariants.{Load as Loads, Store as Stores, Fence as Fences, Advance as Advances, Transfer}}
use Rattle.protocol.specs.declared.{About.About, Given.{Given, TheVariants.{Bytes as AsBytes, Digits as AsDigits}}}

-- ---- Refused because of the input

-- 7: the opening's sizes, lease or capacity outside the limits
unfoldable pub open_refusal : Opening → ℕ
open_refusal o = first ((fails (opening_fits o) gives 7) ∷ [])

-- "0-9 a-f"
abbrev pub is_digit : ℕ → Bool
is_digit b = pick (both (leb 48 b) (leb b 57)) true (both (leb 97 b) (leb b 102))

-- "13 data empty, odd in count, or not 0-9 a-f"
unfoldable pub digit_rules : Bytes → List Rule
digit_rules ds = (eqb (length ds) 0 gives 13) ∷ (eqb (length ds % 2) 1 gives 13) ∷ (fails (every is_digit ds) gives 13) ∷ []

-- of what is given to a call: "wrong digits are 13"
abbrev pub given_refusal : Given → Bytes → ℕ
given_refusal AsBytes given = 0
given_refusal AsDigits given = first (digit_rules given)

-- an owner ≥ cores does not fit
abbrev pub owner_fits : ℕ → Manager → Bool
owner_fits cores (Shared w r) = true
owner_fits cores (Owned c) = ltb c cores

-- a slot's line ≥ lines does not fit
abbrev pub slot_fits : ℕ → Slot → Bool
slot_fits lines Empty = true
slot_fits lines (Asked a l t h) = ltb l lines
slot_fits lines (Answered g l w r) = ltb l lines

-- "only lines and cores inside the sizes are looked at"
unfoldable pub owners_fit : Opening → List ManagerLine → Bool
owners_fit o ls = every (λ (l : ManagerLine). owner_fits o.cores l.manager) (take o.lines ls)

unfoldable pub slots_fit : Opening → List Core → Bool
slots_fit o ks = every (λ (k : Core). slot_fits o.lines k.slot) (take o.cores ks)

-- 1: the state's sizes, lease or capacity lie outside the limits, or an owner ≥ cores, or a slot's line ≥ lines
unfoldable pub state_fits : State → Bool
state_fits s = both (opening_fits s.opening) (both (owners_fit s.opening s.line) (slots_fit s.opening s.core))

-- 2: a buffer not of its exact length
unfoldable pub buffers_fit : Opening → ℕ → ℕ → Bool
buffers_fit o private shared = both (eqb private (private_length o)) (eqb shared (shared_length o))

-- 1 and 2
unfoldable pub machine_refusal : Machine → ℕ
machine_refusal m =
    first
    ((fails (state_fits m.state) gives 1)
    ∷ (fails (buffers_fit m.state.opening (length m.private) (length m.shared)) gives 2)
    ∷ [])

-- 3: core ≥ cores
abbrev pub no_core : Who → Opening → Bool
no_core (NamedCore c) o = leb o.cores c
no_core Owner o = false
no_core Nobody o = false

-- 4: line ≥ lines
abbrev pub no_line : Which → Opening → Bool
no_line (NamedLine l) o = leb o.lines l
no_line OfAsked o = false
no_line OfAnswered o = false
no_line Nothing o = false
no_line OfVictim o = false

-- 5: store bytes not width in count
abbrev pub wrong_count : Act → Opening → ℕ → Bool
wrong_count (Stores g) o n = fails (eqb n o.width)
wrong_count Loads o n = false
wrong_count Fences o n = false
wrong_count (Advances by) o n = false
wrong_count Transfer o n = false

-- 6: advance by 0
abbrev pub by_nothing : Act → Bool
by_nothing (Advances by) = eqb by 0
by_nothing Loads = false
by_nothing (Stores g) = false
by_nothing Fences = false
by_nothing Transfer = false

-- 3 to 6, of what a call is about; n is the count of the store bytes
unfoldable pub call_rules : About → Opening → ℕ → List Rule
call_rules a o n =
    (no_core a.core o gives 3)
    ∷ (no_line a.line o gives 4)
    ∷ (wrong_count a.act o n gives 5)
    ∷ (by_nothing a.act gives 6)
    ∷ []

unfoldable pub call_refusal : Call → Opening → ℕ → ℕ
call_refusal call o n = first (call_rules (about call) o n)

-- ---- Refused because of the state

abbrev pub is_empty : Slot → Bool
is_empty Empty = true
is_empty (Asked a l t h) = false
is_empty (Answered g l w r) = false

abbrev pub is_asked : Slot → Bool
is_asked Empty = false
is_asked (Asked a l t h) = true
is_asked (Answered g l w r) = false

abbrev pub is_answered : Slot → Bool
is_answered Empty = false
is_answered (Asked a l t h) = false
is_answered (Answered g l w r) = true

-- the line is owned
abbrev pub has_owner : Manager → Bool
has_owner (Shared w r) = false
has_owner (Owned c) = true

-- a recall stands
abbrev pub stands : Recall → Bool
stands NoRecall = false
stands Downgrade = true
stands Flush = true

-- a writeback is in flight
abbrev pub in_flight : Option Flight → Bool
in_flight None = false
in_flight (Some f) = true

-- a load must ask: "shared, lts > rts, or none"
abbrev pub load_asks : Copy → Stamp → Bool
load_asks NoCopy lts = true
load_asks (CopyShared w r) lts = earlier r lts
load_asks (CopyOwned d w r) lts = false

-- rts + 1 passes the greatest timestamp (store to an owned line). 02, Six: "Number 27 no longer arises from a store to a dirty line."
abbrev pub store_passes : Copy → Bool
store_passes NoCopy = false
store_passes (CopyShared w r) = false
store_passes (CopyOwned d w r) = both (fails d) (fails (can_add r 1))

-- asked lts + lease passes the greatest timestamp (serve of a load on a shared line)
abbrev pub serve_passes : Slot → Manager → Opening → Bool
serve_passes Empty m o = false
serve_passes (Asked WantLoad l t h) (Shared w r) o = fails (can_add t o.lease)
serve_passes (Asked WantLoad l t h) (Owned c) o = false
serve_passes (Asked WantStore l t h) m o = false
serve_passes (Answered g l w r) m o = false

-- the answer in a slot is a copy: share or own
abbrev pub is_copy : Grant → Bool
is_copy GrantShare = true
is_copy GrantRenew = false
is_copy GrantOwn = true

abbrev pub brings_copy : Slot → Bool
brings_copy Empty = false
brings_copy (Asked a l t h) = false
brings_copy (Answered g l w r) = is_copy g

-- there is no room for a copy of a line, where the core holds this copy of it, and so many copies: "for a line not held, while cap or more copies
-- are held"
abbrev pub no_room : Copy → ℕ → Opening → Bool
no_room x n o = both (fails (is_held x)) (leb o.cap n)

-- 20 to 27, 30 and 31, for each call those that speak of it.
-- 20: load or store must ask, slot not empty. 21: serve, slot not asked. 22: receive, slot not answered. 23: yield, line not owned or no
-- recall. 24: yield, owner's copy not owned. 25: take, no writeback. 26: evict, no copy. 27: rts + 1 (store to an owned line not yet
-- dirty), lts + by (advance) or asked lts + lease (serve of a load on a shared line) passes the greatest timestamp. "30, the copy isn't of the
-- state that the step names, straight after 26": drop names a shared copy, writeback an owned one, and evict, drop and writeback alike are 26
-- without a copy. "31, receive of share or own for a line not held, while cap or more copies are held; after 22". Victim: "a core without copies
-- gets 26"
unfoldable pub state_rules : Call → Pieces → Opening → List Rule
state_rules (Load c l) p o = (both (load_asks p.copy p.core.clocks.lts) (fails (is_empty p.core.slot)) gives 20) ∷ []
state_rules (Store g c l) p o =
    (both (fails (is_owned p.copy)) (fails (is_empty p.core.slot)) gives 20) ∷ (store_passes p.copy gives 27) ∷ []
state_rules (Fence c) p o = []
state_rules (Evict c l) p o = (fails (is_held p.copy) gives 26) ∷ []
state_rules (Drop c l) p o = (fails (is_held p.copy) gives 26) ∷ (fails (is_shared p.copy) gives 30) ∷ []
state_rules (WriteBack c l) p o = (fails (is_held p.copy) gives 26) ∷ (fails (is_owned p.copy) gives 30) ∷ []
state_rules (Advance c by) p o = (fails (can_add p.core.clocks.lts by) gives 27) ∷ []
state_rules (Serve c) p o =
    (fails (is_asked p.core.slot) gives 21) ∷ (serve_passes p.core.slot p.line.manager o gives 27) ∷ []
state_rules (Receive c) p o =
    (fails (is_answered p.core.slot) gives 22) ∷ (both (brings_copy p.core.slot) (no_room p.copy p.copies o) gives 31) ∷ []
state_rules (Yield l) p o =
    (fails (both (has_owner p.line.manager) (stands p.line.recall)) gives 23) ∷ (fails (is_owned p.copy) gives 24) ∷ []
state_rules (Take l) p o = (fails (in_flight p.line.writeback) gives 25) ∷ []
state_rules (Victim c) p o = (eqb p.copies 0 gives 26) ∷ []

unfoldable pub state_refusal : Call → Pieces → Opening → ℕ
state_refusal call p o = first (state_rules call p o)

-- ---- All of them

-- a number of the first kind, or, where that is 0, one of the second
abbrev pub or_else : ℕ → ℕ → ℕ
or_else a b = pick (eqb a 0) b a

-- the number that a call is refused with, or 0 where it is accepted: 13, "the first check", then 1 and 2, then 3 to 6, of which 5 looks at the
-- count of the bytes spelt, then 20 and up; `given` is what is given to a store
unfoldable pub refusal : Machine → Call → Bytes → ℕ
refusal m call given =
    or_else (given_refusal (given_as (about call).act) given)
    (or_else (machine_refusal m)
    (or_else (call_refusal call m.state.opening (length (bytes_given call given)))
    (state_refusal call (pieces_at m.state (core_of call m.state) (line_of call m.state)) m.state.opening)))
