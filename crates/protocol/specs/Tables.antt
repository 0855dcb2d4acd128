-- The step tables, on the pieces that a step looks at: core c, its copy of line l, the manager's line l.
-- A row gives the answer, the new pieces, and which line of bytes moves. They are read only where no refusal applies.
use Rattle.std.specs.Prelude.{ℕ, Bool, true, false, eqb, Option, Some, None}
use Rattle.protocol.specs.{Pick.pick, Stamps.{plus, at_most, same, later}, Clock.{loaded, store_time, stored, fenced, advanced}}
use Rattle.protocol.specs.declared.Pieces.{Pieces}
use Rattle.protocol.specs.{Refusals.state_refusal, declared.{Stamp.Stamp, Clocks.Clocks}}
use Rattle.protocol.specs.declared.Copy.{Copy, TheVariants.{None as NoCopy, Shared as CopyShared, Owned as CopyOwned}}
use Rattle.protocol.specs.declared.Want.{Want, TheVariants.{Load as WantLoad, Store as WantStore}}
use Rattle.protocol.specs.declared.Grant.{Grant, TheVariants.{Share as GrantShare, Renew as GrantRenew, Own as GrantOwn}}
use Rattle.protocol.specs.declared.{Slot.{Slot, TheVariants.{Empty, Asked, Answered}}, Core.Core}
use Rattle.protocol.specs.declared.Manager.{Manager, TheVariants.{Shared, Owned}}
use Rattle.protocol.specs.declared.Recall.{Recall, TheVariants.{None as NoRecall, Downgrade, Flush}}
use Rattle.protocol.specs.declared.{Flight.Flight, ManagerLine.ManagerLine}
use Rattle.protocol.specs.declared.Opening.{Opening}
use Rattle.protocol.specs.declared.Call.{Call, TheVariants.{Load, Store, Fence, Evict, Drop, Writeback as WriteBack, Advance}}
use Rattle.protocol.specs.declared.Call.TheVariants.{Serve, Receive, Yield, Take, Victim}
use Rattle.protocol.specs.declared.Answer.{Answer, TheVariants.{Refused, Done, Commit}}
use Rattle.protocol.specs.declared.Name.{Name, TheVariants.{Ask, Recall as RecallSent, Share, Renew, Own, Drop as Dropped, Evict as Evicted}}
use Rattle.protocol.specs.declared.Name.TheVariants.{Writeback as WrittenBack, Advance as Advanced, Yield as Yielded, Take as Taken, Victim as Chosen}
use Rattle.protocol.specs.declared.Kind.TheVariants.{Load as OfLoad, Store as OfStore, Fence as OfFence}
use Rattle.protocol.specs.declared.Move.{Move, TheVariants.{Still, Store as MoveStore, Answer as MoveAnswer, Receive as MoveReceive}}
use Rattle.protocol.specs.declared.{Move.TheVariants.{Writeback as MoveWriteback, Take as MoveTake}, Effect.Effect}

-- an answer, the bytes that move, and the pieces after the step
abbrev pub row : Answer → Move → Core → Copy → ManagerLine → Effect
row a v k x m = record { answer = a; moves = v; core = k; copy = x; line = m }

-- the core with other clocks, or with another slot
abbrev pub clocked : Core → Clocks → Core
clocked k t = record { clocks = t; slot = k.slot }

abbrev pub slotted : Core → Slot → Core
slotted k s = record { clocks = k.clocks; slot = s }

-- a refused call: its number, and no piece changes. The tables have it where 01 has no row, since a refusal comes first
abbrev pub refused_row : ℕ → Pieces → Effect
refused_row n p = row (Refused n) Still p.core p.copy p.line

-- ---- ask

-- "the wts of the shared copy held, or none"
abbrev pub held_of : Copy → Option Stamp
held_of NoCopy = None
held_of (CopyShared w r) = Some w
held_of (CopyOwned d w r) = None

-- "ask. The slot becomes asked": load or store, line, the lts when asked, the wts of the shared copy held
abbrev pub asking : Want → ℕ → Pieces → Effect
asking a l p = row (Done Ask) Still (slotted p.core (Asked a l p.core.clocks.lts (held_of p.copy))) p.copy p.line

-- ---- load

-- "lts becomes max(lts, wts)"
abbrev pub raised : Stamp → Pieces → Core
raised w p = clocked p.core (loaded p.core.clocks w)

-- "owned, dirty: commit at lts; copy's rts becomes max(rts, lts)"
-- "owned, not dirty: lts becomes max(lts, wts), commit there; rts becomes max(rts, lts)"
unfoldable pub load_owned : Bool → ℕ → ℕ → Stamp → Stamp → Pieces → Effect
load_owned true c l w r p =
    row (Commit c p.core.clocks.lts (OfLoad l)) Still p.core (CopyOwned true w (later r p.core.clocks.lts)) p.line
load_owned false c l w r p =
    row (Commit c (loaded p.core.clocks w).lts (OfLoad l)) Still (raised w p) (CopyOwned false w (later r (loaded p.core.clocks w).lts)) p.line

-- "shared, lts ≤ rts: lts becomes max(lts, wts), commit there"
abbrev pub load_shared : ℕ → ℕ → Stamp → Pieces → Effect
load_shared c l w p =
    row (Commit c (loaded p.core.clocks w).lts (OfLoad l)) Still (raised w p) p.copy p.line

-- "shared, lts > rts, or none: ask"
unfoldable pub load_table : Copy → ℕ → ℕ → Pieces → Effect
load_table (CopyOwned d w r) c l p = load_owned d c l w r p
load_table (CopyShared w r) c l p = pick (at_most p.core.clocks.lts r) (load_shared c l w p) (asking WantLoad l p)
load_table NoCopy c l p = asking WantLoad l p

-- ---- store

-- the earliest that a copy's lease lets a store be: rts + 1, of a dirty copy rts. 02, Six: "A store to a dirty line commits at
-- max(lts, sts, rts); on an owned line not yet dirty, the old formula holds."
abbrev pub earliest : Bool → Stamp → Stamp
earliest true r = r
earliest false r = plus r 1

-- a store that is at t at the earliest: "sts, wts and rts become ts, bytes replaced, dirty; commit at ts"
abbrev pub store_from : Stamp → ℕ → ℕ → Pieces → Effect
store_from t c l p =
    row (Commit c (store_time p.core.clocks t) (OfStore l)) MoveStore (clocked p.core (stored p.core.clocks t))
    (CopyOwned true (store_time p.core.clocks t) (store_time p.core.clocks t)) p.line

-- "owned: ts = max(lts, sts, rts + 1); .. Else: ask.", of a dirty copy max(lts, sts, rts)
unfoldable pub store_table : Copy → ℕ → ℕ → Pieces → Effect
store_table (CopyOwned d w r) c l p = store_from (earliest d r) c l p
store_table (CopyShared w r) c l p = asking WantStore l p
store_table NoCopy c l p = asking WantStore l p

-- ---- fence and advance

-- "fence (core): lts becomes max(lts, sts); commit there"
unfoldable pub fence_table : ℕ → Pieces → Effect
fence_table c p = row (Commit c (fenced p.core.clocks).lts OfFence) Still (clocked p.core (fenced p.core.clocks)) p.copy p.line

-- "advance (core, by): lts grows by that amount. No commit."
unfoldable pub advance_table : ℕ → Pieces → Effect
advance_table by p = row (Done Advanced) Still (clocked p.core (advanced p.core.clocks (plus p.core.clocks.lts by))) p.copy p.line

-- ---- evict, drop and writeback

-- the line with a writeback in flight
abbrev pub written_back : ManagerLine → Stamp → Stamp → ManagerLine
written_back m w r = record { manager = m.manager; recall = m.recall; writeback = Some (record { wts = w; rts = r }) }

-- "shared: copy becomes none. Owned: its wts, rts and bytes become the writeback, copy none." 02, Two: drop is the first of these, writeback the
-- second, and "evict does whichever fits the copy". The name is the answer's
unfoldable pub evict_table : Name → Copy → Pieces → Effect
evict_table n (CopyShared w r) p = row (Done n) Still p.core NoCopy p.line
evict_table n (CopyOwned d w r) p = row (Done n) MoveWriteback p.core NoCopy (written_back p.line w r)
evict_table n NoCopy p = refused_row 26 p

-- ---- serve

-- "a store sets flush, a load sets downgrade if no recall stands"
abbrev pub recalled : Want → Recall → Recall
recalled WantStore k = Flush
recalled WantLoad NoRecall = Downgrade
recalled WantLoad Downgrade = Downgrade
recalled WantLoad Flush = Flush

-- "the asked wts equals the manager's"
abbrev pub same_version : Option Stamp → Stamp → Bool
same_version None w = false
same_version (Some v) w = same v w

-- the line with another manager part
abbrev pub managed : ManagerLine → Manager → ManagerLine
managed m v = record { manager = v; recall = m.recall; writeback = m.writeback }

-- the lease's end after serving a load: "rts becomes max(rts, asked lts + lease)"
abbrev pub leased_to : Stamp → Stamp → ℕ → Stamp
leased_to r t lease = later r (plus t lease)

-- "the slot becomes renew, no bytes move; otherwise share, with bytes"; r is the new end of the lease
unfoldable pub serve_load : Bool → ℕ → Stamp → Stamp → Pieces → Effect
serve_load true l w r p = row (Done Renew) Still (slotted p.core (Answered GrantRenew l w r)) p.copy (managed p.line (Shared w r))
serve_load false l w r p = row (Done Share) MoveAnswer (slotted p.core (Answered GrantShare l w r)) p.copy (managed p.line (Shared w r))

-- "line owned: answer recall .. Slot stays."
-- "shared, load: rts becomes max(rts, asked lts + lease). If the asked wts equals the manager's, the slot becomes renew .. otherwise share"
-- "shared, store: manager line becomes owned by that core; slot becomes own, with bytes"
unfoldable pub serve_asked : Manager → Want → ℕ → ℕ → Stamp → Option Stamp → Pieces → Opening → Effect
serve_asked (Owned k) a c l t h p o =
    row (Done RecallSent) Still p.core p.copy
    (record { manager = p.line.manager; recall = recalled a p.line.recall; writeback = p.line.writeback })
serve_asked (Shared w r) WantLoad c l t h p o = serve_load (same_version h w) l w (leased_to r t o.lease) p
serve_asked (Shared w r) WantStore c l t h p o =
    row (Done Own) MoveAnswer (slotted p.core (Answered GrantOwn l w r)) p.copy (managed p.line (Owned c))

-- serve (core with an asked slot)
unfoldable pub serve_table : Slot → ℕ → Pieces → Opening → Effect
serve_table (Asked a l t h) c p o = serve_asked p.line.manager a c l t h p o
serve_table (Answered g l w r) c p o = refused_row 21 p
serve_table Empty c p o = refused_row 21 p

-- ---- receive

-- "Renew: a shared copy takes the slot's rts, answer renew; no copy, or an owned one: no copy changes, answer drop."
unfoldable pub receive_renew : Copy → Stamp → Pieces → Effect
receive_renew (CopyShared w r) rts p = row (Done Renew) Still (slotted p.core Empty) (CopyShared w rts) p.line
receive_renew (CopyOwned d w r) rts p = row (Done Dropped) Still (slotted p.core Empty) p.copy p.line
receive_renew NoCopy rts p = row (Done Dropped) Still (slotted p.core Empty) p.copy p.line

-- "share or own: copy becomes shared or owned with the slot's wts, rts and bytes, not dirty; answer share or own. .. Slot becomes empty."
unfoldable pub receive_grant : Grant → Stamp → Stamp → Pieces → Effect
receive_grant GrantShare w r p = row (Done Share) MoveReceive (slotted p.core Empty) (CopyShared w r) p.line
receive_grant GrantOwn w r p = row (Done Own) MoveReceive (slotted p.core Empty) (CopyOwned false w r) p.line
receive_grant GrantRenew w r p = receive_renew p.copy r p

-- receive (core with an answered slot)
unfoldable pub receive_table : Slot → Pieces → Effect
receive_table (Answered g l w r) p = receive_grant g w r p
receive_table (Asked a l t h) p = refused_row 22 p
receive_table Empty p = refused_row 22 p

-- ---- yield

-- "Downgrade: its copy becomes shared, not dirty. Flush: none." (Without a recall no yield is accepted.)
abbrev pub yielded : Recall → Stamp → Stamp → Copy
yielded Downgrade w r = CopyShared w r
yielded Flush w r = NoCopy
yielded NoRecall w r = NoCopy

-- "the owner's wts, rts and bytes become the writeback"
unfoldable pub yield_table : Copy → Pieces → Effect
yield_table (CopyOwned d w r) p = row (Done Yielded) MoveWriteback p.core (yielded p.line.recall w r) (written_back p.line w r)
yield_table (CopyShared w r) p = refused_row 24 p
yield_table NoCopy p = refused_row 24 p

-- ---- take

-- "manager takes the writeback, becomes shared; recall none, writeback none"
unfoldable pub take_table : Option Flight → Pieces → Effect
take_table (Some f) p =
    row (Done Taken) MoveTake p.core p.copy (record { manager = Shared f.wts f.rts; recall = NoRecall; writeback = None })
take_table None p = refused_row 25 p

-- ---- victim

-- 02, Four: "answers the held line with the smallest rts, ties to the smallest line number". Nothing changes
unfoldable pub victim_table : Pieces → Effect
victim_table p = row (Done (Chosen p.number)) Still p.core p.copy p.line

-- ---- all of them

-- the table of a call
unfoldable pub table_of : Call → Pieces → Opening → Effect
table_of (Load c l) p o = load_table p.copy c l p
table_of (Store g c l) p o = store_table p.copy c l p
table_of (Fence c) p o = fence_table c p
table_of (Evict c l) p o = evict_table Evicted p.copy p
table_of (Drop c l) p o = evict_table Dropped p.copy p
table_of (WriteBack c l) p o = evict_table WrittenBack p.copy p
table_of (Advance c by) p o = advance_table by p
table_of (Serve c) p o = serve_table p.core.slot c p o
table_of (Receive c) p o = receive_table p.core.slot p
table_of (Yield l) p o = yield_table p.copy p
table_of (Take l) p o = take_table p.line.writeback p
table_of (Victim c) p o = victim_table p

-- what a call makes of the pieces: its table's row, or, with the pieces as they are, the number that it is refused with (20 and up)
unfoldable pub effect_of : Call → Pieces → Opening → Effect
effect_of call p o =
    pick (eqb (state_refusal call p o) 0) (table_of call p o) (refused_row (state_refusal call p o) p)
