-- The step tables of 01 and of 02, Two and Six, row by row: beside the reference points, what each step does to the core, its copy, the
-- manager's line and the bytes. What it leaves shows where there is something to leave: a slot in use, a copy held, a recall and a writeback. So
-- does a number that comes early.
use Rattle.std.specs.Prelude.{ℕ, Option, None as NothingHeld, Some as Version}
use mathlib.Core.{Path.◌≡◌, List.{List, [], ◌∷◌, ◌++◌, map}}
use Rattle.protocol.specs.{Stamps.stamp, Machine.machine, Step.{done, commit, load, store, fence, Outcome, step}, Evict.fitting}
use Rattle.protocol.specs.declared.{Pieces.Pieces, Stamp.Stamp}
use Rattle.protocol.specs.declared.{Copy.{Copy, TheVariants.None as NoCopy}, Want.{Want, TheVariants.{Load as WantLoad, Store as WantStore}}}
use Rattle.protocol.specs.declared.{Grant.TheVariants.{Share as GrantShare, Renew as GrantRenew, Own as GrantOwn}, Slot.{Slot, TheVariants.{Empty, Answered}}}
use Rattle.protocol.specs.declared.{Recall.{Recall, TheVariants.{None as NoRecall, Downgrade, Flush}}, ManagerLine.ManagerLine, State.State}
use Rattle.protocol.specs.declared.Call.{Call, TheVariants.{Load, Store, Fence, Evict, Drop, Writeback as WriteBack, Advance, Serve, Receive, Yield, Take}}
use Rattle.protocol.specs.declared.Given.TheVariants.{Bytes as AsBytes}
use Rattle.protocol.specs.declared.Name.{Name}
use Rattle.protocol.specs.declared.Name.TheVariants.{Ask as ask, Recall as recall, Share as share, Renew as renew, Own as own, Drop as dropped, Evict as evict}
use Rattle.protocol.specs.declared.Name.TheVariants.{Writeback as writeback, Advance as advance, Yield as yield, Take as taken}
use Rattle.reference_points.specs.Rows.{core, asked, answered, asked_elsewhere, store_asked_elsewhere, answered_elsewhere, own_elsewhere, shared_copy, clean_copy}
use Rattle.reference_points.specs.Rows.{dirty_copy, pieces, shared_line}
use Rattle.reference_points.specs.Rows.{owned_line, with_recall, with_writeback, busy, greatest, Row, row, AllHold, Places, places, copy_bytes, manager_bytes}
use Rattle.reference_points.specs.Rows.{writeback_bytes, answer_bytes, unmoved, given, counting, private, shared, state_of, with_core, with_line}

-- a call that is done: what it answers, the pieces and the bytes after it
abbrev pub doing : Pieces → Call → Name → Pieces → Places → Row
doing p call d q b = row 10 p call (done d) q b

-- rows of a step that leaves the clocks, as they are and with other clocks
abbrev pub with_clocks : ℕ → ℕ → Pieces → Pieces
with_clocks lts sts p = pieces (core lts sts p.core.slot) p.copy p.line

abbrev pub at_clocks : ℕ → ℕ → Row → Row
at_clocks lts sts (row lease p call a q b) = row lease (with_clocks lts sts p) call a (with_clocks lts sts q) b

abbrev pub also_at : ℕ → ℕ → List Row → List Row
also_at lts sts rs = rs ++ map (at_clocks lts sts) rs

-- ---- load, store, fence and advance

-- "ask. The slot becomes asked" with "load or store, line, the lts when asked, the wts of the shared copy held, or none": lts, and the copy and the
-- manager's line, which stay
abbrev pub asking : ℕ → Call → Want → Copy → Option Stamp → ManagerLine → Row
asking lts call a x h m = doing (pieces (core lts 40 Empty) x m) call ask (pieces (core lts 40 (asked a lts h)) x m) unmoved

abbrev pub ask_rows : List Row
ask_rows =
    -- load: "shared, lts > rts, or none: ask"; store: "owned: .. Else: ask"
    asking 12 (Load 1 2) WantLoad NoCopy NothingHeld (shared_line 4 9)
    ∷ asking 12 (Load 1 2) WantLoad NoCopy NothingHeld (busy (owned_line 1 NoRecall))
    ∷ asking 12 (Load 1 2) WantLoad (shared_copy 4 11) (Version (stamp 4)) (busy (owned_line 0 NoRecall))
    ∷ asking 12 (Store AsBytes 1 2) WantStore NoCopy NothingHeld (shared_line 4 9)
    ∷ asking 12 (Store AsBytes 1 2) WantStore NoCopy NothingHeld (busy (owned_line 1 NoRecall))
    ∷ asking 12 (Store AsBytes 1 2) WantStore (shared_copy 4 20) (Version (stamp 4)) (busy (shared_line 4 20))
    -- 27 speaks of an owned line not yet dirty
    ∷ asking 12 (Store AsBytes 1 2) WantStore (shared_copy 4 greatest) (Version (stamp 4)) (shared_line 4 greatest)
    ∷ []

-- a load that commits: sts, the slot and the manager's line, which stay; lts and the copy before it, its ts, and the copy after it
abbrev pub loading_over : ℕ → Slot → ManagerLine → ℕ → Copy → ℕ → Copy → Row
loading_over sts s m lts x ts y =
    row 10 (pieces (core lts sts s) x m) (Load 1 2) (commit 1 (stamp ts) (load 2 copy_bytes)) (pieces (core ts sts s) y m) unmoved

abbrev pub loading : Slot → ManagerLine → ℕ → Copy → ℕ → Copy → Row
loading = loading_over 1

abbrev pub load_rows : List Row
load_rows =
    -- "owned, dirty: commit at lts; copy's rts becomes max(rts, lts)"
    loading Empty (owned_line 1 NoRecall) 15 (dirty_copy 11 11) 15 (dirty_copy 11 15)
    ∷ loading Empty (owned_line 1 NoRecall) greatest (dirty_copy 6 8) greatest (dirty_copy 6 greatest)
    ∷ loading store_asked_elsewhere (busy (owned_line 1 NoRecall)) 15 (dirty_copy 11 13) 15 (dirty_copy 11 15)
    ∷ loading answered_elsewhere (owned_line 1 Flush) 15 (dirty_copy 11 11) 15 (dirty_copy 11 15)
    ∷ loading answered_elsewhere (busy (owned_line 1 NoRecall)) 12 (dirty_copy 11 13) 12 (dirty_copy 11 13)
    ∷ loading asked_elsewhere (owned_line 1 Flush) 7 (dirty_copy 6 greatest) 7 (dirty_copy 6 greatest)
    -- "owned, not dirty: lts becomes max(lts, wts), commit there; rts becomes max(rts, lts)"
    ∷ loading Empty (owned_line 1 NoRecall) 2 (clean_copy 3 7) 3 (clean_copy 3 7)
    ∷ loading answered_elsewhere (busy (owned_line 1 NoRecall)) 2 (clean_copy 8 7) 8 (clean_copy 8 8)
    ∷ loading asked_elsewhere (owned_line 1 Flush) greatest (clean_copy 3 7) greatest (clean_copy 3 greatest)
    -- "shared, lts ≤ rts: lts becomes max(lts, wts), commit there"; this line asked for to store to it, or answered
    ∷ loading Empty (shared_line 4 9) 7 (shared_copy 4 9) 7 (shared_copy 4 9)
    ∷ loading (asked WantStore 3 (Version (stamp 4))) (busy (owned_line 0 NoRecall)) 9 (shared_copy 4 9) 9 (shared_copy 4 9)
    ∷ loading (answered GrantOwn 4 20) (owned_line 1 Flush) 3 (shared_copy 4 9) 4 (shared_copy 4 9)
    ∷ []

-- a store that commits: the slot and the manager's line, which stay; lts, sts and the copy before it, and its ts
abbrev pub storing : Slot → ManagerLine → ℕ → ℕ → Copy → ℕ → Row
storing s m lts sts x ts =
    row 10 (pieces (core lts sts s) x m) (Store AsBytes 1 2) (commit 1 (stamp ts) (store 2 given)) (pieces (core lts ts s) (dirty_copy ts ts) m)
    (places given manager_bytes writeback_bytes answer_bytes)

abbrev pub store_rows : List Row
store_rows =
    -- "owned: ts = max(lts, sts, rts + 1); sts, wts and rts become ts, bytes replaced, dirty; commit at ts"
    storing Empty (owned_line 1 NoRecall) 7 9 (clean_copy 11 13) 14
    ∷ storing asked_elsewhere (owned_line 1 Flush) 7 9 (clean_copy 6 6) 9
    ∷ storing answered_elsewhere (busy (owned_line 1 NoRecall)) 12 9 (clean_copy 6 8) 12
    ∷ storing (answered GrantRenew 4 15) (busy (owned_line 1 NoRecall)) 7 9 (clean_copy 6 20) 21
    -- "A store to a dirty line commits at max(lts, sts, rts)": at rts, which is the wts or later; at sts; at lts; at two of them
    ∷ storing Empty (owned_line 1 NoRecall) 7 9 (dirty_copy 11 11) 11
    ∷ storing Empty (busy (owned_line 1 NoRecall)) 7 9 (dirty_copy 6 8) 9
    ∷ storing Empty (owned_line 1 Flush) 12 9 (dirty_copy 6 8) 12
    ∷ storing Empty (owned_line 1 NoRecall) 12 9 (dirty_copy 6 12) 12
    -- whatever the slot holds
    ∷ storing asked_elsewhere (owned_line 1 Flush) 7 9 (dirty_copy 11 13) 13
    ∷ storing store_asked_elsewhere (busy (owned_line 1 NoRecall)) 7 9 (dirty_copy 6 13) 13
    ∷ storing answered_elsewhere (owned_line 1 NoRecall) 7 9 (dirty_copy 6 13) 13
    ∷ storing own_elsewhere (owned_line 1 Flush) 7 13 (dirty_copy 13 13) 13
    ∷ storing (asked WantLoad 7 NothingHeld) (owned_line 1 NoRecall) 7 9 (dirty_copy 6 20) 20
    ∷ storing (answered GrantRenew 4 15) (owned_line 1 Downgrade) 7 9 (dirty_copy 6 20) 20
    -- neither wts nor whose the line is at the manager is looked at
    ∷ storing Empty (owned_line 1 NoRecall) 7 8 (dirty_copy 20 8) 8
    ∷ storing Empty (owned_line 1 NoRecall) 7 8 (clean_copy 20 8) 9
    ∷ storing Empty (shared_line 4 9) 7 9 (dirty_copy 6 13) 13
    ∷ storing Empty (shared_line 4 9) 7 9 (clean_copy 6 13) 14
    ∷ storing Empty (busy (owned_line 0 NoRecall)) 7 9 (dirty_copy 6 13) 13
    -- up to the greatest timestamp: rts + 1 reaches it; lts is there; sts is; of a dirty copy rts
    ∷ storing Empty (owned_line 1 NoRecall) 7 9 (clean_copy 6 4294967294) greatest
    ∷ storing Empty (owned_line 1 NoRecall) greatest 9 (clean_copy 6 8) greatest
    ∷ storing Empty (owned_line 1 NoRecall) 7 greatest (clean_copy 6 8) greatest
    ∷ storing Empty (owned_line 1 NoRecall) greatest 9 (dirty_copy 6 8) greatest
    ∷ storing Empty (owned_line 1 NoRecall) 7 greatest (dirty_copy 6 8) greatest
    ∷ storing asked_elsewhere (owned_line 1 Flush) 7 9 (dirty_copy 6 4294967294) 4294967294
    -- "Number 27 no longer arises from a store to a dirty line"
    ∷ storing Empty (owned_line 1 NoRecall) 7 9 (dirty_copy 6 greatest) greatest
    ∷ storing Empty (owned_line 1 NoRecall) greatest 9 (dirty_copy 6 greatest) greatest
    ∷ storing asked_elsewhere (busy (owned_line 1 NoRecall)) greatest greatest (dirty_copy greatest greatest) greatest
    ∷ storing store_asked_elsewhere (owned_line 1 NoRecall) 7 greatest (dirty_copy greatest greatest) greatest
    ∷ storing answered_elsewhere (owned_line 1 Flush) 7 9 (dirty_copy 6 greatest) greatest
    ∷ []

-- a fence: the slot, the copy and the manager's line, which stay; lts and sts before it, and its ts
abbrev pub fencing_over : Copy → ManagerLine → Slot → ℕ → ℕ → ℕ → Row
fencing_over x m s lts sts ts = row 10 (pieces (core lts sts s) x m) (Fence 1) (commit 1 (stamp ts) fence) (pieces (core ts sts s) x m) unmoved

abbrev pub fencing : Slot → ℕ → ℕ → ℕ → Row
fencing = fencing_over (dirty_copy 6 8) (busy (owned_line 1 NoRecall))

abbrev pub fence_rows : List Row
fence_rows =
    -- "lts becomes max(lts, sts); commit there"
    fencing Empty 9 6 9
    ∷ fencing (asked WantLoad 1 NothingHeld) 3 6 6
    ∷ fencing answered_elsewhere 3 greatest greatest
    ∷ fencing asked_elsewhere greatest 6 greatest
    ∷ []

-- an advance: the slot, which stays; lts and sts before it, by how much, and lts after it
abbrev pub advancing : Slot → ℕ → ℕ → ℕ → ℕ → Row
advancing s lts sts by lts' =
    doing (pieces (core lts sts s) (dirty_copy 6 8) (busy (owned_line 1 NoRecall))) (Advance 1 by) advance
    (pieces (core lts' sts s) (dirty_copy 6 8) (busy (owned_line 1 NoRecall))) unmoved

abbrev pub advance_rows : List Row
advance_rows =
    -- "lts grows by that amount. No commit."
    advancing Empty 7 9 5 12
    ∷ advancing (asked WantLoad 1 NothingHeld) 7 40 1 8
    ∷ advancing answered_elsewhere 7 greatest 5 12
    -- up to the greatest timestamp
    ∷ advancing asked_elsewhere 7 9 4294967288 greatest
    ∷ []

-- ---- evict, drop and writeback

-- a call that gives the copy up, and its name; the slot, which stays; the copy and the manager's line before it; the line and the bytes after it
abbrev pub giving_up : Call → Name → Slot → Copy → ManagerLine → ManagerLine → Places → Row
giving_up call d s x m m' b = doing (pieces (core 7 9 s) x m) call d (pieces (core 7 9 s) NoCopy m') b

-- the copy's bytes as the writeback
abbrev pub written_back : Places
written_back = places copy_bytes manager_bytes copy_bytes answer_bytes

-- "shared: copy becomes none"
abbrev pub shared_goes : Call → Name → List Row
shared_goes call d =
    giving_up call d Empty (shared_copy 4 9) (shared_line 4 9) (shared_line 4 9) unmoved
    ∷ giving_up call d (asked WantStore 3 (Version (stamp 4))) (shared_copy 4 9) (busy (owned_line 0 NoRecall)) (busy (owned_line 0 NoRecall)) unmoved
    ∷ giving_up call d (answered GrantRenew 4 15) (shared_copy 4 9) (busy (shared_line 4 15)) (busy (shared_line 4 15)) unmoved
    ∷ []

-- "Owned: its wts, rts and bytes become the writeback, copy none."
abbrev pub owned_goes : Call → Name → List Row
owned_goes call d =
    giving_up call d Empty (clean_copy 3 7) (owned_line 1 NoRecall) (with_writeback 3 7 (owned_line 1 NoRecall)) written_back
    ∷ giving_up call d asked_elsewhere (dirty_copy 6 8) (owned_line 1 Flush) (with_writeback 6 8 (owned_line 1 Flush)) written_back
    ∷ giving_up call d Empty (dirty_copy 6 6) (owned_line 1 NoRecall) (with_writeback 6 6 (owned_line 1 NoRecall)) written_back
    ∷ giving_up call d answered_elsewhere (clean_copy 3 7) (busy (owned_line 1 NoRecall)) (with_writeback 3 7 (owned_line 1 Downgrade)) written_back
    ∷ []

-- "evict does whichever fits the copy"; "drop (shared copies) and writeback (owned copies)"
abbrev pub evict_rows : List Row
evict_rows =
    shared_goes (Evict 1 2) evict ++ owned_goes (Evict 1 2) evict ++ shared_goes (Drop 1 2) dropped ++ owned_goes (WriteBack 1 2) writeback

-- ---- serve

-- "line owned: answer recall; .. Slot stays.": the slot and the copy, which stay; the manager's line before it and after it
abbrev pub recalling_line : Slot → Copy → ManagerLine → ManagerLine → Row
recalling_line s x m m' = doing (pieces (core 7 9 s) x m) (Serve 1) recall (pieces (core 7 9 s) x m') unmoved

-- a line of core 0: what is asked for, the recall before it and after it
abbrev pub recalling : Want → Recall → Recall → Row
recalling a k k' =
    recalling_line (asked a greatest (Version (stamp 3))) (shared_copy 3 8) (with_writeback 5 6 (owned_line 0 k)) (with_writeback 5 6 (owned_line 0 k'))

-- a request for the shared line, by a core with this copy, which stays: the asked lts, what is asked for, the version held; the manager's line; its
-- answer, the slot, the line and the bytes after it
abbrev pub serving_over : Copy → ℕ → Want → Option Stamp → ManagerLine → Name → Slot → ManagerLine → Places → Row
serving_over x lts a h m d s m' b = doing (pieces (core 7 9 (asked a lts h)) x m) (Serve 1) d (pieces (core 7 9 s) x m') b

abbrev pub serving : ℕ → Want → Option Stamp → ManagerLine → Name → Slot → ManagerLine → Places → Row
serving = serving_over (shared_copy 3 8)

-- the manager's bytes as the answer
abbrev pub with_bytes : Places
with_bytes = places copy_bytes manager_bytes writeback_bytes manager_bytes

abbrev pub serve_rows : List Row
serve_rows =
    -- "a store sets flush, a load sets downgrade if no recall stands"
    recalling WantLoad NoRecall Downgrade
    ∷ recalling WantLoad Downgrade Downgrade
    ∷ recalling WantLoad Flush Flush
    ∷ recalling WantStore NoRecall Flush
    ∷ recalling WantStore Downgrade Flush
    ∷ recalling WantStore Flush Flush
    -- the owner's own request
    ∷ recalling_line (asked WantLoad 5 NothingHeld) NoCopy (owned_line 1 NoRecall) (owned_line 1 Downgrade)
    ∷ recalling_line (asked WantStore 5 NothingHeld) (dirty_copy 6 8) (owned_line 1 NoRecall) (owned_line 1 Flush)
    -- "shared, load: rts becomes max(rts, asked lts + lease). If the asked wts equals the manager's, the slot becomes renew, no bytes move"
    ∷ serving 5 WantLoad (Version (stamp 4)) (shared_line 4 9) renew (answered GrantRenew 4 15) (shared_line 4 15) unmoved
    ∷ serving 5 WantLoad (Version (stamp 0)) (shared_line 0 0) renew (answered GrantRenew 0 15) (shared_line 0 15) unmoved
    ∷ serving 5 WantLoad (Version (stamp 4)) (shared_line 4 40) renew (answered GrantRenew 4 40) (shared_line 4 40) unmoved
    -- "otherwise share, with bytes": nothing held, another version held
    ∷ serving 5 WantLoad NothingHeld (shared_line 4 9) share (answered GrantShare 4 15) (shared_line 4 15) with_bytes
    ∷ serving 5 WantLoad NothingHeld (shared_line 0 0) share (answered GrantShare 0 15) (shared_line 0 15) with_bytes
    ∷ serving 5 WantLoad (Version (stamp 3)) (shared_line 4 9) share (answered GrantShare 4 15) (shared_line 4 15) with_bytes
    ∷ serving 5 WantLoad (Version (stamp 3)) (shared_line 0 0) share (answered GrantShare 0 15) (shared_line 0 15) with_bytes
    ∷ serving 5 WantLoad (Version (stamp 0)) (shared_line 4 40) share (answered GrantShare 4 40) (shared_line 4 40) with_bytes
    -- "shared, store: manager line becomes owned by that core; slot becomes own, with bytes"
    ∷ serving 5 WantStore NothingHeld (shared_line 4 9) own (answered GrantOwn 4 9) (owned_line 1 NoRecall) with_bytes
    ∷ serving 5 WantStore (Version (stamp 4)) (shared_line 4 9) own (answered GrantOwn 4 9) (owned_line 1 NoRecall) with_bytes
    ∷ serving greatest WantStore NothingHeld (shared_line 0 greatest) own (answered GrantOwn 0 greatest) (owned_line 1 NoRecall) with_bytes
    -- the recall and the writeback stay: take alone ends them
    ∷ serving 5 WantLoad (Version (stamp 4)) (busy (shared_line 4 9)) renew (answered GrantRenew 4 15) (busy (shared_line 4 15)) unmoved
    ∷ serving 5 WantLoad NothingHeld (busy (shared_line 4 9)) share (answered GrantShare 4 15) (busy (shared_line 4 15)) with_bytes
    ∷ serving 5 WantStore NothingHeld (busy (shared_line 4 9)) own (answered GrantOwn 4 9) (busy (owned_line 1 NoRecall)) with_bytes
    -- the copy held by now is not looked at: one evicted since it asked; one of the manager's version; an owned one
    ∷ serving_over NoCopy 5 WantLoad (Version (stamp 4)) (shared_line 4 9) renew (answered GrantRenew 4 15) (shared_line 4 15) unmoved
    ∷ serving_over (shared_copy 4 9) 5 WantLoad NothingHeld (shared_line 4 9) share (answered GrantShare 4 15) (shared_line 4 15) with_bytes
    ∷ serving_over (dirty_copy 6 8) 5 WantLoad NothingHeld (shared_line 4 9) share (answered GrantShare 4 15) (shared_line 4 15) with_bytes
    ∷ serving_over NoCopy 5 WantStore NothingHeld (shared_line 4 9) own (answered GrantOwn 4 9) (owned_line 1 NoRecall) with_bytes
    -- up to the greatest timestamp
    ∷ serving 4294967285 WantLoad (Version (stamp 4)) (shared_line 4 9) renew (answered GrantRenew 4 greatest) (shared_line 4 greatest) unmoved
    ∷ []

-- ---- receive

-- the manager's line, which stays; the slot and the copy before it; its answer, the copy and the bytes after it. "Slot becomes empty."
abbrev pub receiving_of : ManagerLine → Slot → Copy → Name → Copy → Places → Row
receiving_of m s x d y b = doing (pieces (core 7 9 s) x m) (Receive 1) d (pieces (core 7 9 Empty) y m) b

-- of a shared line; of one's own
abbrev pub receiving : Slot → Copy → Name → Copy → Places → Row
receiving = receiving_of (busy (shared_line 4 30))

abbrev pub receiving_own : Slot → Copy → Name → Copy → Places → Row
receiving_own = receiving_of (busy (owned_line 1 NoRecall))

-- the answer's bytes as the copy
abbrev pub received : Places
received = places answer_bytes manager_bytes writeback_bytes answer_bytes

abbrev pub receive_rows : List Row
receive_rows =
    -- "share or own: copy becomes shared or owned with the slot's wts, rts and bytes, not dirty; answer share or own"
    receiving (answered GrantShare 4 15) NoCopy share (shared_copy 4 15) received
    ∷ receiving (answered GrantShare 4 15) (shared_copy 2 3) share (shared_copy 4 15) received
    ∷ receiving (answered GrantShare 4 15) (dirty_copy 6 8) share (shared_copy 4 15) received
    ∷ receiving_own (answered GrantOwn 4 15) NoCopy own (clean_copy 4 15) received
    ∷ receiving_own (answered GrantOwn 4 15) (shared_copy 4 9) own (clean_copy 4 15) received
    ∷ receiving_own (answered GrantOwn 4 greatest) (dirty_copy 6 8) own (clean_copy 4 greatest) received
    -- "Renew: a shared copy takes the slot's rts, answer renew"
    ∷ receiving (answered GrantRenew 4 15) (shared_copy 4 9) renew (shared_copy 4 15) unmoved
    ∷ receiving (answered GrantRenew 4 15) (shared_copy 6 20) renew (shared_copy 6 15) unmoved
    -- "no copy, or an owned one: no copy changes, answer drop"
    ∷ receiving (answered GrantRenew 4 15) NoCopy dropped NoCopy unmoved
    ∷ receiving_own (answered GrantRenew 4 15) (clean_copy 4 9) dropped (clean_copy 4 9) unmoved
    ∷ receiving_own (answered GrantRenew 4 15) (dirty_copy 6 8) dropped (dirty_copy 6 8) unmoved
    ∷ []

-- ---- yield and take

-- "the owner's wts, rts and bytes become the writeback": the rts of the owner's copy, whose wts is 6; its slot, which stays; the manager's line and
-- the owner's copy before it, and the copy after it
abbrev pub yielding_until : ℕ → Slot → ManagerLine → Copy → Copy → Row
yielding_until rts s m x y = doing (pieces (core 7 9 s) x m) (Yield 2) yield (pieces (core 7 9 s) y (with_writeback 6 rts m)) written_back

abbrev pub yielding : Slot → ManagerLine → Copy → Copy → Row
yielding = yielding_until 8

-- "manager takes the writeback, becomes shared; recall none, writeback none": the manager's line before it
abbrev pub taking : ManagerLine → Row
taking m =
    doing (pieces (core 7 9 (answered GrantRenew 4 15)) (shared_copy 3 8) (with_writeback 6 8 m)) (Take 2) taken
    (pieces (core 7 9 (answered GrantRenew 4 15)) (shared_copy 3 8) (shared_line 6 8)) (places copy_bytes writeback_bytes writeback_bytes answer_bytes)

abbrev pub writeback_rows : List Row
writeback_rows =
    -- "Downgrade: its copy becomes shared, not dirty. Flush: none."
    yielding Empty (owned_line 1 Downgrade) (dirty_copy 6 8) (shared_copy 6 8)
    ∷ yielding_until 6 Empty (owned_line 1 Downgrade) (dirty_copy 6 6) (shared_copy 6 6)
    ∷ yielding asked_elsewhere (owned_line 1 Downgrade) (clean_copy 6 8) (shared_copy 6 8)
    ∷ yielding answered_elsewhere (owned_line 1 Flush) (dirty_copy 6 8) NoCopy
    ∷ yielding Empty (owned_line 1 Flush) (clean_copy 6 8) NoCopy
    ∷ yielding (answered GrantRenew 4 15) (busy (owned_line 1 NoRecall)) (dirty_copy 6 8) (shared_copy 6 8)
    ∷ taking (owned_line 0 NoRecall)
    ∷ taking (owned_line 1 Downgrade)
    ∷ taking (owned_line 1 Flush)
    ∷ taking (shared_line 9 30)
    ∷ taking (with_recall Flush (shared_line 4 5))
    ∷ []

-- ---- another core and another line

-- core 2, which asked to store to line 1, is served: line 1 is its own from then on, and the line's bytes are its answer
abbrev pub other_before : State
other_before = state_of 10 (pieces (core 7 9 Empty) NoCopy (shared_line 4 9))

abbrev pub other_after : State
other_after = with_core 2 (core 4 2 (Answered GrantOwn 1 (stamp 8) (stamp 7))) (with_line 1 (owned_line 2 NoRecall) other_before)

abbrev pub other_got : Outcome
other_got = step (machine other_before (private unmoved) (shared unmoved)) (Serve 2) []

abbrev pub other_told : Outcome
other_told = record { reply = done own; machine = machine other_after (private unmoved) (counting 50 100 ++ counting 5 105) }

-- ---- the theorem

-- every row of every table; where the clocks stay, with either of them the later one
abbrev pub step_rows : List Row
step_rows =
    also_at 12 9 ask_rows ++ load_rows ++ store_rows ++ fence_rows ++ advance_rows ++ also_at 9 7 (evict_rows ++ serve_rows ++ receive_rows ++ writeback_rows)

pub record StepsTheorem : Type 0 where
  pub rows : AllHold step_rows
  pub other : other_got ≡ other_told
  -- the call that evict is: drop of a shared copy, writeback of an owned one; drop where there is none
  pub shared : fitting (shared_copy 4 9) 1 2 ≡ Drop 1 2
  pub clean : fitting (clean_copy 3 7) 1 2 ≡ WriteBack 1 2
  pub dirty : fitting (dirty_copy 6 8) 1 2 ≡ WriteBack 1 2
  pub none : fitting NoCopy 1 2 ≡ Drop 1 2
