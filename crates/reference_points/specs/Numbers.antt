-- The refusals 1 to 7 and 20 to 27 of 01, and 30 of 02: each alone, and each two that can apply to one call at once, where the smaller comes first.
-- 31, and the 26 of victim, are in Capacity.
--
-- Two numbers of which one speaks of another call (21 and 22, say) never meet. Nor do 6 and 27 (lts + 0 passes nothing), 20 and 27 (a store asks
-- only where its copy is not owned), 21 and 27 (only an asked slot has an asked lts). 7 is an opening's alone.
use Rattle.std.specs.Prelude.{ℕ, None as NothingHeld, Some as Version, List, [], ◌∷◌, ◌++◌, map, drop, replicate}
use Rattle.protocol.specs.{Stamps.stamp, Buffers.Bytes, Machine.{Machine, machine, fresh_machine}}
use Rattle.protocol.specs.declared.Pieces.{Pieces}
use Rattle.protocol.specs.declared.Call.{Call, TheVariants.{Load, Store, Fence, Evict, Drop, Writeback as WriteBack, Advance, Serve, Receive, Yield}}
use Rattle.protocol.specs.declared.Given.TheVariants.{Bytes as AsBytes}
use Rattle.protocol.specs.declared.{Call.TheVariants.{Take, Victim}, Opening.Opening}
use Rattle.protocol.specs.declared.{Name.TheVariants.Open, Copy.TheVariants.None as NoCopy, State.State}
use Rattle.protocol.specs.declared.Want.TheVariants.{Load as WantLoad, Store as WantStore}
use Rattle.protocol.specs.declared.{Grant.TheVariants.{Share as GrantShare, Own as GrantOwn}, Slot.TheVariants.{Empty, Asked, Answered}}
use Rattle.protocol.specs.{declared.Recall.TheVariants.{None as NoRecall, Downgrade, Flush}, Step.{Reply, refused, done, Outcome, step, open_reply, opened}}
use Rattle.reference_points.specs.Rows.{core, asked, answered, asked_elsewhere, answered_elsewhere, shared_copy, clean_copy, dirty_copy, pieces, shared_line}
use Rattle.reference_points.specs.Rows.{owned_line, with_writeback, busy, unmoved, counting, given, private, shared, greatest, cell, machine_of, with_core}
use Rattle.reference_points.specs.Rows.{with_line, Agree}

-- the machine of the rows, with a lease of 10
abbrev pub usual : Pieces → Machine
usual p = machine_of 10 p unmoved

-- a call on a machine, what is given to it, and its number
pub data Refusal : Type 0 where
  refusal : (number : ℕ) (on : Machine) (call : Call) (given : Bytes) → Refusal

abbrev pub called : Refusal → Outcome
called (refusal n m call bs) = step m call bs

-- "A refused call returns its number, the state it got, both buffers byte for byte."
abbrev pub turned_away : Refusal → Outcome
turned_away (refusal n m call bs) = record { reply = refused n; machine = m }

-- ---- 3 to 6, 20 to 27 and 30, by what a call is given and the pieces that it finds, with nothing else amiss

abbrev pub cause : ℕ → Pieces → Call → Refusal
cause n p call = refusal n (usual p) call given

-- a store of too few or too many bytes
abbrev pub store_of : ℕ → Pieces → ℕ → ℕ → Bytes → Refusal
store_of n p c l bs = refusal n (usual p) (Store AsBytes c l) bs

-- nothing asked and no copy; a request under way, asked or answered, and no copy
abbrev pub idle : Pieces
idle = pieces (core 7 9 Empty) NoCopy (shared_line 4 9)

abbrev pub waiting : Pieces
waiting = pieces (core 7 9 (asked WantLoad 7 NothingHeld)) NoCopy (shared_line 4 9)

abbrev pub granted : Pieces
granted = pieces (core 7 9 (answered GrantOwn 4 9)) NoCopy (shared_line 4 9)

-- an owned copy, not dirty, at the greatest timestamp
abbrev pub full : Pieces
full = pieces (core 7 9 Empty) (clean_copy 6 greatest) (owned_line 1 NoRecall)

abbrev pub causes : List Refusal
causes =
    -- 3 core ≥ cores. Cores 3 and 4 would be refused for their slots, copies and clocks too: with 20, 20, 26, 26, 26, 27, 21, 27, 22,
    -- 26
    cause 3 idle (Load 3 0)
    ∷ cause 3 idle (Store AsBytes 3 0)
    ∷ cause 3 idle (Fence 3)
    ∷ cause 3 idle (Evict 3 0)
    ∷ cause 3 idle (Drop 3 0)
    ∷ cause 3 idle (WriteBack 3 0)
    ∷ cause 3 idle (Advance 3 5)
    ∷ cause 3 idle (Serve 3)
    ∷ cause 3 idle (Serve 4)
    ∷ cause 3 idle (Receive 4)
    ∷ cause 3 idle (Victim 4)
    -- 3 and 27 of a store; 3 and 30; 3 and 4; 3 and 5; 3 and 6
    ∷ cause 3 idle (Store AsBytes 3 2)
    ∷ cause 3 idle (Drop 3 2)
    ∷ cause 3 idle (Load 3 4)
    ∷ cause 3 idle (Store AsBytes 3 4)
    ∷ cause 3 idle (Evict 3 4)
    ∷ cause 3 idle (Drop 3 4)
    ∷ cause 3 idle (WriteBack 3 4)
    ∷ store_of 3 idle 3 2 (counting 4 200)
    ∷ cause 3 idle (Advance 3 0)
    -- 4 line ≥ lines. Lines 4 and 5 would be refused for what they hold too: with 20, 20, 26, 26, 26, 23, 24, 25
    ∷ cause 4 waiting (Load 1 5)
    ∷ cause 4 waiting (Store AsBytes 1 5)
    ∷ cause 4 idle (Evict 1 5)
    ∷ cause 4 idle (Drop 1 5)
    ∷ cause 4 idle (WriteBack 1 5)
    ∷ cause 4 idle (Yield 4)
    ∷ cause 4 idle (Yield 5)
    ∷ cause 4 idle (Take 4)
    -- 4 and 27 of a store; 4 and 30; 4 and 5
    ∷ cause 4 idle (Store AsBytes 1 4)
    ∷ cause 4 idle (Drop 1 4)
    ∷ store_of 4 idle 1 4 (counting 4 200)
    -- 5 store bytes not width in count; 5 and 20; 5 and 27
    ∷ store_of 5 idle 1 2 []
    ∷ store_of 5 idle 1 2 (counting 4 200)
    ∷ store_of 5 idle 1 2 (counting 6 200)
    ∷ store_of 5 waiting 1 2 (counting 4 200)
    ∷ store_of 5 full 1 2 (counting 6 200)
    -- 6 advance by 0
    ∷ cause 6 idle (Advance 1 0)
    ∷ cause 6 (pieces (core greatest 9 Empty) NoCopy (shared_line 4 9)) (Advance 1 0)
    -- 20 load or store must ask, slot not empty
    ∷ cause 20 waiting (Load 1 2)
    ∷ cause 20 granted (Load 1 2)
    ∷ cause 20 (pieces (core 10 9 (asked WantStore 7 NothingHeld)) (shared_copy 4 9) (shared_line 4 9)) (Load 1 2)
    ∷ cause 20 (pieces (core 7 9 asked_elsewhere) NoCopy (busy (owned_line 1 NoRecall))) (Load 1 2)
    ∷ cause 20 waiting (Store AsBytes 1 2)
    ∷ cause 20 granted (Store AsBytes 1 2)
    ∷ cause 20 (pieces (core 7 9 (asked WantLoad 7 NothingHeld)) (shared_copy 4 9) (shared_line 4 9)) (Store AsBytes 1 2)
    ∷ cause 20 (pieces (core 7 9 answered_elsewhere) (shared_copy 4 greatest) (busy (owned_line 1 NoRecall))) (Store AsBytes 1 2)
    -- 21 serve, slot not asked
    ∷ cause 21 idle (Serve 1)
    ∷ cause 21 granted (Serve 1)
    -- 22 receive, slot not answered
    ∷ cause 22 idle (Receive 1)
    ∷ cause 22 waiting (Receive 1)
    -- 23 yield, line not owned or no recall; 23 and 24
    ∷ cause 23 (pieces (core 7 9 Empty) (dirty_copy 6 8) (owned_line 1 NoRecall)) (Yield 2)
    ∷ cause 23 (pieces (core 7 9 Empty) NoCopy (owned_line 1 NoRecall)) (Yield 2)
    ∷ cause 23 (pieces (core 7 9 Empty) NoCopy (with_writeback 5 6 (owned_line 1 NoRecall))) (Yield 2)
    ∷ cause 23 (pieces (core 7 9 Empty) (dirty_copy 6 8) (busy (shared_line 4 9))) (Yield 2)
    ∷ cause 23 idle (Yield 2)
    -- 24 yield, owner's copy not owned
    ∷ cause 24 (pieces (core 7 9 Empty) NoCopy (owned_line 1 Downgrade)) (Yield 2)
    ∷ cause 24 (pieces (core 7 9 Empty) (shared_copy 4 9) (owned_line 1 Flush)) (Yield 2)
    ∷ cause 24 (pieces (core 7 9 Empty) (dirty_copy 6 8) (owned_line 0 Flush)) (Yield 2)
    -- 25 take, no writeback
    ∷ cause 25 idle (Take 2)
    ∷ cause 25 (pieces (core 7 9 Empty) (dirty_copy 6 8) (owned_line 1 Flush)) (Take 2)
    -- 26 evict, drop or writeback, no copy; of the last two, 26 and 30
    ∷ cause 26 idle (Evict 1 2)
    ∷ cause 26 (pieces (core 7 9 (answered GrantOwn 4 9)) NoCopy (busy (owned_line 1 NoRecall))) (Evict 1 2)
    ∷ cause 26 idle (Drop 1 2)
    ∷ cause 26 granted (Drop 1 2)
    ∷ cause 26 idle (WriteBack 1 2)
    ∷ cause 26 (pieces (core 7 9 Empty) NoCopy (busy (owned_line 1 NoRecall))) (WriteBack 1 2)
    -- 27 rts + 1 (store to an owned line not yet dirty), lts + by (advance) or asked lts + lease (serve of a load on a shared line) passes 4,294,967,295
    ∷ cause 27 full (Store AsBytes 1 2)
    ∷ cause 27 (pieces (core greatest greatest asked_elsewhere) (clean_copy greatest greatest) (busy (owned_line 1 NoRecall))) (Store AsBytes 1 2)
    ∷ cause 27 (pieces (core 7 9 Empty) NoCopy (shared_line 4 9)) (Advance 1 4294967289)
    ∷ cause 27 (pieces (core 1 9 asked_elsewhere) (shared_copy 4 9) (shared_line 4 9)) (Advance 1 greatest)
    ∷ cause 27 (pieces (core 7 9 (asked WantLoad 4294967286 NothingHeld)) NoCopy (shared_line 4 greatest)) (Serve 1)
    ∷ cause 27 (pieces (core 7 9 (asked WantLoad greatest (Version (stamp 4)))) (shared_copy 4 9) (busy (shared_line 4 9))) (Serve 1)
    -- "30, the copy isn't of the state that the step names"
    ∷ cause 30 (pieces (core 7 9 Empty) (clean_copy 3 7) (owned_line 1 NoRecall)) (Drop 1 2)
    ∷ cause 30 (pieces (core 7 9 asked_elsewhere) (dirty_copy 6 8) (busy (owned_line 1 NoRecall))) (Drop 1 2)
    ∷ cause 30 (pieces (core 7 9 Empty) (shared_copy 4 9) (shared_line 4 9)) (WriteBack 1 2)
    ∷ cause 30 (pieces (core 7 9 (answered GrantOwn 4 9)) (shared_copy 4 9) (busy (owned_line 1 NoRecall))) (WriteBack 1 2)
    ∷ []

-- with 2 as well: the private buffer is a byte short
abbrev pub shortened : Machine → Machine
shortened m = machine m.state (drop 1 m.private) m.shared

-- with 1 as well: the last line has an owner ≥ cores
abbrev pub misowned : Machine → Machine
misowned m = machine (with_line 3 (owned_line 3 NoRecall) m.state) m.private m.shared

-- the same call with a smaller number on a machine that was changed
abbrev pub sooner : ℕ → (Machine → Machine) → Refusal → Refusal
sooner n change (refusal k m call bs) = refusal n (change m) call bs

-- ---- 1 and 2

-- a fence of core 0, which nothing but 1 and 2 refuses here
abbrev pub fence_on : ℕ → Machine → Refusal
fence_on n m = refusal n m (Fence 0) []

-- on the machine of the rows with another state, or with other buffers
abbrev pub unfit : State → Refusal
unfit s = fence_on 1 (machine s (private unmoved) (shared unmoved))

abbrev pub mislaid : Bytes → Bytes → Refusal
mislaid p q = fence_on 2 (machine (usual idle).state p q)

-- openings with one value outside the limits
abbrev pub opening : ℕ → ℕ → ℕ → ℕ → ℕ → Opening
opening cores lines width lease cap = record { cores = cores; lines = lines; width = width; lease = lease; cap = cap }

abbrev pub outside : List Opening
outside =
    opening 0 1 1 1 1 ∷ opening 17 1 1 1 1 ∷ opening 1 0 1 1 0 ∷ opening 1 0 1 1 1 ∷ opening 1 65 1 1 64 ∷ opening 1 1 0 1 1 ∷ opening 1 1 65 1 1
    ∷ opening 1 1 1 0 1 ∷ opening 1 1 1 1001 1 ∷ opening 1 1 1 1 0 ∷ opening 2 3 4 5 0 ∷ opening 1 1 1 1 2 ∷ opening 2 3 4 5 4 ∷ opening 16 64 64 1000 65 ∷ []

abbrev pub machine_rows : List Refusal
machine_rows =
    -- 1 "state .. with an owner ≥ cores, or a slot's line ≥ lines"
    fence_on 1 (misowned (usual idle))
    ∷ unfit (with_line 0 (owned_line 3 NoRecall) (usual idle).state)
    ∷ unfit (with_core 2 (core 7 9 (Asked WantLoad 4 (stamp 7) NothingHeld)) (usual idle).state)
    ∷ unfit (with_core 0 (core 7 9 (Answered GrantShare 4 (stamp 4) (stamp 9))) (usual idle).state)
    -- 2 "a buffer not of its exact length"
    ∷ mislaid (drop 1 (private unmoved)) (shared unmoved)
    ∷ mislaid (9 ∷ private unmoved) (shared unmoved)
    ∷ mislaid (private unmoved) (drop 1 (shared unmoved))
    ∷ mislaid (private unmoved) (9 ∷ shared unmoved)
    ∷ mislaid (shared unmoved) (private unmoved)
    -- 1 and 2
    ∷ sooner 1 misowned (mislaid (drop 1 (private unmoved)) (shared unmoved))
    ∷ sooner 1 misowned (mislaid (private unmoved) (9 ∷ shared unmoved))
    -- 1 "state whose sizes or lease lie outside the limits"; 02, Four: "A capacity outside that is refusal 7, in a state 1"
    ∷ map (λ o. fence_on 1 (fresh_machine o)) outside

-- ---- the theorems

-- each number alone, and each two together
abbrev pub refusals : List Refusal
refusals = machine_rows ++ causes ++ map (sooner 2 shortened) causes ++ map (sooner 1 misowned) causes

abbrev pub NumbersTheorem : Type 0
NumbersTheorem = Agree called turned_away refusals

-- an opening's answer and state
abbrev pub opens : Opening → Reply × State
opens o = (open_reply o, opened o)

-- "Fresh, for given sizes and lease: every timestamp 0, slots empty, no copies, manager lines shared, no recall, no writeback"
abbrev pub fresh : Opening → State
fresh o = record { opening = o; core = replicate 16 (core 0 0 Empty); cell = replicate 1024 (cell NoCopy); line = replicate 64 (shared_line 0 0) }

-- openings at the limits, and one between them
abbrev pub inside : List Opening
inside = opening 1 1 1 1 1 ∷ opening 16 64 64 1000 64 ∷ opening 16 64 64 1000 1 ∷ opening 2 3 4 5 2 ∷ []

abbrev pub accepted : Opening → Reply × State
accepted o = (done Open, fresh o)

-- "a refused opening, which gets none, the fresh state of 1 core, 1 line, width 1, lease 1"; 02, Four: its capacity, 1 to lines, is 1
abbrev pub refused_with_seven : Opening → Reply × State
refused_with_seven o = (refused 7, fresh (opening 1 1 1 1 1))

-- which openings are accepted, and which are refused; the answer and the state of each
pub record OpeningsTheorem : Type 0 where
  pub inside : Agree opens accepted inside
  pub outside : Agree opens refused_with_seven outside
