-- Small logs that have the fences of 02's Seven and small logs that lack one, and small logs that are sequentially consistent and that are not: one
-- for each clause of Sequential (crates/protocol/specs/Sequential.antt). The logs are written as those of Logs.
use mathlib.Core.{List.{List, [], ◌∷◌, map}}
use Rattle.protocol.specs.{Step.{load, store, fence}, Order.{Loads, Stores, Obeys, commits_of}, Sequential.{StoreThenLoad, Fenced, Preceding, Sequential}}
use Rattle.reference_points.specs.{Rows.Each, Commits.{a_commit as at, small, exchanges, entry_of}, Logs.{Log, swapped}}

-- ---- the fences

-- "each core, between a committed store and its next committed load, commits a fence"
abbrev pub fenced : List Log
fenced =
    []
    -- a store, a fence, a load: of another line, and of the same
    ∷ (at 1 0 1 (store 0 1) ∷ at 2 0 1 fence ∷ at 3 0 1 (load 1 0) ∷ [])
    ∷ (at 1 0 1 (store 0 1) ∷ at 2 0 1 fence ∷ at 3 0 1 (load 0 1) ∷ [])
    -- one fence serves every store before it, and every load after it
    ∷ (at 1 0 1 (store 0 1) ∷ at 2 0 2 (store 1 1) ∷ at 3 0 2 fence ∷ at 4 0 2 (load 2 0) ∷ at 5 0 2 (load 0 1) ∷ [])
    -- a store that its core loads nothing after needs none; nor does a load before the store, nor a load by another core
    ∷ (at 1 0 0 (load 1 0) ∷ at 2 0 1 (store 0 1) ∷ at 3 0 2 (store 1 1) ∷ [])
    ∷ (at 1 0 5 (store 0 1) ∷ at 2 1 0 (load 0 0) ∷ [])
    ∷ (at 1 0 1 (store 0 1) ∷ at 2 1 0 (load 1 0) ∷ [])
    -- nor do loads, fences and stores one after the other
    ∷ (at 1 0 0 (load 0 0) ∷ at 2 0 0 (load 0 0) ∷ at 3 0 0 fence ∷ at 4 0 0 fence ∷ at 5 0 1 (store 0 1) ∷ at 6 0 1 (store 0 2) ∷ [])
    -- between in the list, whatever the timestamps are: these logs do not obey TSO, and have their fences
    ∷ (at 1 0 5 (store 0 1) ∷ at 2 0 1 fence ∷ at 3 0 3 (load 1 0) ∷ [])
    ∷ (at 3 0 5 (store 1 1) ∷ at 7 0 9 fence ∷ at 8 0 2 fence ∷ at 12 0 1 (load 1 1) ∷ [])
    -- three cores, with other cores' commits between a store, its fence and the next load, and places that others' refused calls took
    ∷ (at 2 2 0 fence ∷ at 4 0 5 (store 0 1) ∷ at 5 1 6 (store 0 2) ∷ at 6 2 6 (store 63 3) ∷ at 7 0 6 fence ∷ at 9 1 7 fence ∷ at 10 1 7 (load 63 3)
    ∷ at 11 1 8 (store 1 4) ∷ at 12 0 8 (load 1 4) ∷ at 14 1 9 fence ∷ at 15 1 9 (load 0 2) ∷ at 16 2 9 fence ∷ at 20 2 4294967295 (load 1 4) ∷ [])
    ∷ []

abbrev pub unfenced : List Log
unfenced =
    -- no fence: of another line, and of the same
    swapped (store 0 1) (load 1 0)
    ∷ (at 1 0 1 (store 0 1) ∷ at 2 0 1 (load 0 1) ∷ [])
    -- a fence before the store; after the load; of another core
    ∷ (at 1 0 0 fence ∷ at 2 0 1 (store 0 1) ∷ at 3 0 0 (load 1 0) ∷ [])
    ∷ (at 1 0 1 (store 0 1) ∷ at 2 0 0 (load 1 0) ∷ at 3 0 1 fence ∷ [])
    ∷ (at 1 0 1 (store 0 1) ∷ at 2 1 0 fence ∷ at 3 0 0 (load 1 0) ∷ [])
    -- a fence for the first of two stores alone; before a later load than the next
    ∷ (at 1 0 1 (store 0 1) ∷ at 2 0 1 fence ∷ at 3 0 2 (store 1 1) ∷ at 4 0 1 (load 2 0) ∷ [])
    ∷ (at 1 0 1 (store 0 1) ∷ at 2 0 0 (load 1 0) ∷ at 3 0 1 fence ∷ at 4 0 1 (load 1 0) ∷ [])
    -- a load that stands between them in the list, and a store, are no fence
    ∷ (at 1 0 1 (store 0 1) ∷ at 2 1 1 (load 0 1) ∷ at 3 0 1 (store 1 1) ∷ at 4 0 1 (load 2 0) ∷ [])
    -- one core has its fence, and the other has not
    ∷ (at 1 0 1 (store 0 1) ∷ at 2 1 1 (store 1 1) ∷ at 3 0 1 fence ∷ at 4 0 1 (load 1 1) ∷ at 5 1 0 (load 0 0) ∷ [])
    ∷ []

abbrev pub FencedTheorem : Type 0
FencedTheorem = Each (Fenced StoreThenLoad) fenced

abbrev pub UnfencedTheorem : Type 0
UnfencedTheorem = Each (λ (h : Log). Fenced StoreThenLoad h → ⊥) unfenced

-- ---- the order

abbrev pub sequential : List Log
sequential =
    []
    -- store buffering with fences: one load reads the other's store, or both do
    ∷ (at 1 0 1 (store 0 1) ∷ at 2 0 1 fence ∷ at 3 0 1 (load 1 0) ∷ at 4 1 2 (store 1 1) ∷ at 5 1 2 fence ∷ at 6 1 2 (load 0 1) ∷ [])
    ∷ (at 1 0 5 (store 0 1) ∷ at 2 1 5 (store 1 1) ∷ at 3 0 5 fence ∷ at 4 1 5 fence ∷ at 5 0 5 (load 1 1) ∷ at 6 1 5 (load 0 1) ∷ [])
    -- a core's load of its own store, which stands before it
    ∷ (at 1 0 5 (store 0 1) ∷ at 2 0 5 (load 0 1) ∷ [])
    -- commits of two cores may stand in another order than they were made in
    ∷ (at 1 0 5 (store 0 1) ∷ at 2 1 3 (store 0 2) ∷ at 3 1 4 (load 0 2) ∷ at 4 1 6 (load 0 1) ∷ [])
    -- ties by place
    ∷ (at 1 0 3 (load 0 0) ∷ at 2 1 3 (store 0 1) ∷ at 3 0 3 (load 0 1) ∷ [])
    ∷ []

abbrev pub not_sequential : List Log
not_sequential =
    -- order: "all commits of a core stand in the sorted order as made", a store and then a load too
    swapped (store 0 1) (load 1 0)
    ∷ swapped (store 0 1) (load 0 0)
    ∷ swapped (store 0 1) (load 0 1)
    ∷ swapped (store 0 1) (store 0 2)
    ∷ swapped (store 0 1) (store 1 2)
    ∷ swapped (store 0 1) fence
    ∷ swapped (load 0 0) (load 0 0)
    ∷ swapped (load 0 0) (load 1 0)
    ∷ swapped (load 0 1) (store 0 1)
    ∷ swapped (load 0 0) (store 1 1)
    ∷ swapped (load 0 0) fence
    ∷ swapped fence (load 0 0)
    ∷ swapped fence (store 0 1)
    ∷ swapped fence fence
    ∷ (at 1 0 1 fence ∷ at 2 1 5 (load 0 0) ∷ at 3 0 1 fence ∷ at 4 1 3 (load 0 0) ∷ [])
    -- store buffering without fences: both loads read 0
    ∷ (at 1 0 5 (store 0 1) ∷ at 2 1 5 (store 1 1) ∷ at 3 0 0 (load 1 0) ∷ at 4 1 0 (load 0 0) ∷ [])
    -- reads: a stale read, by another core, by the first of two loads, by the second, and after three stores at one timestamp
    ∷ (at 1 0 1 (store 0 1) ∷ at 2 0 2 (store 0 2) ∷ at 3 1 3 (load 0 1) ∷ [])
    ∷ (at 1 0 1 (store 1 1) ∷ at 2 1 2 (store 1 2) ∷ at 3 0 3 (load 1 1) ∷ at 4 0 3 (load 1 2) ∷ [])
    ∷ (at 1 0 1 (store 1 1) ∷ at 2 1 2 (store 1 2) ∷ at 3 0 3 (load 1 2) ∷ at 4 0 3 (load 1 1) ∷ [])
    ∷ (at 1 0 1 (store 0 1) ∷ at 2 1 1 (store 0 2) ∷ at 3 2 1 (store 0 3) ∷ at 4 2 1 fence ∷ at 5 1 1 fence ∷ at 6 0 1 fence ∷ at 7 0 1 (load 0 1) ∷ [])
    -- a read of a store that stands later; zeros where a store stands before, made earlier or later, by its core or another; another value than zeros
    -- where there is none; ties by place
    ∷ (at 1 0 5 (store 0 1) ∷ at 2 1 3 (load 0 1) ∷ [])
    ∷ (at 1 0 1 (store 1 1) ∷ at 2 0 2 (load 1 0) ∷ [])
    ∷ (at 1 0 2 (load 0 0) ∷ at 2 1 1 (store 0 1) ∷ [])
    ∷ (at 1 0 1 (load 0 1) ∷ [])
    ∷ (at 1 0 0 (load 1 1) ∷ [])
    ∷ (at 1 1 3 (store 0 1) ∷ at 2 0 3 (load 0 0) ∷ [])
    ∷ []

abbrev pub SequentialLogsTheorem : Type 0
SequentialLogsTheorem = Each (λ (h : Log). Sequential 0 h) sequential

abbrev pub NotSequentialTheorem : Type 0
NotSequentialTheorem = Each (λ (h : Log). Sequential 0 h → ⊥) not_sequential

-- ---- the second clause alone

-- "each load gives the bytes of the last store to its line before it in that order, zeros if none", wherever a core's own commits stand
abbrev pub ReadsPreceding : Log → Type 0
ReadsPreceding = Obeys (λ a b. ⊥) Preceding Loads Stores 0

-- a core's own store that stands after the load is not read, though it was made earlier: zeros, or the store that stands before the load
abbrev pub own_store_unread : List Log
own_store_unread = swapped (store 0 1) (load 0 0) ∷ (at 1 1 1 (store 0 1) ∷ at 2 0 5 (store 0 2) ∷ at 3 0 3 (load 0 1) ∷ []) ∷ []

abbrev pub own_store_read : List Log
own_store_read = swapped (store 0 1) (load 0 1) ∷ (at 1 1 1 (store 0 1) ∷ at 2 0 5 (store 0 2) ∷ at 3 0 3 (load 0 2) ∷ []) ∷ []

abbrev pub PrecedingTheorem : Type 0
PrecedingTheorem = Each ReadsPreceding own_store_unread × Each (λ (h : Log). ReadsPreceding h → ⊥) own_store_read

-- ---- a run

-- the engine's runs are not sequentially consistent without fences: in the first list of Commits core 1 stores, and its next load stands before
-- the store
abbrev pub FencesNeededTheorem : Type 0
FencesNeededTheorem = Sequential (0 ∷ 0 ∷ []) (commits_of small (map entry_of exchanges)) → ⊥
