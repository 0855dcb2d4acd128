-- Small logs of commits that obey the memory model of Order (crates/protocol/specs/Order.antt), and small logs that do not: one for each clause of it.
--
-- The values are numbers; where nothing is stored a line reads 0. A commit is `at` its place, core and timestamp, with what it did.
use Rattle.std.specs.Prelude.{ℕ, List, [], ◌∷◌}
use Rattle.protocol.specs.{Step.{Op, load, store, fence}, Run.Commit, Order.TSO}
use Rattle.reference_points.specs.{Rows.Each, Commits.a_commit as at}

abbrev pub Log : Type 0
Log = List (Commit ℕ)

-- two commits of core 0, made one after the other, and the second sorted first
abbrev pub swapped : Op ℕ → Op ℕ → Log
swapped a b = at 1 0 5 a ∷ at 2 0 3 b ∷ []

-- ---- logs that do not obey

abbrev pub disobeying : List Log
disobeying =
    -- order: "of two commits of one core, the one made earlier is first, unless it is a store and the other a load"
    swapped (store 0 1) (store 0 2)
    ∷ swapped (store 0 1) (store 1 2)
    ∷ swapped (store 0 1) fence
    ∷ swapped (load 0 0) (load 0 0)
    ∷ swapped (load 0 0) (load 1 0)
    ∷ swapped (load 0 0) (store 0 1)
    ∷ swapped (load 0 1) (store 0 1)
    ∷ swapped (load 0 0) (store 1 1)
    ∷ swapped (load 0 0) fence
    ∷ swapped fence (load 0 0)
    ∷ swapped fence (store 0 1)
    ∷ swapped fence fence
    -- reads: a stale read, of the store before the last; a read of a store that does not precede it; of another line's; of a value never stored
    ∷ (at 1 0 1 (store 0 1) ∷ at 2 0 2 (store 0 2) ∷ at 3 1 3 (load 0 1) ∷ [])
    ∷ (at 1 0 5 (store 0 1) ∷ at 2 1 3 (load 0 1) ∷ [])
    ∷ (at 1 0 1 (store 1 1) ∷ at 2 1 2 (load 0 1) ∷ [])
    ∷ (at 1 0 1 (store 0 1) ∷ at 2 1 2 (load 0 7) ∷ [])
    -- a read that misses its own core's store, which is sorted after it; and one that takes an earlier store for it
    ∷ (at 1 0 5 (store 0 1) ∷ at 2 0 3 (load 0 0) ∷ [])
    ∷ (at 1 1 1 (store 0 1) ∷ at 2 0 5 (store 0 2) ∷ at 3 0 3 (load 0 1) ∷ [])
    -- zeros where there is a store; another value than zeros where there is none
    ∷ (at 1 0 1 (store 0 1) ∷ at 2 1 2 (load 0 0) ∷ [])
    ∷ (at 1 0 1 (load 0 1) ∷ [])
    -- ties by place: at one timestamp the store made earlier precedes, whatever the cores are, and the store made later does not
    ∷ (at 1 1 3 (store 0 1) ∷ at 2 0 3 (load 0 0) ∷ [])
    ∷ (at 1 0 3 (load 0 1) ∷ at 2 1 3 (store 0 1) ∷ [])
    ∷ (at 1 1 3 (store 0 1) ∷ at 2 0 3 (store 0 2) ∷ at 3 2 4 (load 0 1) ∷ [])
    -- of one core's stores to a line at one timestamp another than the last made is read, by another core and by itself
    ∷ (at 1 0 3 (store 0 1) ∷ at 2 0 3 (store 0 2) ∷ at 3 1 3 (load 0 1) ∷ [])
    ∷ (at 1 0 3 (store 0 1) ∷ at 2 0 3 (store 0 2) ∷ at 3 0 1 (load 0 1) ∷ [])
    -- message passing: the flag is seen and the message is not
    ∷ (at 1 0 1 (store 0 1) ∷ at 2 0 2 (store 1 1) ∷ at 3 1 3 (load 1 1) ∷ at 4 1 4 (load 0 0) ∷ [])
    ∷ []

-- ---- logs that obey

abbrev pub obeying : List Log
obeying =
    []
    -- store buffering: both loads read 0, each past its own core's store
    ∷ (at 1 0 5 (store 0 1) ∷ at 2 1 5 (store 1 1) ∷ at 3 0 0 (load 1 0) ∷ at 4 1 0 (load 0 0) ∷ [])
    -- a read of its own core's store, which is sorted after it
    ∷ (at 1 0 5 (store 0 1) ∷ at 2 0 3 (load 0 1) ∷ [])
    ∷ (at 1 1 1 (store 0 1) ∷ at 2 0 5 (store 0 2) ∷ at 3 0 3 (load 0 2) ∷ [])
    -- message passing: the flag and the message; neither; the message alone
    ∷ (at 1 0 1 (store 0 1) ∷ at 2 0 2 (store 1 1) ∷ at 3 1 3 (load 1 1) ∷ at 4 1 4 (load 0 1) ∷ [])
    ∷ (at 1 1 0 (load 1 0) ∷ at 2 1 0 (load 0 0) ∷ at 3 0 1 (store 0 1) ∷ at 4 0 2 (store 1 1) ∷ [])
    ∷ (at 1 0 1 (store 0 1) ∷ at 2 1 1 (load 1 0) ∷ at 3 1 1 (load 0 1) ∷ at 4 0 2 (store 1 1) ∷ [])
    -- a store and then a load of one core may be sorted the other way round; commits of two cores may be
    ∷ swapped (store 0 1) (load 1 0)
    ∷ (at 1 0 5 (store 0 1) ∷ at 2 1 3 (store 0 2) ∷ at 3 1 4 fence ∷ at 4 1 4 (load 0 2) ∷ at 5 1 5 (load 0 1) ∷ [])
    -- ties by place: at one timestamp the store made earlier is read, and the last of two is the later made
    ∷ (at 1 1 3 (store 0 1) ∷ at 2 0 3 (load 0 1) ∷ [])
    ∷ (at 1 0 3 (load 0 0) ∷ at 2 1 3 (store 0 1) ∷ [])
    ∷ (at 1 1 3 (store 0 1) ∷ at 2 0 3 (store 0 2) ∷ at 3 2 4 (load 0 2) ∷ [])
    -- one core's stores to a line at one timestamp: the last made is read, or, between them, the one made so far
    ∷ (at 1 0 3 (store 0 1) ∷ at 2 0 3 (store 0 2) ∷ at 3 1 3 (load 0 2) ∷ at 4 0 1 (load 0 2) ∷ [])
    ∷ (at 1 0 3 (store 0 1) ∷ at 2 1 3 (load 0 1) ∷ at 3 0 3 (store 0 2) ∷ [])
    ∷ []

abbrev pub TsoTheorem : Type 0
TsoTheorem = Each (λ (h : Log). TSO 0 h) obeying

abbrev pub NotTsoTheorem : Type 0
NotTsoTheorem = Each (λ (h : Log). TSO 0 h → ⊥) disobeying
