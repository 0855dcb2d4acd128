-- The commits of five short lists of calls: which calls commit, and what a commit carries (01, demand 3).
use Rattle.std.specs.Prelude.{ℕ}
use mathlib.Core.{Path.◌≡◌, List.{List, [], ◌∷◌, map}}
use Rattle.protocol.specs.{Stamps.stamp, Buffers.Bytes, Machine.fresh_machine, Run.{Entry, Record, Commit, place, run}}
use Rattle.protocol.specs.{Step.{Op, load, store, fence, Reply, refused, done, commit}, Order.commits_of, declared.Opening.Opening}
use Rattle.protocol.specs.declared.Call.{Call, TheVariants.{Load, Store, Fence, Evict, Drop, Writeback as WriteBack, Advance, Serve, Receive}}
use Rattle.protocol.specs.declared.Call.TheVariants.{Yield, Take, Victim}
use Rattle.protocol.specs.declared.Given.TheVariants.{Bytes as AsBytes, Digits as AsDigits}
use Rattle.protocol.specs.declared.Name.TheVariants.{Ask as ask, Share as share, Own as own, Drop as dropped, Evict as evict, Writeback as writeback}
use Rattle.protocol.specs.declared.Name.TheVariants.{Take as taken, Advance as advance, Victim as victim, Recall as recall, Yield as yield}
use Rattle.spelling.specs.Text.{text}
use Rattle.reference_points.specs.Numbers.{opening}

-- 2 cores, 3 lines, a width of 2, a lease of 10 and room for a copy of each line
abbrev pub small : Opening
small = opening 2 3 2 10 3

-- the same with room for one copy
abbrev pub narrow : Opening
narrow = opening 2 3 2 10 1

-- a call, what is given to it, and what it answers
pub data Exchange : Type 0 where
  exchange : (call : Call) (given : Bytes) (reply : Reply) → Exchange

abbrev pub entry_of : Exchange → Entry
entry_of (exchange k bs r) = record { call = k; given = bs }

abbrev pub reply_of : Exchange → Reply
reply_of (exchange k bs r) = r

-- core 1 stores to line 2, loads from it and makes a fence; core 0 loads line 0. Only a store takes the bytes given to it
abbrev pub exchanges : List Exchange
exchanges =
    exchange (Store AsBytes 1 2) (7 ∷ 8 ∷ []) (done ask)
    ∷ exchange (Load 1 2) [] (refused 20)
    ∷ exchange (Serve 1) [] (done own)
    ∷ exchange (Receive 1) [] (done own)
    ∷ exchange (Store AsBytes 1 2) (5 ∷ 6 ∷ []) (commit 1 (stamp 1) (store 2 (5 ∷ 6 ∷ [])))
    ∷ exchange (Load 1 2) (9 ∷ 9 ∷ []) (commit 1 (stamp 0) (load 2 (5 ∷ 6 ∷ [])))
    ∷ exchange (Fence 1) (9 ∷ 9 ∷ []) (commit 1 (stamp 1) fence)
    ∷ exchange (Advance 0 3) [] (done advance)
    ∷ exchange (Load 0 0) [] (done ask)
    ∷ exchange (Serve 0) [] (done share)
    ∷ exchange (Receive 0) [] (done share)
    ∷ exchange (Load 0 0) [] (commit 0 (stamp 3) (load 0 (0 ∷ 0 ∷ [])))
    ∷ exchange (Evict 0 0) [] (done evict)
    ∷ exchange (Take 0) [] (refused 25)
    ∷ exchange (Fence 0) [] (commit 0 (stamp 3) fence)
    ∷ []

-- core 1 stores to line 2 and writes it back; core 0 loads it from the manager and drops it (02, Two)
abbrev pub given_up : List Exchange
given_up =
    exchange (Store AsBytes 1 2) (7 ∷ 8 ∷ []) (done ask)
    ∷ exchange (Serve 1) [] (done own)
    ∷ exchange (Receive 1) [] (done own)
    ∷ exchange (Store AsBytes 1 2) (5 ∷ 6 ∷ []) (commit 1 (stamp 1) (store 2 (5 ∷ 6 ∷ [])))
    ∷ exchange (Drop 1 2) [] (refused 30)
    ∷ exchange (WriteBack 1 2) [] (done writeback)
    ∷ exchange (WriteBack 1 2) [] (refused 26)
    ∷ exchange (Take 2) [] (done taken)
    ∷ exchange (Load 0 2) [] (done ask)
    ∷ exchange (Serve 0) [] (done share)
    ∷ exchange (Receive 0) [] (done share)
    ∷ exchange (WriteBack 0 2) [] (refused 30)
    ∷ exchange (Load 0 2) [] (commit 0 (stamp 1) (load 2 (5 ∷ 6 ∷ [])))
    ∷ exchange (Drop 0 2) [] (done dropped)
    ∷ []

-- core 1 stores to line 2, by bytes and by the digits that spell them; wrong digits are refused and store nothing (02, Three)
abbrev pub spelled : List Exchange
spelled =
    exchange (Store AsDigits 1 2) (text "zz") (refused 13)
    ∷ exchange (Store AsDigits 1 2) (text "0708") (done ask)
    ∷ exchange (Serve 1) [] (done own)
    ∷ exchange (Receive 1) [] (done own)
    ∷ exchange (Store AsDigits 1 2) (text "1fa0") (commit 1 (stamp 1) (store 2 (31 ∷ 160 ∷ [])))
    ∷ exchange (Store AsDigits 1 2) (text "1fa") (refused 13)
    ∷ exchange (Load 1 2) [] (commit 1 (stamp 0) (load 2 (31 ∷ 160 ∷ [])))
    ∷ exchange (Store AsBytes 1 2) (49 ∷ 50 ∷ []) (commit 1 (stamp 1) (store 2 (49 ∷ 50 ∷ [])))
    ∷ exchange (Store AsDigits 1 2) (text "12") (refused 5)
    ∷ exchange (Load 1 2) [] (commit 1 (stamp 0) (load 2 (49 ∷ 50 ∷ [])))
    ∷ []

-- core 1, which has room for one copy, stores to line 2, and loads line 0 once it has written line 2 back (02, Four)
abbrev pub filled : List Exchange
filled =
    exchange (Victim 1) [] (refused 26)
    ∷ exchange (Store AsBytes 1 2) (7 ∷ 8 ∷ []) (done ask)
    ∷ exchange (Serve 1) [] (done own)
    ∷ exchange (Receive 1) [] (done own)
    ∷ exchange (Store AsBytes 1 2) (5 ∷ 6 ∷ []) (commit 1 (stamp 1) (store 2 (5 ∷ 6 ∷ [])))
    ∷ exchange (Victim 1) (9 ∷ 9 ∷ []) (done (victim 2))
    ∷ exchange (Load 1 0) [] (done ask)
    ∷ exchange (Serve 1) [] (done share)
    ∷ exchange (Receive 1) [] (refused 31)
    ∷ exchange (Load 1 2) [] (commit 1 (stamp 0) (load 2 (5 ∷ 6 ∷ [])))
    ∷ exchange (WriteBack 1 2) [] (done writeback)
    ∷ exchange (Receive 1) [] (done share)
    ∷ exchange (Load 1 0) [] (commit 1 (stamp 0) (load 0 (0 ∷ 0 ∷ [])))
    ∷ exchange (Victim 1) [] (done (victim 0))
    ∷ []

-- core 1 stores to line 2 twice at one timestamp; core 0 has it downgraded, and is lent it until 10. Owned again it is not dirty: the store is past
-- that lease, within which core 0 still reads its copy, and the next is at the same timestamp (02, Six)
abbrev pub repeated : List Exchange
repeated =
    exchange (Store AsBytes 1 2) (1 ∷ 1 ∷ []) (done ask)
    ∷ exchange (Serve 1) [] (done own)
    ∷ exchange (Receive 1) [] (done own)
    ∷ exchange (Store AsBytes 1 2) (1 ∷ 1 ∷ []) (commit 1 (stamp 1) (store 2 (1 ∷ 1 ∷ [])))
    ∷ exchange (Store AsDigits 1 2) (text "0202") (commit 1 (stamp 1) (store 2 (2 ∷ 2 ∷ [])))
    ∷ exchange (Load 0 2) [] (done ask)
    ∷ exchange (Serve 0) [] (done recall)
    ∷ exchange (Yield 2) [] (done yield)
    ∷ exchange (Take 2) [] (done taken)
    ∷ exchange (Serve 0) [] (done share)
    ∷ exchange (Receive 0) [] (done share)
    ∷ exchange (Store AsBytes 1 2) (3 ∷ 3 ∷ []) (done ask)
    ∷ exchange (Serve 1) [] (done own)
    ∷ exchange (Receive 1) [] (done own)
    ∷ exchange (Store AsBytes 1 2) (3 ∷ 3 ∷ []) (commit 1 (stamp 11) (store 2 (3 ∷ 3 ∷ [])))
    ∷ exchange (Load 0 2) [] (commit 0 (stamp 1) (load 2 (2 ∷ 2 ∷ [])))
    ∷ exchange (Store AsBytes 1 2) (4 ∷ 4 ∷ []) (commit 1 (stamp 11) (store 2 (4 ∷ 4 ∷ [])))
    ∷ []

-- a commit: its place in the list of calls, core, timestamp, and what it did
abbrev pub a_commit : {A : Type 0} → ℕ → ℕ → ℕ → Op A → Commit A
a_commit p c t o = record { place = place p; core = c; ts = stamp t; op = o }

-- "A commit carries kind, core, timestamp and, but for a fence, line and bytes"; "A call that is refused or commits nothing still has its place."
abbrev pub committed : List (Commit Bytes)
committed =
    a_commit 5 1 1 (store 2 (5 ∷ 6 ∷ []))
    ∷ a_commit 6 1 0 (load 2 (5 ∷ 6 ∷ []))
    ∷ a_commit 7 1 1 fence
    ∷ a_commit 12 0 3 (load 0 (0 ∷ 0 ∷ []))
    ∷ a_commit 15 0 3 fence
    ∷ []

abbrev pub given_up_commits : List (Commit Bytes)
given_up_commits = a_commit 4 1 1 (store 2 (5 ∷ 6 ∷ [])) ∷ a_commit 13 0 1 (load 2 (5 ∷ 6 ∷ [])) ∷ []

abbrev pub spelled_commits : List (Commit Bytes)
spelled_commits =
    a_commit 5 1 1 (store 2 (31 ∷ 160 ∷ []))
    ∷ a_commit 7 1 0 (load 2 (31 ∷ 160 ∷ []))
    ∷ a_commit 8 1 1 (store 2 (49 ∷ 50 ∷ []))
    ∷ a_commit 10 1 0 (load 2 (49 ∷ 50 ∷ []))
    ∷ []

abbrev pub filled_commits : List (Commit Bytes)
filled_commits =
    a_commit 5 1 1 (store 2 (5 ∷ 6 ∷ [])) ∷ a_commit 10 1 0 (load 2 (5 ∷ 6 ∷ [])) ∷ a_commit 13 1 0 (load 0 (0 ∷ 0 ∷ [])) ∷ []

abbrev pub repeated_commits : List (Commit Bytes)
repeated_commits =
    a_commit 4 1 1 (store 2 (1 ∷ 1 ∷ []))
    ∷ a_commit 5 1 1 (store 2 (2 ∷ 2 ∷ []))
    ∷ a_commit 15 1 11 (store 2 (3 ∷ 3 ∷ []))
    ∷ a_commit 16 0 1 (load 2 (2 ∷ 2 ∷ []))
    ∷ a_commit 17 1 11 (store 2 (4 ∷ 4 ∷ []))
    ∷ []

-- a list answers so, and has these commits
pub record Commits (o : Opening) (xs : List Exchange) (cs : List (Commit Bytes)) : Type 0 where
  pub replies : map (λ (r : Record). r.reply) (run (map entry_of xs) 1 (fresh_machine o)).records ≡ map reply_of xs
  pub committed : commits_of o (map entry_of xs) ≡ cs

abbrev pub CommitsTheorem : Type 0
CommitsTheorem =
    Commits small exchanges committed × Commits small given_up given_up_commits × Commits small spelled spelled_commits × Commits narrow filled filled_commits
    × Commits small repeated repeated_commits
