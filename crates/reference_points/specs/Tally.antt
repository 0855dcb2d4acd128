-- What each call counts as by its answer, and the line that `tally` prints (02, One).
use Rattle.std.specs.Prelude.{ℕ}
use mathlib.Core.{Path.◌≡◌, List.{List, [], ◌∷◌, ◌++◌, map}}
use Rattle.std.specs.Prelude.{replicate}
use Rattle.protocol.specs.{Stamps.stamp, Run.{Record, place}, Step.{load, store, fence, Reply, refused, done, commit}, Counts.{class_of, tally}}
use Rattle.protocol.specs.declared.Call.{Call, TheVariants.{Load, Store, Fence, Evict, Drop, Writeback as WriteBack, Advance, Serve, Receive, Yield, Take, Victim}}
use Rattle.protocol.specs.declared.Given.TheVariants.{Bytes as AsBytes, Digits as AsDigits}
use Rattle.protocol.specs.declared.Name.TheVariants.{Ask, Recall, Share, Renew, Own, Drop as Dropped, Evict as Evicted, Advance as Advanced}
use Rattle.protocol.specs.declared.Name.TheVariants.{Writeback as WrittenBack, Yield as Yielded, Take as Taken, Victim as Chosen}
use Rattle.protocol.specs.declared.Class.{Class, TheVariants.{Load as ALoad, Store as AStore, Fence as AFence, Ask as AnAsk, Share as AShare, Renew as ARenew}}
use Rattle.protocol.specs.declared.Class.TheVariants.{Own as AnOwn, Refused as ARefusal, Other}
use Rattle.spelling.specs.Text.{text}
use Rattle.listing.specs.Record.{end_text, tally_text}
use Rattle.reference_points.specs.Rows.{Agree}

-- a call, its answer, and what it counts as
pub data Counted : Type 0 where
  counts : (call : Call) (reply : Reply) (class : Class) → Counted

-- what the definition gives for it, and what 02 says
abbrev pub classed : Counted → Class
classed (counts call r k) = class_of call r

abbrev pub expected : Counted → Class
expected (counts call r k) = k

-- a refusal is one whatever its number is
abbrev pub every_number : List ℕ
every_number = 1 ∷ 2 ∷ 3 ∷ 4 ∷ 5 ∷ 6 ∷ 7 ∷ 13 ∷ 20 ∷ 21 ∷ 22 ∷ 23 ∷ 24 ∷ 25 ∷ 26 ∷ 27 ∷ 30 ∷ 31 ∷ []

-- "The first four count those commits and answers, the last three the serve answers": a receive answers share, renew and own too, and counts
-- as none of them
abbrev pub classes : List Counted
classes =
    counts (Load 0 0) (commit 0 (stamp 3) (load 0 (7 ∷ []))) ALoad
    ∷ counts (Store AsBytes 0 0) (commit 0 (stamp 3) (store 0 (7 ∷ []))) AStore
    ∷ counts (Fence 0) (commit 0 (stamp 3) fence) AFence
    ∷ counts (Load 0 0) (done Ask) AnAsk
    ∷ counts (Store AsBytes 0 0) (done Ask) AnAsk
    ∷ counts (Serve 0) (done Share) AShare
    ∷ counts (Serve 0) (done Renew) ARenew
    ∷ counts (Serve 0) (done Own) AnOwn
    ∷ counts (Serve 0) (done Recall) Other
    ∷ counts (Receive 0) (done Share) Other
    ∷ counts (Receive 0) (done Renew) Other
    ∷ counts (Receive 0) (done Own) Other
    ∷ counts (Receive 0) (done Dropped) Other
    ∷ counts (Evict 0 0) (done Evicted) Other
    ∷ counts (Drop 0 0) (done Dropped) Other
    ∷ counts (WriteBack 0 0) (done WrittenBack) Other
    ∷ counts (Advance 0 1) (done Advanced) Other
    ∷ counts (Yield 0) (done Yielded) Other
    ∷ counts (Take 0) (done Taken) Other
    ∷ counts (Victim 0) (done (Chosen 2)) Other
    ∷ counts (Store AsDigits 0 0) (commit 0 (stamp 3) (store 0 (7 ∷ []))) AStore
    ∷ counts (Store AsDigits 0 0) (done Ask) AnAsk
    ∷ (map (λ n. counts (Store AsDigits 0 0) (refused n) ARefusal) every_number ++ map (λ n. counts (Serve 0) (refused n) ARefusal) every_number)

-- a call with its answer, n times
abbrev pub times : ℕ → Call → Reply → List Record
times n call r = replicate n (record { place = place 1; entry = record { call = call; given = [] }; reply = r })

-- records of which no two of the counts are the same
abbrev pub traffic : List Record
traffic =
    times 8 (Load 0 0) (commit 0 (stamp 3) (load 0 (7 ∷ [])))
    ++ times 7 (Store AsBytes 0 0) (commit 0 (stamp 3) (store 0 (7 ∷ [])))
    ++ times 6 (Fence 0) (commit 0 (stamp 3) fence)
    ++ times 10 (Load 0 0) (done Ask)
    ++ times 4 (Serve 0) (done Share)
    ++ times 3 (Serve 0) (done Renew)
    ++ times 2 (Serve 0) (done Own)
    ++ times 5 (Take 0) (refused 25)
    ++ times 1 (Receive 0) (done Share)

pub record CountsTheorem : Type 0 where
  pub classes : Agree classed expected classes
  -- "one line `loads= stores= fences= asks= shares= renews= owns=`": each of its counts is that of its own records
  pub line : tally_text (tally traffic) ≡ text "loads=8 stores=7 fences=6 asks=10 shares=4 renews=3 owns=2\n"
  -- and so is each of the end line's
  pub end : end_text (tally traffic) ≡ text "end=46 commits=21 refused=5\n"
