-- What the claims of every run, of every history and of every listing come to: any such claim holds of lists of calls, of calls made on an engine
-- and of a journal's listing that are worked out here, of two cores.
use Rattle.std.specs.Prelude.{List, [], ◌∷◌, ◌++◌}
use Rattle.protocol.specs.{Stamps.stamp, Buffers.Bytes, Step.{load, store, fence}, Run.Commit, Order.OfEveryRun, declared.Opening.Opening}
use Rattle.protocol.specs.declared.{Call.TheVariants.{Load, Store, Fence, Serve, Receive}, Given.TheVariants.Bytes as AsBytes, Name.TheVariants.{Ask, Own}}
use Rattle.protocol.specs.declared.{Answer.TheVariants.{Done, Commit as Committed}, Kind.TheVariants.{Load as OfLoad, Store as OfStore, Fence as OfFence}}
use Rattle.spelling.specs.Text.{text}
use Rattle.engine.specs.History.{OfEveryHistory}
use Rattle.playing.specs.Printed.{OfEveryListing}
use Rattle.reference_points.specs.{Chain.{Expected, expected}, Numbers.opening}
use Rattle.reference_points.specs.Commits.{a_commit, committed, given_up_commits, spelled_commits, filled_commits, repeated_commits}

-- 2 cores, 1 line, a width of 1, a lease of 10
abbrev pub pair : Opening
pair = opening 2 1 1 10 1

-- calls made on it: core 1 stores, makes a fence and loads; core 0 makes a fence
abbrev pub pair_calls : List Expected
pair_calls =
    expected (Store AsBytes 1 0) (7 ∷ []) (Done Ask) 0 0
    ∷ expected (Serve 1) [] (Done Own) 0 0
    ∷ expected (Receive 1) [] (Done Own) 0 0
    ∷ expected (Store AsBytes 1 0) (7 ∷ []) (Committed 1 (stamp 1) (OfStore 0)) 1 1
    ∷ expected (Fence 1) [] (Committed 1 (stamp 1) OfFence) 0 0
    ∷ expected (Load 1 0) [] (Committed 1 (stamp 1) (OfLoad 0)) 1 1
    ∷ expected (Fence 0) [] (Committed 0 (stamp 0) OfFence) 0 0
    ∷ []

abbrev pub pair_commits : List (Commit Bytes)
pair_commits = a_commit 4 1 1 (store 0 (7 ∷ [])) ∷ a_commit 5 1 1 fence ∷ a_commit 6 1 1 (load 0 (7 ∷ [])) ∷ a_commit 7 0 0 fence ∷ []

-- 01's sample by core 1 of two, and the commits that its listing prints
abbrev pub pair_journal : Bytes
pair_journal =
    text "fabric=1 cores=2 lines=1 width=1 lease=10\n"
    ++ text "op=store core=1 line=0 data=07\n"
    ++ text "op=serve core=1\n"
    ++ text "op=receive core=1\n"
    ++ text "op=store core=1 line=0 data=07\n"
    ++ text "op=load core=1 line=0\n"
    ++ text "op=take line=0\n"

abbrev pub printed_commits : List (Commit Bytes)
printed_commits = a_commit 4 1 1 (store 0 (7 ∷ [])) ∷ a_commit 5 1 0 (load 0 (7 ∷ [])) ∷ []

pub record UsedTheorem : Type 1 where
  pub runs :
      (Claim : Bytes → List (Commit Bytes) → Type 0) → OfEveryRun Claim
      → Claim (0 ∷ 0 ∷ []) committed × Claim (0 ∷ 0 ∷ []) given_up_commits × Claim (0 ∷ 0 ∷ []) spelled_commits × Claim (0 ∷ 0 ∷ []) filled_commits
      × Claim (0 ∷ 0 ∷ []) repeated_commits
  pub histories : (Claim : Bytes → List (Commit Bytes) → Type 0) → OfEveryHistory Claim → Claim (0 ∷ []) pair_commits
  pub listings : (Claim : Bytes → List (Commit Bytes) → Type 0) → OfEveryListing Claim → Claim (0 ∷ []) printed_commits
