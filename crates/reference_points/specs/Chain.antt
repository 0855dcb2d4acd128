-- A chain of the engine's own calls, each known by its contract: three calls on the smallest engine, what each of them returns, and the commits
-- read off what they returned.
use Rattle.std.specs.Prelude.{ℕ}
use mathlib.Core.{Path.◌≡◌, List.{List, [], ◌∷◌}}
use Rattle.protocol.specs.{Stamps.stamp, Fresh.smallest, Buffers.Bytes, Machine.{Machine, fresh_machine}, Step.{fence, step}, Run.Commit}
use Rattle.protocol.specs.declared.{Call.{Call, TheVariants.{Load, Fence, Take}}, Answer.{Answer, TheVariants.{Refused, Done, Commit as Committed}}}
use Rattle.protocol.specs.declared.{Kind.TheVariants.Fence as OfFence, Name.TheVariants.Ask}
use Rattle.engine.specs.History.{Made, MadeFrom, history}
use Rattle.reference_points.specs.Commits.{a_commit}

-- a call, what is given to it, what it answers, and where the bytes of its commit lie: so many from a start in the private buffer
pub data Expected : Type 0 where
  expected : (call : Call) (given : Bytes) (answer : Answer) (start count : ℕ) → Expected

-- the calls made one after the other, from a machine on
abbrev pub chain : Machine → List Expected → List Made
chain m [] = []
chain m (expected call bs a start count ∷ ks) =
    let after = (step m call bs).machine in
    record {
      entry = record { call = call; given = bs };
      returned = record { answer = a; start = start; count = count; state = after.state };
      private = after.private;
      shared = after.shared;
    }
    ∷ chain after ks

-- a fence that commits, a load that asks, a take without a writeback (25)
abbrev pub calls : List Expected
calls = expected (Fence 0) [] (Committed 0 (stamp 0) OfFence) 0 0 ∷ expected (Load 0 0) [] (Done Ask) 0 0 ∷ expected (Take 0) [] (Refused 25) 0 0 ∷ []

-- "Commits come from load, store and fence only."
abbrev pub call_commits : List (Commit Bytes)
call_commits = a_commit 1 0 0 fence ∷ []

-- these calls make a chain, from the fresh engine on, and these are its commits
pub record ChainTheorem : Type 0 where
  pub made : MadeFrom (fresh_machine smallest) (chain (fresh_machine smallest) calls)
  pub commits : history (chain (fresh_machine smallest) calls) ≡ call_commits
