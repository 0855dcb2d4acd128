-- A list of calls run from a machine: the record of each call, and the commits read off the records.
use Rattle.std.specs.Prelude.{ℕ, suc, List, [], ◌∷◌, ◌++◌}
use Rattle.protocol.specs.{Buffers.Bytes, About.{about, named_core, named_line}, Given.bytes_given, Machine.Machine}
use Rattle.protocol.specs.{Step.{Op, load, store, fence, Reply, refused, done, commit, step}, declared.{Stamp.Stamp, Place.Place, Call.Call}}
use Rattle.protocol.specs.declared.Act.{Act, TheVariants.{Load as Loads, Store as Stores, Fence as Fences, Advance as Advances, Transfer}}

-- a call of a list, with what is given to it: a store's bytes, or the digits that spell them, as the call says; any other call passes over it
pub record Entry : Type 0 where
  pub call : Call
  pub given : Bytes

-- what is known of a call after it was made: its place in the list, the call, its answer
pub record Record : Type 0 where
  pub place : Place
  pub entry : Entry
  pub reply : Reply

-- the records of a list of calls, in the list's order, and the last machine
pub record Run : Type 0 where
  pub records : List Record
  pub last : Machine

-- a number as a place
abbrev pub place : ℕ → Place
place n = record { 0 = n }

-- "Each call gets the state and both buffers that the call before returned; a refused one hands on what it got. A call that is refused
-- or commits nothing still has its place." The first call's place is p
unfoldable pub run : List Entry → ℕ → Machine → Run
run [] p m = record { records = []; last = m }
run (g ∷ gs) p m =
    record {
      records =
          record { place = place p; entry = g; reply = (step m g.call g.given).reply }
          ∷ (run gs (suc p) (step m g.call g.given).machine).records;
      last = (run gs (suc p) (step m g.call g.given).machine).last;
    }

-- "A commit carries kind, core, timestamp and, but for a fence, line and bytes"; and the place of its call
pub record Commit (A : Type 0) : Type 0 where
  pub place : Place
  pub core : ℕ
  pub ts : Stamp
  pub op : Op A

-- the bytes that an answer carries
abbrev pub bytes_of : Op Bytes → Bytes
bytes_of (load l b) = b
bytes_of (store l b) = b
bytes_of fence = []

-- "A commit's kind, core and line, and a store's bytes, are those that its call was given"; of the answer only the timestamp enters, and a
-- load's bytes, which are there to be compared. "Commits come from load, store and fence only."
abbrev pub act_commit : Act → Place → ℕ → ℕ → Bytes → Stamp → Op Bytes → List (Commit Bytes)
act_commit Loads p c l given t o = record { place = p; core = c; ts = t; op = load l (bytes_of o) } ∷ []
act_commit (Stores g) p c l given t o = record { place = p; core = c; ts = t; op = store l given } ∷ []
act_commit Fences p c l given t o = record { place = p; core = c; ts = t; op = fence } ∷ []
act_commit (Advances by) p c l given t o = []
act_commit Transfer p c l given t o = []

-- the commit of a call that committed at t, with the bytes given to it
abbrev pub commit_at : Place → Call → Bytes → Stamp → Op Bytes → List (Commit Bytes)
commit_at p call given t o = act_commit (about call).act p (named_core (about call).core) (named_line (about call).line) given t o

-- the commit of a call by its answer, or none
abbrev pub commit_of : Place → Entry → Reply → List (Commit Bytes)
commit_of p g (refused n) = []
commit_of p g (done d) = []
commit_of p g (commit c t o) = commit_at p g.call (bytes_given g.call g.given) t o

-- the commits of a list of records
unfoldable pub commits : List Record → List (Commit Bytes)
commits [] = []
commits (r ∷ rs) = commit_of r.place r.entry r.reply ++ commits rs
