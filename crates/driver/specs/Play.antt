-- What `start` and `play` promise: the checkpoints of a run, the steps that lead from one to another, and what the driver writes in
-- between.
use Rattle.std.specs.Prelude.{ℕ, ◌+◌, ◌-◌, ◌≤◌, ◌<◌}
use mathlib.Core.{Path.◌≡◌, Bool.{Bool, true, false}, List.{List, [], ◌∷◌, ◌++◌}}
use lib.{Dec.{leb, eqb}, ListN.{length, take, drop}}
use Rattle.protocol.specs.{Pick.{both, every, fails as untrue}, Fresh.{fresh_state, smallest}, Buffers.Bytes, Machine.machine, Refusals.open_refusal}
use Rattle.protocol.specs.{Step.{open_reply, step}, Run.{Entry, Run, place, run}, Counts.{nothing_met, sum, tally}, declared.Opening.Opening as Sizes}
use Rattle.protocol.specs.declared.{Call.Call, Counts.Counts}
use Rattle.std.specs.Prelude.{Some, Ok}
use Rattle.grammar.specs.declared.Refusal.{Refusal}
use Rattle.journal.specs.{Journal.NextOf, declared.Item.TheVariants.{Opening, Step}}
use Rattle.listing.specs.Record.{record_text}
use Rattle.driver.specs.{Listing.{Ending, entry_at, Between, EndsAt, lines, last_lines, NotOpened, not_opened}, declared.Checkpoint.Checkpoint}
use Rattle.driver.specs.declared.{Progress.{Progress, TheVariants.{Finished, More, Short, Unfit}}, Played.Played}

-- ---- the checkpoints of a run

-- the steps gs made from a checkpoint with the buffers p and q
abbrev pub run_from : Checkpoint → Bytes → Bytes → List Entry → Run
run_from s p q gs = run gs (s.counts.steps + 1) (machine s.state p q)

-- each count
abbrev pub each : Counts → List ℕ
each k =
    k.steps ∷ k.commits ∷ k.refusals ∷ k.loads ∷ k.stores ∷ k.fences ∷ k.asks ∷ k.shares ∷ k.renews ∷ k.owns ∷ []

-- no count is above n
abbrev pub few : Counts → ℕ → Bool
few k n = every (λ (x : ℕ). leb x n) (each k)

-- a run of a journal of n bytes may have such a checkpoint: its first line was read, the offset is not past the end, and no more was met than
-- there are bytes before the offset (a line has one byte or more)
abbrev pub resumable_at : ℕ → ℕ → ℕ → Counts → Bool
resumable_at n at form k = both (untrue (eqb form 0)) (both (leb at n) (few k at))

abbrev pub resumable : ℕ → Checkpoint → Bool
resumable n s = resumable_at n s.at s.form s.counts

-- the steps gs lead from the checkpoint a, with the buffers p and q, to the checkpoint b, with the buffers p' and q': the lines of the journal
-- between the two offsets spell them, the machine is the one after them, and they are counted
pub record Leads (journal : Bytes) (a : Checkpoint) (p q : Bytes) (gs : List Entry) (b : Checkpoint) (p' q' : Bytes) : Type 0 where
  pub steps : Between journal a.form a.at gs b.at
  pub form : b.form ≡ a.form
  pub machine : machine b.state p' q' ≡ (run_from a p q gs).last
  pub counts : b.counts ≡ sum a.counts (tally (run_from a p q gs).records)

-- what is written next from a checkpoint, in one piece: a step's line, or the last lines
pub data Piece (journal : Bytes) (s : Checkpoint) (p q : Bytes) : Bytes → Type 0 where
  a_step :
      {call : Call} {start end next : ℕ} → NextOf journal s.at s.form (Ok (Some (Step call start end next)))
      → Piece journal s p q (record_text (place (s.counts.steps + 1)) (step (machine s.state p q) call (entry_at journal call start end).given).reply)
  the_end : {e : Ending} → EndsAt journal s.form s.at e → Piece journal s p q (last_lines s.counts e)

-- ---- the output

-- the first n bytes of an output are written: it keeps its length, and all bytes past them are as they were
pub record Fills (old new : Bytes) (n : ℕ) : Type 0 where
  pub size : length new ≡ length old
  pub within : n ≤ length new
  pub beyond : drop n new ≡ drop n old

-- ---- play

-- what `play` tells of a run from a checkpoint with the buffers p and q, by its progress: it wrote `text`, the run is `there`, with the
-- buffers p' and q', and `room` bytes are left to write to
pub data Tells (journal : Bytes) (from : Checkpoint) (p q : Bytes) (there : Checkpoint) (p' q' text : Bytes) (room : ℕ) : Progress → Type 0 where
  -- the lines of the steps up to the listing's end, and the last lines
  finished :
      {gs : List Entry} {e : Ending} → resumable (length journal) from ≡ true → Leads journal from p q gs there p' q'
      → EndsAt journal there.form there.at e → text ≡ lines (run_from from p q gs).records ++ last_lines there.counts e
      → Tells journal from p q there p' q' text room Finished
  -- the lines of some steps; for what comes next there is no room
  more :
      {gs : List Entry} {t : Bytes} → resumable (length journal) from ≡ true → Leads journal from p q gs there p' q'
      → text ≡ lines (run_from from p q gs).records → Piece journal there p' q' t → room < length t
      → Tells journal from p q there p' q' text room More
  -- nothing, and everything is as it was
  unfit :
      resumable (length journal) from ≡ false → there ≡ from → p' ≡ p → q' ≡ q → text ≡ []
      → Tells journal from p q there p' q' text room Unfit

-- a call of `play` that returns r, for the buffers p and q and the output `old`, and leaves p', q' and `new`: the text is the first
-- `written` bytes of the output
pub record Plays (journal : Bytes) (from : Checkpoint) (p q old p' q' new : Bytes) (r : Played) : Type 0 where
  pub fills : Fills old new r.written
  pub tells : Tells journal from p q r.checkpoint p' q' (take r.written new) (length new - r.written) r.progress

-- the same of a lent journal, lent buffers and a lent output, as they come and as they are left
abbrev pub PlaysIn : Bytes → Checkpoint → Bytes → Bytes → Bytes → Bytes → Bytes → Bytes → Played → Type 0
PlaysIn j from p q old p' q' new r = Plays j from p q old p' q' new r

-- ---- start

-- the checkpoint after the first line: nothing met, the fresh state
abbrev pub first_checkpoint : ℕ → ℕ → Sizes → Checkpoint
first_checkpoint at form o = record { at = at; form = form; counts = nothing_met; state = fresh_state o }

-- what is returned for a journal that opens no engine, or whose first line is not out yet
abbrev pub unopened : Checkpoint
unopened = first_checkpoint 0 0 smallest

-- what `start` tells, by its progress
pub data Begins (journal : Bytes) (there : Checkpoint) (text : Bytes) (room : ℕ) : Progress → Type 0 where
  -- the first line opens an engine, and its line is written
  opens :
      {form : ℕ} {o : Sizes} {next : ℕ} → NextOf journal 0 0 (Ok (Some (Opening form o next))) → open_refusal o ≡ 0 → there ≡ first_checkpoint next form o
      → text ≡ record_text (place 0) (open_reply o) → Begins journal there text room More
  -- it opens none, and the whole listing is written
  fails : {r : Refusal} → NotOpened journal r → there ≡ unopened → text ≡ not_opened r → Begins journal there text room Finished
  -- there is no room for that line, or for that listing, and nothing is written
  no_room :
      {form : ℕ} {o : Sizes} {next : ℕ} → NextOf journal 0 0 (Ok (Some (Opening form o next))) → open_refusal o ≡ 0 → there ≡ unopened → text ≡ []
      → room < length (record_text (place 0) (open_reply o)) → Begins journal there text room Short
  no_room_to_end :
      {r : Refusal} → NotOpened journal r → there ≡ unopened → text ≡ [] → room < length (not_opened r) → Begins journal there text room Short

-- a call of `start` that returns r, for the output `old`, and leaves `new`
pub record Starts (journal old new : Bytes) (r : Played) : Type 0 where
  pub fills : Fills old new r.written
  pub begins : Begins journal r.checkpoint (take r.written new) (length new - r.written) r.progress
