-- The calls that play a journal: `start`, and then `play` until it is finished.
use mathlib.Core.{Path.◌≡◌, Bool.{Bool, true, false}, List.{List, [], ◌∷◌, ◌++◌}}
use Rattle.std.specs.Prelude.{take, replicate}
use Rattle.protocol.specs.{Buffers.{Bytes, private_length, shared_length}, declared.Counts.Counts}
use Rattle.driver.specs.{Play.{Plays, Starts}, declared.{Checkpoint.Checkpoint, Played.Played, Progress.{Progress, TheVariants.{Finished, More, Short, Unfit}}}}

-- the texts that calls wrote, one after the other
unfoldable pub joined : List Bytes → Bytes
joined [] = []
joined (t ∷ ts) = t ++ joined ts

-- calls of `play` from a checkpoint with the buffers p and q, each from the checkpoint and with the buffers that the one before left, with any
-- output at all, until one is finished; the texts that they wrote, and what was counted at the end
pub data PlaysOn (journal : Bytes) : Checkpoint → Bytes → Bytes → List Bytes → Counts → Type 0 where
  last :
      {from : Checkpoint} {p q old p' q' new : Bytes} {r : Played} → Plays journal from p q old p' q' new r → r.progress ≡ Finished
      → PlaysOn journal from p q (take r.written new ∷ []) r.checkpoint.counts
  next :
      {from : Checkpoint} {p q old p' q' new : Bytes} {r : Played} {ts : List Bytes} {k : Counts} → Plays journal from p q old p' q' new r → r.progress ≡ More
      → PlaysOn journal r.checkpoint p' q' ts k → PlaysOn journal from p q (take r.written new ∷ ts) k

-- the calls that play a whole journal, the texts that they wrote and what was counted at the end: `start`, and where it opens an engine
-- `play`, on zeroed buffers of the exact lengths
pub data Playing (journal : Bytes) : List Bytes → Counts → Type 0 where
  over :
      {old new : Bytes} {r : Played} → Starts journal old new r → r.progress ≡ Finished
      → Playing journal (take r.written new ∷ []) r.checkpoint.counts
  begun :
      {old new : Bytes} {r : Played} {ts : List Bytes} {k : Counts} → Starts journal old new r → r.progress ≡ More
      → PlaysOn journal r.checkpoint (replicate (private_length r.checkpoint.state.opening) 0)
      (replicate (shared_length r.checkpoint.state.opening) 0) ts k
      → Playing journal (take r.written new ∷ ts) k

-- ---- to the end

-- whether there is more to play after a call
abbrev pub more_to_play : Progress → Bool
more_to_play Finished = false
more_to_play More = true
more_to_play Short = false
more_to_play Unfit = false

-- calls of `play` lead from a checkpoint with the buffers p and q to the listing's end, where so much was counted
pub record PlayedOn (journal : Bytes) (from : Checkpoint) (p q : Bytes) (k : Counts) : Type 0 where
  pub texts : List Bytes
  pub calls : PlaysOn journal from p q texts k
