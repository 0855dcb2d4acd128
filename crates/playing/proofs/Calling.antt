-- From one call of the driver to the next, each with room.
use Prim.Native.Nat.{ℕ, ◌-◌, ◌≤◌, ◌<◌}
use mathlib.Core.{Path.{◌≡◌, refl, sym}, Bool.{true, false}, List.List}
use native.Mathlib.Omega.{arith}
use lib.ListN.{length, take, replicate}
use Rattle.protocol.{specs.{Buffers.{Bytes, private_length, shared_length}, declared.Counts.Counts}, proofs.{Tests.never, Bytes.zeros_part}}
use Rattle.driver.specs.{Play.{resumable, Plays, Starts}, declared.Checkpoint.Checkpoint}
use Rattle.driver.{specs.declared.{Progress.{Progress, TheVariants.{Finished, More, Short, Unfit}}, Played.Played}, proofs.Resuming.resumes}
use Rattle.playing.specs.Calls.{last, next, Playing, over, begun, more_to_play, PlayedOn}
use Rattle.playing.specs.{Listing.Tally, Theorems.{Begun, listed, running, Onward, ends, further}}
use Rattle.playing.proofs.{Whole.whole_theorem, Progressing.{start_advances_theorem, play_advances_theorem}}

-- calls of `play` lead from a checkpoint with the buffers p₀ and q₀ to another with p and q, from where `play` goes on
pub record Called (j : Bytes) (from : Checkpoint) (p₀ q₀ : Bytes) (there : Checkpoint) (p q out : Bytes) : Type 0 where
  pub resumable : resumable (length j) there ≡ true
  pub room : 246 ≤ length out
  pub onward : (k : Counts) → PlayedOn j there p q k → PlayedOn j from p₀ q₀ k

pub called_start : {j : Bytes} {from : Checkpoint} {p q out : Bytes} → resumable (length j) from ≡ true → 246 ≤ length out → Called j from p q from p q out
called_start s h = record { resumable = s; room = h; onward = λ k x. x }

-- with room, a call of `play` that does not go on is finished, and one that goes on is further on in the journal
pub on_over : {j : Bytes} {from there : Checkpoint} {g : Progress} → Onward j from there g → more_to_play g ≡ false → g ≡ Finished
on_over ends e = refl
on_over (further a s) e = never e

pub on_more :
    {j : Bytes} {from there : Checkpoint} {g : Progress} → Onward j from there g → more_to_play g ≡ true
    → (g ≡ More) × (from.at < there.at) × (resumable (length j) there ≡ true)
on_more ends e = never (sym e)
on_more (further a s) e = (refl, a, s)

module _ {j : Bytes} {from : Checkpoint} {p₀ q₀ : Bytes} {there : Checkpoint} {p q old p' q' new : Bytes} {r : Played}
    (c : Called j from p₀ q₀ there p q old) (x : Plays j there p q old p' q' new r) where
  on : Onward j there r.checkpoint r.progress
  on = play_advances_theorem j there p q old p' q' new r x c.resumable c.room

  -- the call was the last
  pub call_over : more_to_play r.progress ≡ false → PlayedOn j from p₀ q₀ r.checkpoint.counts
  call_over e = c.onward _ (record { texts = _; calls = last x (on_over on e) })

  -- it goes on, further on in the journal
  pub call_further : more_to_play r.progress ≡ true → (there.at < r.checkpoint.at) × (r.checkpoint.at ≤ length j)
  call_further e = let o = on_more on e in (o.1, (resumes (length j) r.checkpoint o.2).inside)

  pub call_more : more_to_play r.progress ≡ true → Called j from p₀ q₀ r.checkpoint p' q' new
  call_more e =
      let o = on_more on e in
      record {
        resumable = o.2;
        room = omega (arith, x.fills.size, c.room);
        onward = λ k y. c.onward k (record { texts = _; calls = next x o.0 y.calls });
      }

-- ---- the first call

pub begun_over : {j : Bytes} {there : Checkpoint} {g : Progress} → Begun j there g → more_to_play g ≡ false → g ≡ Finished
begun_over listed e = refl
begun_over (running s) e = never e

pub begun_more : {j : Bytes} {there : Checkpoint} {g : Progress} → Begun j there g → more_to_play g ≡ true → (g ≡ More) × (resumable (length j) there ≡ true)
begun_more listed e = never (sym e)
begun_more (running s) e = (refl, s)

-- a call that goes on
pub goes_on : (g : Progress) → more_to_play g ≡ true → g ≡ More
goes_on Finished e = never (sym e)
goes_on More e = refl
goes_on Short e = never (sym e)
goes_on Unfit e = never (sym e)

-- the calls that play a whole journal, with what they counted
pub record PlayedWhole (j : Bytes) (k : Counts) : Type 0 where
  pub texts : List Bytes
  pub calls : Playing j texts k

-- what they counted is the tally
pub played_tally : {j : Bytes} {k : Counts} → PlayedWhole j k → Tally j k
played_tally {j} {k} x = (whole_theorem j x.texts k x.calls).1

module _ {j old new : Bytes} {r : Played} (x : Starts j old new r) where
  -- on buffers of zeros the journal is played whole where the calls of `play` come to its end
  pub whole_played :
      {p q : Bytes} {k : Counts} → r.progress ≡ More → p ≡ replicate (private_length r.checkpoint.state.opening) 0
      → q ≡ replicate (shared_length r.checkpoint.state.opening) 0 → PlayedOn j r.checkpoint p q k → PlayedWhole j k
  whole_played e ep eq y = record { texts = _; calls = begun x e (rw (ep, eq) at y.calls) }

  module _ (h : 246 ≤ length new) where
    begins : Begun j r.checkpoint r.progress
    begins = start_advances_theorem j old new r x (omega (arith, h, x.fills.size))

    -- the journal is played whole, or `play` goes on from the checkpoint
    pub whole_over : more_to_play r.progress ≡ false → PlayedWhole j r.checkpoint.counts
    whole_over e = record { texts = _; calls = over x (begun_over begins e) }

    pub whole_more : more_to_play r.progress ≡ true → (r.progress ≡ More) × (resumable (length j) r.checkpoint ≡ true)
    whole_more e = begun_more begins e

-- the first of many zeros
pub part_zeros : (n m : ℕ) → n ≤ m → take {A = ℕ} (n - 0) (replicate m 0) ≡ replicate n 0
part_zeros n m h = let k : n - 0 ≡ n = omega arith in rw k (zeros_part m 0 n (omega arith))
