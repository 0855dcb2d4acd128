-- How a whole journal is played, and what a writer gets of its listing, where the writer's bytes are known.
use mathlib.Core.{List.{List, ◌++◌}}
use Rattle.std.specs.Prelude.{◌≡◌, Option, Result, Ok, Err}
use Rattle.std.specs.Io.KnownBytes.{Appends, Keeps}
use Rattle.protocol.specs.{Buffers.Bytes, Machine.machine, Run.Entry, declared.Counts.Counts}
use Rattle.driver.specs.{Listing.Ending, declared.{Checkpoint.Checkpoint}}
use Rattle.playing.specs.{Listing.{ReadAs, listing_from, Listing, Tally}, Calls.{joined, PlaysOn, Playing}}
use Rattle.runner.specs.{Moved.GaveSome, declared.Texts.{Texts, TheVariants.{Written, Dropped}}}

-- a writer gets a text that is written, and nothing of one that is dropped
abbrev pub Gets : Texts → Option Bytes → Option Bytes → Bytes → Type 0
Gets Written old new text = Appends old new text
Gets Dropped old new text = Keeps old new

-- a text was written or dropped; or a write failed, and the writer got a beginning of it. A text that is dropped needs no write
pub data Kept {T E : Type 0} (old new : Option Bytes) (text : Bytes) : Texts → Result T E → Type 0 where
  kept : {texts : Texts} {v : T} → Gets texts old new text → Kept old new text texts (Ok v)
  unwritten : {e : E} → GaveSome old new text → Kept old new text Written (Err e)

-- the text that the listing of a journal has from a checkpoint on, with the buffers p and q
pub record ListingFrom (journal : Bytes) (from : Checkpoint) (p q text : Bytes) : Type 0 where
  pub steps : List Entry
  pub ending : Ending
  pub reads : ReadAs journal from.form from.at steps ending
  pub is : text ≡ listing_from (machine from.state p q) from.counts steps ending

-- from a checkpoint on, with the buffers p and q: calls of `play` lead from there to the listing's end, and the writer got their texts; or a
-- write failed, and the writer got a beginning of the listing from there
pub data RanFrom {E : Type 0} (journal : Bytes) (from : Checkpoint) (p q : Bytes) (old new : Option Bytes) : Texts → Result Counts E → Type 0 where
  ended :
      {texts : Texts} {ts : List Bytes} {k : Counts} → PlaysOn journal from p q ts k → Gets texts old new (joined ts)
      → RanFrom journal from p q old new texts (Ok k)
  stopped :
      (xs rest : Bytes) {e : E} → ListingFrom journal from p q (xs ++ rest) → Appends old new xs
      → RanFrom journal from p q old new Written (Err e)

-- from the start: `start` and calls of `play` wrote texts that, put together, are the journal's listing, which the writer got, and counted its
-- tally; or a write failed, and the writer got a beginning of the listing
pub data RanWhole {E : Type 0} (journal : Bytes) (old new : Option Bytes) : Texts → Result Counts E → Type 0 where
  whole :
      {texts : Texts} {ts : List Bytes} {k : Counts} → Playing journal ts k → Listing journal (joined ts) → Tally journal k
      → Gets texts old new (joined ts) → RanWhole journal old new texts (Ok k)
  part : (xs rest : Bytes) {e : E} → Listing journal (xs ++ rest) → Appends old new xs → RanWhole journal old new Written (Err e)
