-- What `tally` writes.
use Rattle.std.specs.Prelude.{ℕ, ◌≤◌, ◌≡◌, length, take, Option, Result}
use Rattle.protocol.specs.{Buffers.Bytes, declared.Counts.Counts}
use Rattle.listing.specs.Record.{tally_text}
use Rattle.playing.specs.Listing.{Tally}
use Rattle.runner.specs.{Runs.Runs, declared.streams.Fault.Fault}

-- the first n bytes of a buffer are the line of a journal's tally
pub record LineOf (journal line : Bytes) (n : ℕ) : Type 0 where
  pub counts : Counts
  pub tally : Tally journal counts
  pub fits : n ≤ length line
  pub text : take n line ≡ tally_text counts

-- a journal's tally as a line
pub record LineText (journal text : Bytes) : Type 0 where
  pub counts : Counts
  pub tally : Tally journal counts
  pub is : text ≡ tally_text counts

-- what `tally` does, for an input and an output whose bytes are known: the text is the line of the journal's tally
abbrev pub Tallies : {T : Type 0} → Option Bytes → Option Bytes → Option Bytes → Option Bytes → Result T Fault → Type 0
Tallies old new before after r = Runs (λ journal v text. LineText journal text) old new before after r
