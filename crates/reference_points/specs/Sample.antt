-- The journal that 01 prints, the listing that the program prints for it, its tally, and where a reader is after its lines; what a store line is
-- given.
use mathlib.Core.{Path.◌≡◌, List.{[], ◌++◌}}
use Rattle.protocol.specs.{Buffers.Bytes, declared.{Counts.Counts, Call.TheVariants.Store, Given.TheVariants.Digits as AsDigits}}
use Rattle.spelling.specs.Text.{text}
use Rattle.journal.specs.Theorems.{Reached}
use Rattle.listing.specs.Record.{tally_text}
use Rattle.driver.specs.Listing.{entry_at}
use Rattle.playing.specs.Listing.{Listing, Tally}

-- "Given"
abbrev pub sample_journal : Bytes
sample_journal =
    text "fabric=1 cores=1 lines=1 width=1 lease=10\n"
    ++ text "op=store core=0 line=0 data=07\n"
    ++ text "op=serve core=0\n"
    ++ text "op=receive core=0\n"
    ++ text "op=store core=0 line=0 data=07\n"
    ++ text "op=load core=0 line=0\n"
    ++ text "op=take line=0\n"

-- "it prints"
abbrev pub sample_listing : Bytes
sample_listing =
    text "n=0 done=open\n"
    ++ text "n=1 done=ask\n"
    ++ text "n=2 done=own\n"
    ++ text "n=3 done=own\n"
    ++ text "n=4 commit=store core=0 line=0 ts=1 data=07\n"
    ++ text "n=5 commit=load core=0 line=0 ts=0 data=07\n"
    ++ text "n=6 refused=25\n"
    ++ text "end=6 commits=2 refused=1\n"

-- its tally: receive's own is not counted
abbrev pub sample_tally : Bytes
sample_tally = text "loads=1 stores=1 fences=0 asks=1 shares=0 renews=0 owns=1\n"

pub record SampleTheorem : Type 0 where
  pub listing : Listing sample_journal sample_listing
  pub counts : Counts
  pub tally : Tally sample_journal counts
  pub line : tally_text counts ≡ sample_tally
  -- a reader has passed seven lines, and is in form 1
  pub reader : Reached sample_journal 7 175 1
  -- a store is given all of its digits, and no other byte of the journal
  pub digits : entry_at (text "op=store core=0 line=0 data=1fa0\n") (Store AsDigits 0 0) 28 32 ≡ record { call = Store AsDigits 0 0; given = text "1fa0" }
  -- an empty input opens no engine, and counts nothing
  pub none : Counts
  pub empty : Tally [] none
  pub zeros : tally_text none ≡ text "loads=0 stores=0 fences=0 asks=0 shares=0 renews=0 owns=0\n"
