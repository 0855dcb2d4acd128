-- A short journal of `fabric=2` (02, Two and Four), the listing that the program prints for it, its tally, and where a reader is after its lines.
use mathlib.Core.{Path.◌≡◌, List.◌++◌}
use Rattle.protocol.specs.{Buffers.Bytes, declared.Counts.Counts}
use Rattle.spelling.specs.Text.{text}
use Rattle.journal.specs.Theorems.{Reached}
use Rattle.listing.specs.Record.{tally_text}
use Rattle.playing.specs.Listing.{Listing, Tally}

-- drop, writeback and victim are steps here, and evict is none; a core has room for one copy
abbrev pub second_journal : Bytes
second_journal =
    text "fabric=2 cores=1 lines=2 width=1 lease=10 cap=1\n"
    ++ text "op=store core=0 line=0 data=07\n"
    ++ text "op=serve core=0\n"
    ++ text "op=receive core=0\n"
    ++ text "op=victim core=0\n"
    ++ text "op=load core=0 line=1\n"
    ++ text "op=serve core=0\n"
    ++ text "op=receive core=0\n"
    ++ text "op=drop core=0 line=0\n"
    ++ text "op=writeback core=0 line=0\n"
    ++ text "op=receive core=0\n"
    ++ text "op=evict core=0 line=0\n"

-- a second copy has no room (31) until the first, which is owned, and so is not dropped (30), is written back; the other form's step ends the run
-- (11)
abbrev pub second_listing : Bytes
second_listing =
    text "n=0 done=open\n"
    ++ text "n=1 done=ask\n"
    ++ text "n=2 done=own\n"
    ++ text "n=3 done=own\n"
    ++ text "n=4 done=victim line=0\n"
    ++ text "n=5 done=ask\n"
    ++ text "n=6 done=share\n"
    ++ text "n=7 refused=31\n"
    ++ text "n=8 refused=30\n"
    ++ text "n=9 done=writeback\n"
    ++ text "n=10 done=share\n"
    ++ text "n=11 refused=11\n"
    ++ text "end=11 commits=0 refused=3\n"

abbrev pub second_tally : Bytes
second_tally = text "loads=0 stores=0 fences=0 asks=2 shares=1 renews=0 owns=1\n"

pub record SecondFormTheorem : Type 0 where
  pub listing : Listing second_journal second_listing
  pub counts : Counts
  pub tally : Tally second_journal counts
  pub line : tally_text counts ≡ second_tally
  -- a reader has passed the eleven lines before the evict, and is in form 2
  pub reader : Reached second_journal 11 253 2
