-- What C gets for a whole journal, as include/fabric.h says it: the number that is returned, and what is left in what was lent. Every byte
-- that was lent is 97 before.
use Rattle.std.specs.Prelude.{ℕ, [], ◌++◌, replicate}
use Rattle.protocol.specs.Buffers.{Bytes}
use Rattle.spelling.specs.Text.{text}
use Rattle.convert.specs.declared.To.TheVariants.{First, Second}
use Rattle.host.specs.Answers.{ChecksFor, ListsFor, TalliesFor, ConvertsFor}
use Rattle.reference_points.specs.{Sample.{sample_journal, sample_listing, sample_tally}, Conversions.{lent, of_first, to_second, of_second, to_first}}

-- a lent buffer
abbrev pub marks : ℕ → Bytes
marks n = replicate n 97

-- FABRIC_NO_ROOM
abbrev pub no_room : ℕ
no_room = 18446744073709551615

-- a journal whose third line is no step's, and its listing up to the last two lines, which stand together
abbrev pub wrong_journal : Bytes
wrong_journal = text "fabric=1 cores=1 lines=1 width=1 lease=10\n" ++ text "op=take line=0\n" ++ text "op=jump\n"

abbrev pub wrong_start : Bytes
wrong_start = text "n=0 done=open\n" ++ text "n=1 refused=25\n"

-- what of the sample's listing is in 73 bytes: n=4's line has no room in the 20 that are left, and n=6's, which would have, is not there
abbrev pub sample_start : Bytes
sample_start = text "n=0 done=open\n" ++ text "n=1 done=ask\n" ++ text "n=2 done=own\n" ++ text "n=3 done=own\n"

pub record ForCTheorem : Type 0 where
  -- fabric_check: a journal that reads whole has seven lines; the line that is refused is the third; of an empty journal it is the first
  pub whole : ChecksFor sample_journal 0 7
  pub third : ChecksFor wrong_journal 11 3
  pub none : ChecksFor [] 11 1
  -- fabric_list: with room for two bytes more, with just enough, with less
  pub listed : ListsFor sample_journal (marks 183) (sample_listing ++ marks 2) 181
  pub just_listed : ListsFor sample_journal (marks 181) sample_listing 181
  pub not_listed : ListsFor sample_journal (marks 73) (sample_start ++ marks 20) no_room
  pub together : ListsFor wrong_journal (marks 69) (wrong_start ++ marks 40) no_room
  -- fabric_tally
  pub tallied : TalliesFor sample_journal (marks 60) (sample_tally ++ marks 2) 58
  pub not_tallied : TalliesFor sample_journal (marks 57) (marks 57) no_room
  -- fabric_to2 and fabric_to1: the word for the length was 5
  pub second : ConvertsFor Second of_first (lent 463) (to_second ++ text "..") 5 461 0
  pub first : ConvertsFor First of_second (lent 350) to_first 5 350 0
  pub refused : ConvertsFor Second of_first (lent 460) (lent 460) 5 5 14
