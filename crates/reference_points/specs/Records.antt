-- The lines that the program prints, byte for byte (01, "Journal and driver"; 02, Two to Four).
use Rattle.std.specs.Prelude.{ℕ}
use mathlib.Core.{Path.◌≡◌, List.{List, [], ◌∷◌, ◌++◌}}
use Rattle.protocol.specs.{Stamps.stamp, Buffers.Bytes, Step.{load, store, fence, Reply, refused, done, commit}, Run.place}
use Rattle.protocol.specs.declared.{Counts.Counts, Name.TheVariants.{Open, Ask, Recall, Share, Renew, Own, Drop, Evict, Writeback, Advance, Yield, Take, Victim}}
use Rattle.spelling.specs.Text.{text}
use Rattle.protocol.specs.declared.Given.TheVariants.{Digits as AsDigits}
use Rattle.listing.specs.Record.{record_as, record_text, end_text}
use Rattle.grammar.specs.declared.Refusal.TheVariants.{Unfit, NoForm}
use Rattle.driver.specs.Listing.{ended, stopped, last_lines, not_opened}
use Rattle.reference_points.specs.Rows.{Agree}

-- the record of a call: its place, its answer, the line printed for it
pub data Printed : Type 0 where
  printed : (place : ℕ) (reply : Reply) (line : Bytes) → Printed

-- what the definition gives for it, and what 01 prints
abbrev pub recorded : Printed → Bytes
recorded (printed n r s) = record_text (place n) r

abbrev pub printed_line : Printed → Bytes
printed_line (printed n r s) = s

-- "n is the place; done is open, ask, recall, share, renew, own, drop, evict, advance, yield or take; a fence prints core and ts";
-- 02: "they print `done=drop` and `done=writeback`", "prints `done=victim line=N`"
abbrev pub records : List Printed
records =
    printed 7 (commit 3 (stamp 45) (load 6 (171 ∷ 205 ∷ []))) (text "n=7 commit=load core=3 line=6 ts=45 data=abcd\n")
    ∷ printed 7 (commit 3 (stamp 45) (store 6 (171 ∷ 205 ∷ []))) (text "n=7 commit=store core=3 line=6 ts=45 data=abcd\n")
    ∷ printed 4294967295 (commit 15 (stamp 4294967295) (load 63 (1 ∷ 35 ∷ 69 ∷ 103 ∷ 137 ∷ 171 ∷ 205 ∷ 239 ∷ [])))
    (text "n=4294967295 commit=load core=15 line=63 ts=4294967295 data=0123456789abcdef\n")
    ∷ printed 10 (commit 0 (stamp 0) (store 0 (0 ∷ 16 ∷ 255 ∷ []))) (text "n=10 commit=store core=0 line=0 ts=0 data=0010ff\n")
    ∷ printed 8 (commit 3 (stamp 45) fence) (text "n=8 commit=fence core=3 ts=45\n")
    ∷ printed 0 (done Open) (text "n=0 done=open\n")
    ∷ printed 1 (done Ask) (text "n=1 done=ask\n")
    ∷ printed 2 (done Recall) (text "n=2 done=recall\n")
    ∷ printed 3 (done Share) (text "n=3 done=share\n")
    ∷ printed 4 (done Renew) (text "n=4 done=renew\n")
    ∷ printed 5 (done Own) (text "n=5 done=own\n")
    ∷ printed 6 (done Drop) (text "n=6 done=drop\n")
    ∷ printed 7 (done Evict) (text "n=7 done=evict\n")
    ∷ printed 8 (done Advance) (text "n=8 done=advance\n")
    ∷ printed 9 (done Yield) (text "n=9 done=yield\n")
    ∷ printed 10 (done Take) (text "n=10 done=take\n")
    ∷ printed 11 (done Writeback) (text "n=11 done=writeback\n")
    ∷ printed 12 (done (Victim 0)) (text "n=12 done=victim line=0\n")
    ∷ printed 13 (done (Victim 63)) (text "n=13 done=victim line=63\n")
    ∷ printed 9 (refused 27) (text "n=9 refused=27\n")
    ∷ printed 12 (refused 30) (text "n=12 refused=30\n")
    ∷ printed 12 (refused 31) (text "n=12 refused=31\n")
    ∷ []

-- the data of a commit put from digits: "Listings are unchanged", so digits are printed as they are
abbrev pub from_digits : Printed → Bytes
from_digits (printed n r s) = record_as AsDigits (place n) r

abbrev pub digit_records : List Printed
digit_records =
    printed 7 (commit 3 (stamp 45) (store 6 (text "abcd"))) (text "n=7 commit=store core=3 line=6 ts=45 data=abcd\n")
    ∷ printed 7 (commit 3 (stamp 45) (load 6 (text "abc"))) (text "n=7 commit=load core=3 line=6 ts=45 data=abc\n")
    ∷ printed 7 (commit 3 (stamp 45) (store 6 [])) (text "n=7 commit=store core=3 line=6 ts=45 data=\n")
    ∷ printed 8 (commit 3 (stamp 45) fence) (text "n=8 commit=fence core=3 ts=45\n")
    ∷ printed 1 (done Ask) (text "n=1 done=ask\n")
    ∷ printed 9 (refused 13) (text "n=9 refused=13\n")
    ∷ []

-- 12 steps were met, of which 3 committed and 4 were refused
abbrev pub met : Counts
met = record { steps = 12; commits = 3; refusals = 4; loads = 2; stores = 1; fences = 0; asks = 3; shares = 1; renews = 0; owns = 1 }

pub record RecordsTheorem : Type 0 where
  -- a text is its bytes in ASCII, and `\n` is the newline, 10
  pub bytes : text "n=0 az\n" ≡ 110 ∷ 61 ∷ 48 ∷ 32 ∷ 97 ∷ 122 ∷ 10 ∷ []
  pub records : Agree recorded printed_line records
  pub digits : Agree from_digits printed_line digit_records
  -- "The end line counts step lines met, the one that ends the run too, commits, and `refused=` lines above it."
  pub end : end_text met ≡ text "end=12 commits=3 refused=4\n"
  pub ended : last_lines met ended ≡ text "end=12 commits=3 refused=4\n"
  -- "Numbers 7 and 10 to 14 end the run, after `refused=` and the end line"
  pub stopped : last_lines met (stopped NoForm) ≡ text "n=13 refused=11\n" ++ text "end=13 commits=3 refused=5\n"
  -- "(a bad opening or 14: n=0, end=0; empty input: 11)"
  pub not_opened : not_opened Unfit ≡ text "n=0 refused=7\n" ++ text "end=0 commits=0 refused=1\n"
