-- Journals between the two forms, as worked examples (02, Five): texts in and texts out, with the answer and the buffer after it; the refusals, and
-- which of two comes first; each step in the other form, and each line as it is spelt.
use Rattle.std.specs.Prelude.{ℕ, zero, suc, ◌≤◌, ◌<◌, Ok, Err}
use mathlib.Core.{Path.◌≡◌, Bool.false, List.{List, [], ◌∷◌, ◌++◌}}
use Rattle.std.specs.Prelude.{length, drop, replicate}
use Rattle.protocol.specs.{Buffers.Bytes, declared.{Copy.{Copy, TheVariants.None as NoCopy}, Slot.TheVariants.Empty}}
use Rattle.protocol.specs.declared.Call.{Call, TheVariants.{Load, Store, Fence, Evict, Drop, Writeback as WriteBack, Advance, Serve, Receive, Yield, Take, Victim}}
use Rattle.protocol.specs.declared.Given.TheVariants.{Digits as AsDigits}
use Rattle.spelling.specs.Text.{text}
use Rattle.convert.specs.{Spelling.{step_line, opening_line}, Forms.{in_first, in_second}, Conversion.{unlike, Converts}}
use Rattle.grammar.specs.{Refusal.number, declared.Refusal.Refusal}
use Rattle.convert.specs.declared.To.{To, TheVariants.{First, Second}}
use Rattle.reference_points.specs.Rows.{core, shared_copy, clean_copy, dirty_copy, shared_line, pieces, state_of, Agree}
use Rattle.reference_points.specs.Numbers.{opening}

-- a buffer of n bytes, as it is lent: n dots
abbrev pub lent : ℕ → Bytes
lent n = replicate n 46

-- a journal that is refused with this number, and a buffer that stays as it was
abbrev pub Untouched : To → Bytes → Bytes → ℕ → Type 0
Untouched to journal old n = (r : Refusal) × (number r ≡ n) × Converts to journal old (Err r) old

-- .. and a buffer that no result fits
abbrev pub Refuses : To → Bytes → ℕ → Type 0
Refuses to journal n = Untouched to journal (text "kept") n

-- ---- from 1 to 2

-- core 1 comes to own line 2 and evicts it, and core 0 comes to share it and evicts it
abbrev pub of_first : Bytes
of_first =
    text "fabric=1 cores=2 lines=3 width=1 lease=10\n"
    ++ text "op=evict core=1 line=2\n"
    ++ text "op=store core=1 line=2 data=a7\n"
    ++ text "op=serve core=1\n"
    ++ text "op=evict core=1 line=2\n"
    ++ text "op=receive core=1\n"
    ++ text "op=store core=1 line=2 data=a7\n"
    ++ text "op=evict core=0 line=66\n"
    ++ text "op=evict core=0 line=2\n"
    ++ text "op=evict core=2 line=2\n"
    ++ text "op=evict core=1 line=2\n"
    ++ text "op=evict core=1 line=2\n"
    ++ text "op=take line=2\n"
    ++ text "op=load core=0 line=2\n"
    ++ text "op=serve core=0\n"
    ++ text "op=receive core=0\n"
    ++ text "op=evict core=0 line=2\n"
    ++ text "op=fence core=0\n"
    ++ text "op=advance core=0 by=4294967295\n"
    ++ text "op=yield line=2\n"

-- "cap = lines; evict becomes writeback if the core then holds an owned copy, else drop". The evicts: no copy yet (26), nor once it is granted (26);
-- core 0 has no line 66 (4), and no copy of line 2 (26), while core 1 owns one; there is no core 2 (3); the owned copy; no copy any more (26), though
-- the manager's line still is core 1's; the shared copy
abbrev pub to_second : Bytes
to_second =
    text "fabric=2 cores=2 lines=3 width=1 lease=10 cap=3\n"
    ++ text "op=drop core=1 line=2\n"
    ++ text "op=store core=1 line=2 data=a7\n"
    ++ text "op=serve core=1\n"
    ++ text "op=drop core=1 line=2\n"
    ++ text "op=receive core=1\n"
    ++ text "op=store core=1 line=2 data=a7\n"
    ++ text "op=drop core=0 line=66\n"
    ++ text "op=drop core=0 line=2\n"
    ++ text "op=drop core=2 line=2\n"
    ++ text "op=writeback core=1 line=2\n"
    ++ text "op=drop core=1 line=2\n"
    ++ text "op=take line=2\n"
    ++ text "op=load core=0 line=2\n"
    ++ text "op=serve core=0\n"
    ++ text "op=receive core=0\n"
    ++ text "op=drop core=0 line=2\n"
    ++ text "op=fence core=0\n"
    ++ text "op=advance core=0 by=4294967295\n"
    ++ text "op=yield line=2\n"

-- ---- from 2 to 1

-- a drop of no copy (26), a writeback of a core that is not there (3), a drop of a line that is not there (4); then of an owned and of a shared copy
abbrev pub of_second : Bytes
of_second =
    text "fabric=2 cores=1 lines=2 width=2 lease=10 cap=2\n"
    ++ text "op=drop core=0 line=1\n"
    ++ text "op=writeback core=1 line=1\n"
    ++ text "op=drop core=0 line=2\n"
    ++ text "op=store core=0 line=1 data=0fa0\n"
    ++ text "op=serve core=0\n"
    ++ text "op=receive core=0\n"
    ++ text "op=writeback core=0 line=1\n"
    ++ text "op=take line=1\n"
    ++ text "op=load core=0 line=0\n"
    ++ text "op=serve core=0\n"
    ++ text "op=receive core=0\n"
    ++ text "op=drop core=0 line=0\n"
    ++ text "op=advance core=0 by=5\n"
    ++ text "op=fence core=0\n"
    ++ text "op=yield line=1\n"

-- "drop and writeback become evict"
abbrev pub to_first : Bytes
to_first =
    text "fabric=1 cores=1 lines=2 width=2 lease=10\n"
    ++ text "op=evict core=0 line=1\n"
    ++ text "op=evict core=1 line=1\n"
    ++ text "op=evict core=0 line=2\n"
    ++ text "op=store core=0 line=1 data=0fa0\n"
    ++ text "op=serve core=0\n"
    ++ text "op=receive core=0\n"
    ++ text "op=evict core=0 line=1\n"
    ++ text "op=take line=1\n"
    ++ text "op=load core=0 line=0\n"
    ++ text "op=serve core=0\n"
    ++ text "op=receive core=0\n"
    ++ text "op=evict core=0 line=0\n"
    ++ text "op=advance core=0 by=5\n"
    ++ text "op=fence core=0\n"
    ++ text "op=yield line=1\n"

-- ---- first lines

-- with the greatest sizes: "cap = lines"
abbrev pub greatest_first : Bytes
greatest_first = text "fabric=1 cores=16 lines=64 width=64 lease=1000\n"

abbrev pub greatest_second : Bytes
greatest_second = text "fabric=2 cores=16 lines=64 width=64 lease=1000 cap=64\n"

-- with the smallest sizes
abbrev pub least_first : Bytes
least_first = text "fabric=1 cores=1 lines=1 width=1 lease=10\n"

abbrev pub least_second : Bytes
least_second = text "fabric=2 cores=1 lines=1 width=1 lease=10 cap=1\n"

-- with a lease of one digit more
abbrev pub long_first : Bytes
long_first = text "fabric=1 cores=1 lines=1 width=1 lease=100\n"

-- ---- a few lines after them

-- core 0 comes to own its line, or to share it
abbrev pub owning : Bytes
owning = least_second ++ text "op=store core=0 line=0 data=07\n" ++ text "op=serve core=0\n" ++ text "op=receive core=0\n"

abbrev pub sharing : Bytes
sharing = least_second ++ text "op=load core=0 line=0\n" ++ text "op=serve core=0\n" ++ text "op=receive core=0\n"

-- n lines of 16 bytes, whose steps are refused (21)
unfoldable pub serves : ℕ → Bytes
serves zero = []
serves (suc n) = text "op=serve core=0\n" ++ serves n

-- ---- one step in the other form

-- a step on the machine of the rows, whose core 1 holds this copy of line 2; and the step in `fabric=2`
pub data Turned : Type 0 where
  turns : (copy : Copy) (call into : Call) → Turned

abbrev pub got_second : Turned → Call
got_second (turns x call into) = in_second (state_of 10 (pieces (core 7 9 Empty) x (shared_line 4 9))) call

abbrev pub told_second : Turned → Call
told_second (turns x call into) = into

abbrev pub into_second : List Turned
into_second =
    turns NoCopy (Evict 1 2) (Drop 1 2)
    ∷ turns (shared_copy 4 9) (Evict 1 2) (Drop 1 2)
    ∷ turns (clean_copy 3 7) (Evict 1 2) (WriteBack 1 2)
    ∷ turns (dirty_copy 6 8) (Evict 1 2) (WriteBack 1 2)
    -- "the core": core 0 owns line 0 and shares line 2; core 1 shares line 0 and owns line 3
    ∷ turns NoCopy (Evict 0 0) (WriteBack 0 0)
    ∷ turns (dirty_copy 6 8) (Evict 0 2) (Drop 0 2)
    ∷ turns (dirty_copy 6 8) (Evict 1 0) (Drop 1 0)
    ∷ turns NoCopy (Evict 1 3) (WriteBack 1 3)
    -- a core and a line outside the sizes hold nothing, whatever lies in their places
    ∷ turns NoCopy (Evict 3 2) (Drop 3 2)
    ∷ turns NoCopy (Evict 1 4) (Drop 1 4)
    ∷ turns (dirty_copy 6 8) (Evict 0 66) (Drop 0 66)
    -- all else stays
    ∷ turns (dirty_copy 6 8) (Load 1 2) (Load 1 2)
    ∷ turns (dirty_copy 6 8) (Store AsDigits 1 2) (Store AsDigits 1 2)
    ∷ turns (dirty_copy 6 8) (Fence 1) (Fence 1)
    ∷ turns (dirty_copy 6 8) (Advance 1 3) (Advance 1 3)
    ∷ turns (dirty_copy 6 8) (Serve 1) (Serve 1)
    ∷ turns (dirty_copy 6 8) (Receive 1) (Receive 1)
    ∷ turns (dirty_copy 6 8) (Yield 2) (Yield 2)
    ∷ turns (dirty_copy 6 8) (Take 2) (Take 2)
    ∷ []

-- a step of `fabric=2`, and the step in `fabric=1`
pub data Returned : Type 0 where
  returns : (call into : Call) → Returned

abbrev pub got_first : Returned → Call
got_first (returns call into) = in_first call

abbrev pub told_first : Returned → Call
told_first (returns call into) = into

abbrev pub into_first : List Returned
into_first =
    returns (Drop 1 2) (Evict 1 2)
    ∷ returns (WriteBack 1 2) (Evict 1 2)
    ∷ returns (Load 1 2) (Load 1 2)
    ∷ returns (Store AsDigits 1 2) (Store AsDigits 1 2)
    ∷ returns (Fence 1) (Fence 1)
    ∷ returns (Advance 1 3) (Advance 1 3)
    ∷ returns (Serve 1) (Serve 1)
    ∷ returns (Receive 1) (Receive 1)
    ∷ returns (Yield 2) (Yield 2)
    ∷ returns (Take 2) (Take 2)
    ∷ []

-- ---- one line

-- a step, the digits of its data, and its line
pub data Spelling : Type 0 where
  spells : (call : Call) (digits line : Bytes) → Spelling

abbrev pub got_line : Spelling → Bytes
got_line (spells call ds line) = step_line call ds

abbrev pub told_line : Spelling → Bytes
told_line (spells call ds line) = line

abbrev pub step_texts : List Spelling
step_texts =
    spells (Load 3 4) [] (text "op=load core=3 line=4")
    ∷ spells (Store AsDigits 3 4) (text "07ff") (text "op=store core=3 line=4 data=07ff")
    ∷ spells (Fence 3) [] (text "op=fence core=3")
    ∷ spells (Evict 3 4) [] (text "op=evict core=3 line=4")
    ∷ spells (Drop 3 4) [] (text "op=drop core=3 line=4")
    ∷ spells (WriteBack 3 4) [] (text "op=writeback core=3 line=4")
    ∷ spells (Advance 3 4294967295) [] (text "op=advance core=3 by=4294967295")
    ∷ spells (Serve 3) [] (text "op=serve core=3")
    ∷ spells (Receive 3) [] (text "op=receive core=3")
    ∷ spells (Yield 3) [] (text "op=yield line=3")
    ∷ spells (Take 3) [] (text "op=take line=3")
    ∷ spells (Victim 3) [] (text "op=victim core=3")
    ∷ []

-- ---- the theorem

pub record ConversionsTheorem : Type 0 where
  -- "success answers the result's length and leaves the bytes past it": two of them, or none, where the result has the buffer's length
  pub second : Converts Second of_first (lent 463) (Ok 461) (to_second ++ text "..")
  pub first : Converts First of_second (lent 350) (Ok 350) to_first
  pub second_alone : Converts Second greatest_first (lent 54) (Ok 54) greatest_second
  pub first_alone : Converts First greatest_second (lent 49) (Ok 47) (greatest_first ++ text "..")
  -- "A result .. over the buffer, is 14 too", by one byte; "Any refusal leaves the buffer untouched"
  pub second_short : Untouched Second of_first (lent 460) 14
  pub first_short : Untouched First greatest_second (lent 46) 14
  pub no_buffer : Untouched Second least_first [] 14
  -- "A result over 65,536 bytes": 48 + 16 × 4,093 are not over it, and 49 + 16 × 4,093 are, however long the buffer is. The journals have 6 bytes less
  pub most : (old : Bytes) → 65536 ≤ length old
      → Converts Second (least_first ++ serves 4093) old (Ok 65536) ((least_second ++ serves 4093) ++ drop 65536 old)
  pub one_more : (old : Bytes) → Untouched Second (long_first ++ serves 4093) old 14
  -- "32, from 2 to 1 only, for cap other than lines". It comes before 14, "the last check"
  pub other_cap : Refuses First (text "fabric=2 cores=1 lines=2 width=1 lease=10 cap=1\n") 32
  -- "a victim step", whether it answers a line or 26
  pub victim : Refuses First (sharing ++ text "op=victim core=0\n") 32
  pub no_victim : Refuses First (least_second ++ text "op=victim core=0\n" ++ text "op=fence core=0\n") 32
  -- "or a step that answers 30": a drop of an owned copy, a writeback of a shared one
  pub drop_owned : Refuses First (owning ++ text "op=drop core=0 line=0\n" ++ text "op=writeback core=0 line=0\n") 32
  pub writeback_shared : Refuses First (sharing ++ text "op=writeback core=0 line=0\n") 32
  -- 32 is "from 2 to 1 only", whatever the opening and the steps
  pub only_first : unlike Second (opening 1 2 1 10 1) (record { call = Victim 0; given = [] } ∷ []) ≡ false
  -- "then opening sizes, 7", the capacity too; and 32 "after 7"
  pub sizes_first : Refuses Second (text "fabric=1 cores=1 lines=65 width=1 lease=10\n") 7
  pub sizes_second : Refuses First (text "fabric=2 cores=1 lines=1 width=1 lease=0 cap=1\n") 7
  pub capacity : Refuses First (text "fabric=2 cores=1 lines=2 width=1 lease=10 cap=3\n") 7
  pub sizes_before : Refuses First (text "fabric=2 cores=17 lines=2 width=1 lease=10 cap=1\n" ++ text "op=victim core=0\n") 7
  -- "then the first malformed line gives its 10 to 13", wherever it is: before 7 and before 32
  pub late_number : Refuses Second (text "fabric=1 cores=0 lines=1 width=1 lease=10\n" ++ text "op=fence core=0\n" ++ text "op=load core=x line=0\n") 12
  pub late_form : Refuses First (text "fabric=2 cores=0 lines=1 width=1 lease=10 cap=1\n" ++ text "op=evict core=0 line=0\n") 11
  pub late_end : Refuses Second (text "fabric=1 cores=0 lines=1 width=1 lease=10\n" ++ text "op=fence core=0") 10
  pub late_data : Refuses First (text "fabric=2 cores=1 lines=2 width=1 lease=10 cap=1\n" ++ text "op=store core=0 line=0 data=7\n") 13
  pub late_long : Refuses First (least_second ++ text "op=victim core=0\n" ++ replicate 201 97 ++ text "\n") 10
  pub after_thirty : Refuses First (owning ++ text "op=drop core=0 line=0\n" ++ text "op=fence core=00\n") 12
  -- the first of two
  pub number_first : Refuses Second (least_first ++ text "op=fence core=00\n" ++ text "op=drop core=0 line=0\n") 12
  pub form_first : Refuses Second (least_first ++ text "op=drop core=0 line=0\n" ++ text "op=fence core=00\n") 11
  pub opening_first : Refuses Second (text "fabric=1 cores=1 lines=1 width=1 lease=x\n" ++ text "op=drop core=0 line=0\n") 12
  -- 11: the first line of the other form, whatever comes after it
  pub other_first : Refuses First (text "fabric=1 cores=0 lines=1 width=1 lease=10\n" ++ text "op=fence core=00\n") 11
  pub other_second : Refuses Second (text "fabric=2 cores=0 lines=1 width=1 lease=10 cap=1\n" ++ text "op=fence core=00\n") 11
  -- .. also where a number in it is wrong; but 10 comes before 11
  pub wrong_first : Refuses First (text "fabric=1 cores=x lines=1 width=1 lease=10\n") 11
  pub wrong_second : Refuses Second (text "fabric=2 cores=1 lines=1 width=1 lease=10 cap=\n") 11
  pub other_long : Refuses Second (text "fabric=2 cores=" ++ replicate 186 49 ++ text "\n") 10
  -- 11: a step where the first line is due; empty input
  pub no_opening : Refuses Second (text "op=fence core=0\n") 11
  pub empty_first : Refuses First [] 11
  pub empty_second : Refuses Second [] 11
  -- "Input over 65,536 bytes is 14", whatever it says
  pub input : (to : To) (journal old : Bytes) → 65536 < length journal → Untouched to journal old 14
  -- "evict becomes writeback if the core then holds an owned copy, else drop"; "drop and writeback become evict"
  pub into_second : Agree got_second told_second into_second
  pub into_first : Agree got_first told_first into_first
  -- each line has the form that 01 and 02 give it
  pub step_texts : Agree got_line told_line step_texts
  pub first_text : opening_line First (opening 2 3 4 5 3) ≡ text "fabric=1 cores=2 lines=3 width=4 lease=5"
  pub second_text : opening_line Second (opening 2 3 4 5 6) ≡ text "fabric=2 cores=2 lines=3 width=4 lease=5 cap=6"
