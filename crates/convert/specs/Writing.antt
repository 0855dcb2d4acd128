-- How a result is written, line by line, into a buffer of its greatest length: what the private functions promise. The public promises rest on
-- `Conversion` alone.
use Rattle.std.specs.{Prelude.{ℕ, ◌≤◌, Option, Some, None, Result, Ok, Err}, Option.ok_or}
use mathlib.Core.{Path.◌≡◌, Bool.{Bool, false}, List.{List, [], ◌∷◌, ◌++◌}}
use lib.{Dec.{leb, eqb}, ListN.{length, take, drop}}
use Rattle.protocol.specs.{Pick.{pick, fails}, Limits.opening_fits, Buffers.Bytes, Copies.is_owned}
use Rattle.protocol.specs.declared.{Opening.Opening as Sizes, Copy.Copy, Which.Which, Answer.{Answer, TheVariants.{Refused as RefusedWith, Done, Commit}}}
use Rattle.protocol.specs.declared.Call.{Call, TheVariants.{Load, Store, Fence, Evict, Drop, Writeback, Advance, Serve, Receive, Yield, Take, Victim}}
use Rattle.protocol.specs.Run.{Entry}
use Rattle.spelling.specs.{Decimal.decimal, Text.text}
use Rattle.grammar.specs.declared.Refusal.{Refusal, TheVariants.{Unfit, TooMuch, Unlike}}
use Rattle.journal.specs.{Journal.NextOf, declared.Item.TheVariants.Opening}
use Rattle.convert.specs.Spelling.{opening_line}
use Rattle.convert.specs.Conversion.{form_from, Malformed, Reads, is_victim, result_of, most_bytes, refusal_of, answer_of}
use Rattle.convert.specs.declared.text.Text.{Text}
use Rattle.convert.specs.declared.To.{To, TheVariants.{First, Second}}
use Rattle.convert.specs.declared.Change.{Change, TheVariants.{Same, ToDrop, ToWriteback, FromDrop, FromWriteback}}

-- ---- one text after another

-- the text t is at the start of the bytes, up to their end; or it is longer than they are, and has no end
pub record Holds (x : Text) (t : Bytes) : Type 0 where
  pub end : x.end ≡ pick (leb (length t) most_bytes) (Some (length t)) None
  pub text : length t ≤ most_bytes → take (length t) x.bytes ≡ t

-- the text t was written behind whatever was written before
abbrev pub Appends : Text → Bytes → Text → Type 0
Appends old t new = (before : Bytes) → Holds old before → Holds new (before ++ t)

-- what a first line has between its form and its end, or ` cap=`
abbrev pub sizes_text : Sizes → Bytes
sizes_text o =
    text " cores=" ++ decimal o.cores ++ text " lines=" ++ decimal o.lines ++ text " width=" ++ decimal o.width ++ text " lease=" ++ decimal o.lease

-- ---- a line in the other form

-- what becomes of the line of a step in form 1
abbrev pub change_to_first : Call → Change
change_to_first (Load c l) = Same
change_to_first (Store g c l) = Same
change_to_first (Fence c) = Same
change_to_first (Evict c l) = Same
change_to_first (Drop c l) = FromDrop
change_to_first (Writeback c l) = FromWriteback
change_to_first (Advance c by) = Same
change_to_first (Serve c) = Same
change_to_first (Receive c) = Same
change_to_first (Yield l) = Same
change_to_first (Take l) = Same
change_to_first (Victim c) = Same

-- .. in form 2, where the core owns the copy, or does not
abbrev pub change_of_evict : Bool → Change
change_of_evict owns = pick owns ToWriteback ToDrop

abbrev pub change_to_second : Call → Bool → Change
change_to_second (Load c l) owns = Same
change_to_second (Store g c l) owns = Same
change_to_second (Fence c) owns = Same
change_to_second (Evict c l) owns = change_of_evict owns
change_to_second (Drop c l) owns = Same
change_to_second (Writeback c l) owns = Same
change_to_second (Advance c by) owns = Same
change_to_second (Serve c) owns = Same
change_to_second (Receive c) owns = Same
change_to_second (Yield l) owns = Same
change_to_second (Take l) owns = Same
change_to_second (Victim c) owns = Same

abbrev pub change_of : To → Call → Bool → Change
change_of First call owns = change_to_first call
change_of Second call owns = change_to_second call owns

-- its new kind, and how many bytes the old one has
abbrev pub kind_of : Change → Bytes
kind_of Same = []
kind_of ToDrop = text "op=drop"
kind_of ToWriteback = text "op=writeback"
kind_of FromDrop = text "op=evict"
kind_of FromWriteback = text "op=evict"

abbrev pub skip_of : Change → ℕ
skip_of Same = 0
skip_of ToDrop = 8
skip_of ToWriteback = 8
skip_of FromDrop = 7
skip_of FromWriteback = 12

-- the line in the other form: the new kind, and the line from its keys on
abbrev pub changed : Change → Bytes → Bytes
changed x line = kind_of x ++ drop (skip_of x) line

-- the copy is owned, where none of 3 to 6 refuses the step
abbrev pub owns_with : Option ℕ → Copy → Bool
owns_with None x = is_owned x
owns_with (Some n) x = false

-- the answer is this refusal
abbrev pub refuses : ℕ → Answer → Bool
refuses n (RefusedWith k) = eqb k n
refuses n (Done d) = false
refuses n (Commit c t k) = false

-- 32 of a step by its line alone, from 2 to 1
abbrev pub victim_refusal : To → Which → Option Refusal
victim_refusal First w = pick (is_victim w) (Some Unlike) None
victim_refusal Second w = None

-- 32 of a step by what it answers, from 2 to 1
abbrev pub unlike_answer : To → Answer → Bool
unlike_answer First a = refuses 30 a
unlike_answer Second a = false

-- 7 and 32 of an opening
abbrev pub other_cap : To → Sizes → Bool
other_cap First o = fails (eqb o.cap o.lines)
other_cap Second o = false

unfoldable pub opening_refusal : To → Sizes → Option Refusal
opening_refusal to o = pick (fails (opening_fits o)) (Some Unfit) (pick (other_cap to o) (Some Unlike) None)

-- ---- the whole result

-- the answer, with room for the longest journal, and the result at the start of the buffer where there is one
pub data Writes (to : To) (journal buffer : Bytes) : Result ℕ Refusal → Type 0 where
  malformed : {r : Refusal} → Malformed (form_from to) journal r → Writes to journal buffer (Err r)
  reads :
      {o : Sizes} {gs : List Entry} → Reads (form_from to) journal o gs
      → (refusal_of to o gs most_bytes ≡ None → take (length (result_of to o gs)) buffer ≡ result_of to o gs)
      → Writes to journal buffer (answer_of to o gs most_bytes)

-- the first line of a journal of the other form opens, and the first line of the result, with its newline, is written; the steps are from `from` on
pub record FirstWritten (to : To) (journal : Bytes) (o : Sizes) (from : ℕ) (x : Text) : Type 0 where
  pub first : NextOf journal 0 0 (Ok (Some (Opening (form_from to) o from)))
  pub text : Holds x (opening_line to o ++ (10 ∷ []))

-- the last answer: 7 or 32, 14 where the result has no room, or its length
abbrev pub last_answer : Option Refusal → Option ℕ → Result ℕ Refusal
last_answer None end = ok_or end TooMuch
last_answer (Some r) end = Err r
