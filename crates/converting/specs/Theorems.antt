-- The theorems about converting a journal, both ways: each journal and buffer has exactly one answer; a journal that converts and its result read as
-- the same opening and the same steps but for their form, and yield the same; and one buffer tells what any other gets.
use Rattle.std.specs.Prelude.{ℕ, Result, Ok, Err}
use mathlib.Core.{Path.◌≡◌, List.List}
use lib.{Dec.leb, ListN.{length, take}}
use Rattle.protocol.specs.{Pick.pick, Buffers.Bytes, Machine.fresh_machine, Run.Entry, declared.Opening.Opening as Sizes}
use Rattle.spelling.specs.{One.One, Over.over}
use Rattle.grammar.specs.declared.Refusal.{Refusal, TheVariants.{TooMuch}}
use Rattle.driver.specs.Listing.{ended}
use Rattle.playing.specs.Listing.{Opens}
use Rattle.convert.specs.{Forms.converted, Conversion.{form_of, form_from, most_bytes, Converts}}
use Rattle.convert.specs.declared.To.{To}
use Rattle.converting.specs.Lists.{Alike}

-- what converting leaves: its answer, and the buffer
pub record Left : Type 0 where
  pub answer : Result ℕ Refusal
  pub buffer : Bytes

-- each journal and buffer has exactly one answer, and one buffer after it
abbrev pub OneConversionTheorem : Type 0
OneConversionTheorem = (to : To) (journal old : Bytes) → One (λ (x : Left). Converts to journal old x.answer x.buffer)

-- a journal and its result, as `steps` reads them: both open the same engine and read to their ends, each in its form; the steps of the result are
-- those of the journal in the other form, and both yield the same
pub record Kept (to : To) (journal result : Bytes) : Type 0 where
  pub o : Sizes
  pub gs : List Entry
  pub opens : Opens journal o gs ended
  pub form : opens.form ≡ form_from to
  pub result_opens : Opens result o (converted to gs (fresh_machine o)) ended
  pub result_form : result_opens.form ≡ form_of to
  pub alike : Alike gs (converted to gs (fresh_machine o)) 1 (fresh_machine o)

-- for every journal that converts, whatever the buffer
abbrev pub KeptTheorem : Type 0
KeptTheorem = (to : To) (journal old : Bytes) (n : ℕ) (new : Bytes) → Converts to journal old (Ok n) new → Kept to journal (take n new)

-- what a conversion answers and leaves with any buffer, by its answer a and its buffer `new` where it was lent one of the longest journal's length:
-- the same refusal, and the buffer as it was; or the same result, the bytes past it as they were; or, where that has no room, 14
abbrev pub AnyBuffer : To → Bytes → Result ℕ Refusal → Bytes → Bytes → Type 0
AnyBuffer to journal (Err r) new other = Converts to journal other (Err r) other
AnyBuffer to journal (Ok n) new other =
    Converts to journal other (pick (leb n (length other)) (Ok n) (Err TooMuch)) (pick (leb n (length other)) (over other 0 (take n new)) other)

abbrev pub AnyBufferTheorem : Type 0
AnyBufferTheorem =
    (to : To) (journal old : Bytes) (a : Result ℕ Refusal) (new other : Bytes) → length old ≡ most_bytes → Converts to journal old a new
    → AnyBuffer to journal a new other
