-- The numbers that C gets for a whole journal, and what is left in the buffers that it lent: by the definitions of the programs.
use Rattle.std.specs.Prelude.{ℕ, ◌≡◌, Option, Some, None, Result, Ok, Err}
use Rattle.protocol.specs.{Buffers.Bytes, declared.Counts.Counts}
use Rattle.spelling.specs.{One.One, Over.PutAt}
use Rattle.listing.specs.Record.{tally_text}
use Rattle.playing.specs.Listing.{Tally}
use Rattle.grammar.specs.{Refusal.number, declared.Refusal.{Refusal}}
use Rattle.whole.specs.Whole.{Lists, Checks, number_of as number_at_end}
use Rattle.convert.specs.{Conversion.Converts, declared.To.To}

-- ---- whether a journal reads

-- r is 0 where a journal reads whole, and otherwise the number of the refusal that ends its listing; l is the number of a line, as `Checks` has it
pub record ChecksFor (journal : Bytes) (r l : ℕ) : Type 0 where
  pub refusal : Option Refusal
  pub checks : Checks journal refusal l
  pub number : r ≡ number_at_end refusal

-- ---- a text

-- where a text ends, or SIZE_MAX where it has no room
abbrev pub size_of : Option ℕ → ℕ
size_of (Some n) = n
size_of None = 18446744073709551615

-- a journal's listing, put at the start of a buffer that was `old` and is now `new`
pub record ListsFor (journal old new : Bytes) (r : ℕ) : Type 0 where
  pub put : Option ℕ
  pub lists : Lists journal old new put
  pub size : r ≡ size_of put

-- the line of a journal's tally, put there
pub record TalliesFor (journal old new : Bytes) (r : ℕ) : Type 0 where
  pub put : Option ℕ
  pub counts : Counts
  pub tally : Tally journal counts
  pub text : PutAt old 0 (tally_text counts) new put
  pub number : r ≡ size_of put

-- ---- a conversion

-- 0, or the number of a refusal
abbrev pub number_of : Result ℕ Refusal → ℕ
number_of (Ok n) = 0
number_of (Err r) = number r

-- the result's length; where there is no result, what was there before
abbrev pub length_or : Result ℕ Refusal → ℕ → ℕ
length_or (Ok n) k = n
length_or (Err r) k = k

-- a journal in the other form, put at the start of a buffer, and its length in a word that was k and is now l
pub record ConvertsFor (to : To) (journal old new : Bytes) (k l r : ℕ) : Type 0 where
  pub converted : Result ℕ Refusal
  pub converts : Converts to journal old converted new
  pub number : r ≡ number_of converted
  pub length : l ≡ length_or converted k

-- ---- one answer

-- what a call leaves: the number that it returns, and the buffer
pub record Left : Type 0 where
  pub number : ℕ
  pub buffer : Bytes

-- what a call of `fabric_check` leaves: the number that it returns, and that of the line
pub record LeftWithLine : Type 0 where
  pub number : ℕ
  pub line : ℕ

-- each journal has exactly one answer of `fabric_check`
abbrev pub OneCheckForCTheorem : Type 0
OneCheckForCTheorem = (journal : Bytes) → One (λ (x : LeftWithLine). ChecksFor journal x.number x.line)

-- each journal and buffer has exactly one answer of `fabric_list` and one buffer after it, and so for `fabric_tally`
abbrev pub OneListingForCTheorem : Type 0
OneListingForCTheorem = (journal old : Bytes) → One (λ (x : Left). ListsFor journal old x.buffer x.number)

abbrev pub OneTallyForCTheorem : Type 0
OneTallyForCTheorem = (journal old : Bytes) → One (λ (x : Left). TalliesFor journal old x.buffer x.number)

-- what a conversion leaves: the word for the length, too
pub record LeftWithLength : Type 0 where
  pub number : ℕ
  pub buffer : Bytes
  pub length : ℕ

-- each journal, buffer and word has exactly one answer of a conversion, and one buffer and word after it
abbrev pub OneConversionForCTheorem : Type 0
OneConversionForCTheorem =
    (to : To) (journal old : Bytes) (k : ℕ) → One (λ (x : LeftWithLength). ConvertsFor to journal old x.buffer k x.length x.number)
