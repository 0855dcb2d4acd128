-- What the listing of a journal is made of: 01, "Journal and driver". The steps that a journal spells, the text of their records, and the
-- last lines, whose counts are those of the records.
use Rattle.std.specs.Prelude.{ℕ, ◌-◌}
use mathlib.Core.{Path.◌≡◌, List.{List, [], ◌∷◌, ◌++◌}}
use Rattle.protocol.specs.{Buffers.{Bytes, part}, Refusals.open_refusal, Step.refused, Run.{Entry, Record, place}, Counts.{one_of, sum}}
use Rattle.protocol.specs.declared.{Opening.Opening as Sizes, Call.Call, Counts.Counts, Class.TheVariants.Refused as ARefusal}
use Rattle.std.specs.Prelude.{Some, None, Ok, Err}
use Rattle.grammar.specs.{Refusal.number, declared.Refusal.{Refusal, TheVariants.Unfit}}
use Rattle.journal.specs.{Journal.NextOf, declared.Item.TheVariants.{Opening, Step}}
use Rattle.listing.specs.Record.{record_text, end_text}

-- ---- reading

-- how a journal ends: at the end of its input, or at a line that is refused with a number of 10 to 14
pub data Ending : Type 0 where
  ended : Ending
  stopped : Refusal → Ending

-- a step of a journal: its call, given the digits of its `data=`, which lie from one offset up to another; a step without data is given nothing
abbrev pub entry_at : Bytes → Call → ℕ → ℕ → Entry
entry_at journal call start end = record { call = call; given = part journal start (end - start) }

-- the lines of a journal of some form from one offset up to another spell these steps, one after the other
pub data Between (journal : Bytes) (form : ℕ) : ℕ → List Entry → ℕ → Type 0 where
  no_line : {at : ℕ} → Between journal form at [] at
  a_line :
      {at to : ℕ} {call : Call} {start end next : ℕ} {gs : List Entry} → NextOf journal at form (Ok (Some (Step call start end next)))
      → Between journal form next gs to → Between journal form at (entry_at journal call start end ∷ gs) to

-- no step is at an offset: the journal ends there
pub data EndsAt (journal : Bytes) (form at : ℕ) : Ending → Type 0 where
  at_end : NextOf journal at form (Ok None) → EndsAt journal form at ended
  at_refusal : {r : Refusal} → NextOf journal at form (Err r) → EndsAt journal form at (stopped r)

-- ---- the text

-- the lines of records, in their order
unfoldable pub lines : List Record → Bytes
lines [] = []
lines (r ∷ rs) = record_text r.place r.reply ++ lines rs

-- "Numbers 7 and 10 to 14 end the run, after `refused=` and the end line": k counts that line, and its place is the last
abbrev pub stop_lines : Counts → Refusal → Bytes
stop_lines k r = record_text (place k.steps) (refused (number r)) ++ end_text k

-- "The end line counts step lines met, the one that ends the run too": after the steps counted in k
abbrev pub last_lines : Counts → Ending → Bytes
last_lines k ended = end_text k
last_lines k (stopped r) = stop_lines (sum k (one_of 1 ARefusal)) r

-- no engine is opened: the first line's sizes, lease or capacity lie outside the limits (7); or the first line is refused (10 to 12), the input is
-- empty (11) or over 65,536 bytes (14)
pub data NotOpened (journal : Bytes) : Refusal → Type 0 where
  outside : {form : ℕ} {o : Sizes} {next : ℕ} → NextOf journal 0 0 (Ok (Some (Opening form o next))) → (open_refusal o ≡ 0 → ⊥) → NotOpened journal Unfit
  refused_first : {r : Refusal} → NextOf journal 0 0 (Err r) → NotOpened journal r

-- the whole listing then: "n=0, end=0"
abbrev pub not_opened : Refusal → Bytes
not_opened r = stop_lines (one_of 0 ARefusal) r
