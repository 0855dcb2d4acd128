-- The parts of the driver's loop: what is due at an offset, the bytes beside an answer, how far a call came.
use Rattle.std.specs.Prelude.{ℕ, ◌+◌, ◌-◌, ◌≤◌, ◌<◌}
use mathlib.Core.{Path.◌≡◌, Bool.{Bool, true, false}}
use Rattle.std.specs.Prelude.{length}
use Rattle.protocol.specs.{Pick.pick, Buffers.{Bytes, part, copy_start}, About.about, Given.{given_as, bytes_given}}
use Rattle.protocol.specs.{Refusals.{given_refusal, call_refusal}, Run.place, Step.{meaning, act_bytes}}
use Rattle.protocol.specs.declared.{Opening.Opening as Sizes, Call.Call}
use Rattle.protocol.specs.declared.{Act.{Act, TheVariants.{Load, Store, Fence, Advance, Transfer}}, Answer.Answer}
use Rattle.spelling.specs.Over.{PutAt}
use Rattle.std.specs.Prelude.{Option, Some, None, Ok}
use Rattle.std.specs.Option.{option_or}
use Rattle.grammar.specs.declared.Refusal.{Refusal}
use Rattle.journal.specs.{Journal.NextOf, declared.Item.TheVariants.Step as StepLine}
use Rattle.refusals.specs.Input.{applies}
use Rattle.buffers.specs.Moves.{is_there}
use Rattle.listing.specs.Record.{record_as}
use Rattle.tables.specs.{Spans.span_of, declared.Span.Span}
use Rattle.driver.specs.{Listing.{Ending, ended, stopped, EndsAt}, Play.{first_checkpoint, unopened}, declared.Checkpoint.Checkpoint}
use Rattle.driver.specs.declared.{Played.Played, Due.{Due, TheVariants.{Step, Last as AtLast}}}
use Rattle.driver.specs.declared.Progress.{Progress, TheVariants.{Finished, More, Short as TooShort}}

-- ---- what is due

-- how a journal ends: with its input, or at a line that is refused
abbrev pub ending_of : Option Refusal → Ending
ending_of None = ended
ending_of (Some r) = stopped r

-- a step at a checkpoint: its digits lie in the journal and are right, and r is the first of 1 to 6 that applies, where `base` is 1 or 2 if one does
pub record StepDue (journal : Bytes) (s : Checkpoint) (base : Option ℕ) (call : Call) (r : Option ℕ) (start end next : ℕ) : Type 0 where
  pub line : NextOf journal s.at s.form (Ok (Some (StepLine call start end next)))
  pub order : start ≤ end
  pub ends : end ≤ length journal
  pub right : given_refusal (given_as (about call).act) (part journal start (end - start)) ≡ 0
  pub number : r ≡ option_or base (applies (call_refusal call s.state.opening (length (bytes_given call (part journal start (end - start))))))
  pub forward : s.at < next
  pub inside : next ≤ length journal

-- what is due at a checkpoint: a step, or the journal's end
pub data DueAt (journal : Bytes) (s : Checkpoint) (base : Option ℕ) : Due → Type 0 where
  a_step : {call : Call} {r : Option ℕ} {start end next : ℕ} → StepDue journal s base call r start end next → DueAt journal s base (Step call r start end next)
  the_end : {w : Option Refusal} → EndsAt journal s.form s.at (ending_of w) → DueAt journal s base (AtLast w)

-- ---- the line of an answer

-- the call stores
abbrev pub is_store : Act → Bool
is_store Load = false
is_store (Store g) = true
is_store Fence = false
is_store (Advance n) = false
is_store Transfer = false

-- where the bytes beside an answer lie in the private buffer, those of a store's commit apart
abbrev pub beside_at : Answer → Sizes → ℕ → ℕ → Span
beside_at a o c l = span_of a (pick (is_there o c l) (copy_start o c l) 0) o.width

abbrev pub beside : Answer → Sizes → Bytes → ℕ → ℕ → Bytes
beside a o p c l = part p (beside_at a o c l).start (beside_at a o c l).count

-- the line of an answer at place n: a store's data are those given
abbrev pub answer_line : ℕ → Act → Answer → Bytes → Sizes → Bytes → ℕ → ℕ → Bytes
answer_line n t a given o p c l = record_as (given_as t) (place n) (meaning a (act_bytes t given (beside a o p c l)))

-- that line put at an offset of a lent output
abbrev pub PutsAnswer : Bytes → ℕ → ℕ → Act → Answer → Bytes → Sizes → Bytes → ℕ → ℕ → Bytes → Option ℕ → Type 0
PutsAnswer out at n t a given o p c l out' r = PutAt out at (answer_line n t a given o p c l) out' r

-- those beside lie in a buffer of n bytes
abbrev pub BesideInside : Answer → Sizes → ℕ → ℕ → ℕ → Type 0
BesideInside a o c l n = (beside_at a o c l).start + (beside_at a o c l).count ≤ n

-- ---- how far a call came

-- the next piece was put, or had no room
abbrev pub progress_by : Option ℕ → Progress
progress_by (Some e) = Finished
progress_by None = More

abbrev pub written_by : Option ℕ → ℕ → ℕ
written_by (Some e) used = e
written_by None used = used

abbrev pub played_by : Option ℕ → ℕ → Checkpoint → Played
played_by put used s = record { progress = progress_by put; written = written_by put used; checkpoint = s }

-- the text t was put at the start of the output, or had no room there, and r says how far the call came
pub record Puts (t : Bytes) (by : Option ℕ → Played) (old new : Bytes) (r : Played) : Type 0 where
  pub put : Option ℕ
  pub text : PutAt old 0 t new put
  pub played : r ≡ by put

-- the listing of a journal that opens no engine
abbrev pub refused_by : Option ℕ → Played
refused_by (Some e) = record { progress = Finished; written = e; checkpoint = unopened }
refused_by None = record { progress = TooShort; written = 0; checkpoint = unopened }

-- the line of an opening after which a run goes on at an offset of a journal of some form
abbrev pub opened_by : ℕ → ℕ → Sizes → Option ℕ → Played
opened_by at form o (Some e) = record { progress = More; written = e; checkpoint = first_checkpoint at form o }
opened_by at form o None = record { progress = TooShort; written = 0; checkpoint = unopened }
