-- The listing of a journal (01, "Journal and driver") and its tally (02, One). A journal reads as an opening and a list of steps; the steps are
-- run on the fresh engine. The listing is the text of the run's records and the end line, whose counts are those of the records; the tally is
-- these counts.
use Rattle.std.specs.Prelude.{ℕ, ◌+◌, Some, Ok}
use mathlib.Core.{Path.◌≡◌, List.{List, ◌++◌}}
use Rattle.protocol.specs.{Buffers.Bytes, Machine.{Machine, fresh_machine}, Refusals.open_refusal, Step.open_reply, Run.{Entry, place, run}}
use Rattle.protocol.specs.{Counts.{nothing_met, sum, tally}, declared.{Opening.Opening as Sizes, Counts.Counts}}
use Rattle.grammar.specs.declared.Refusal.{Refusal}
use Rattle.journal.specs.{Journal.NextOf, declared.Item.TheVariants.Opening}
use Rattle.listing.specs.Record.{record_text}
use Rattle.driver.specs.Listing.{Ending, Between, EndsAt, lines, last_lines, NotOpened, not_opened}

-- the steps that a journal of some form spells from an offset on, and how it ends
pub record ReadAs (journal : Bytes) (form at : ℕ) (gs : List Entry) (e : Ending) : Type 0 where
  pub to : ℕ
  pub steps : Between journal form at gs to
  pub ends : EndsAt journal form to e

-- the listing from a machine on, after k was met: the records of the steps, and the last lines
abbrev pub listing_from : Machine → Counts → List Entry → Ending → Bytes
listing_from m k gs e = lines (run gs (k.steps + 1) m).records ++ last_lines (sum k (tally (run gs (k.steps + 1) m).records)) e

-- the first line of a journal opens an engine of these sizes, and the other lines spell these steps
pub record Opens (journal : Bytes) (o : Sizes) (gs : List Entry) (e : Ending) : Type 0 where
  pub form : ℕ
  pub next : ℕ
  pub first : NextOf journal 0 0 (Ok (Some (Opening form o next)))
  pub accepted : open_refusal o ≡ 0
  pub reads : ReadAs journal form next gs e

-- THE LISTING of a journal
pub data Listing (journal : Bytes) : Bytes → Type 0 where
  -- the first line opens an engine, and the steps run on it
  opens :
      {o : Sizes} {gs : List Entry} {e : Ending} → Opens journal o gs e
      → Listing journal (record_text (place 0) (open_reply o) ++ listing_from (fresh_machine o) nothing_met gs e)
  -- the first line opens none
  fails : {r : Refusal} → NotOpened journal r → Listing journal (not_opened r)

-- THE TALLY of a journal: it "runs its input as `steps` does, stops where that stops". The line that ends a run is no record, so it adds nothing;
-- where no engine is opened there is none
pub data Tally (journal : Bytes) : Counts → Type 0 where
  counted : {o : Sizes} {gs : List Entry} {e : Ending} → Opens journal o gs e → Tally journal (tally (run gs 1 (fresh_machine o)).records)
  nothing : {r : Refusal} → NotOpened journal r → Tally journal nothing_met
