-- The listing of a journal in the pieces that it is written in.
use Rattle.std.specs.Prelude.{◌+◌, List, [], ◌∷◌, ◌++◌}
use Rattle.protocol.specs.{Buffers.Bytes, Machine.{Machine, fresh_machine}, Step.open_reply, Run.{Entry, Record, place, run}}
use Rattle.protocol.specs.{Counts.{nothing_met, sum, tally}, declared.{Opening.Opening as Sizes, Counts.Counts}}
use Rattle.listing.specs.Record.{record_text}
use Rattle.grammar.specs.declared.Refusal.{Refusal}
use Rattle.driver.specs.Listing.{Ending, last_lines, NotOpened, not_opened}
use Rattle.playing.specs.Listing.{Opens}

-- the lines of records, one by one
unfoldable pub lines_of : List Record → List Bytes
lines_of [] = []
lines_of (r ∷ rs) = record_text r.place r.reply ∷ lines_of rs

-- the pieces of the listing from a machine on, after k was met: the records' lines, and the last lines, which stand together
abbrev pub pieces_from : Machine → Counts → List Entry → Ending → List Bytes
pieces_from m k gs e = lines_of (run gs (k.steps + 1) m).records ++ (last_lines (sum k (tally (run gs (k.steps + 1) m).records)) e ∷ [])

-- THE LISTING of a journal in the pieces that it is written in: each a line, but for the line of the refusal that ends a run, which stands
-- together with the end line
pub data Pieces (journal : Bytes) : List Bytes → Type 0 where
  opens :
      {o : Sizes} {gs : List Entry} {e : Ending} → Opens journal o gs e
      → Pieces journal (record_text (place 0) (open_reply o) ∷ pieces_from (fresh_machine o) nothing_met gs e)
  fails : {r : Refusal} → NotOpened journal r → Pieces journal (not_opened r ∷ [])
