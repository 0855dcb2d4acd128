-- The theorems about the driver: what its calls write is the listing and what they count the tally, everything has exactly one answer, and
-- with room the calls advance.
use Rattle.std.specs.Prelude.{ℕ, ◌≤◌, ◌<◌, length}
use mathlib.Core.{Path.◌≡◌, Bool.true, List.List}
use Rattle.protocol.specs.{Buffers.Bytes, Run.Entry, declared.Counts.Counts}
use Rattle.driver.specs.{Listing.Ending, Play.{resumable, Plays, Starts}, declared.Checkpoint.Checkpoint}
use Rattle.driver.specs.declared.{Progress.{Progress, TheVariants.{Finished, More}}, Played.Played}
use Rattle.playing.specs.{Listing.{ReadAs, Listing, Tally}, Calls.{joined, Playing}, Pieces.Pieces}

-- ---- the listing

-- the steps that a journal spells from an offset on and how it ends, and no others
pub record OneReading (journal : Bytes) (form at : ℕ) : Type 0 where
  pub steps : List Entry
  pub ending : Ending
  pub holds : ReadAs journal form at steps ending
  pub only : (gs : List Entry) (e : Ending) → ReadAs journal form at gs e → (gs ≡ steps) × (e ≡ ending)

-- a journal whose first line was read reads in exactly one way from each offset
abbrev pub OneReadingTheorem : Type 0
OneReadingTheorem = (journal : Bytes) (form at : ℕ) → (form ≡ 0 → ⊥) → OneReading journal form at

-- a journal's listing, and no other
pub record OneListing (journal : Bytes) : Type 0 where
  pub text : Bytes
  pub holds : Listing journal text
  pub only : (t : Bytes) → Listing journal t → t ≡ text

-- every journal has exactly one listing
abbrev pub OneListingTheorem : Type 0
OneListingTheorem = (journal : Bytes) → OneListing journal

-- the pieces of a journal's listing, put together, are its listing
abbrev pub PiecesTheorem : Type 0
PiecesTheorem = (journal : Bytes) (texts : List Bytes) → Pieces journal texts → Listing journal (joined texts)

-- what `start` and `play` write for a journal, put together, is its listing, and what they counted is its tally
abbrev pub WholeTheorem : Type 0
WholeTheorem = (journal : Bytes) (texts : List Bytes) (counts : Counts) → Playing journal texts counts → Listing journal (joined texts) × Tally journal counts

-- ---- the tally

-- a journal's tally, and no other
pub record OneTally (journal : Bytes) : Type 0 where
  pub counts : Counts
  pub holds : Tally journal counts
  pub only : (k : Counts) → Tally journal k → k ≡ counts

-- every journal has exactly one tally
abbrev pub OneTallyTheorem : Type 0
OneTallyTheorem = (journal : Bytes) → OneTally journal

-- ---- one answer

-- what a call of `start` leaves: the value that it returns, and the output
pub record Started : Type 0 where
  pub played : Played
  pub out : Bytes

-- what a call of `play` leaves: the value that it returns, both buffers and the output
pub record Left : Type 0 where
  pub played : Played
  pub private : Bytes
  pub shared : Bytes
  pub out : Bytes

-- for a journal and an output, no two answers of `start` meet its contract
abbrev pub StartOneTheorem : Type 0
StartOneTheorem =
    (journal old : Bytes) (a b : Started) → Starts journal old a.out a.played → Starts journal old b.out b.played → a ≡ b

-- for a journal, a checkpoint, the buffers p and q and an output, no two answers of `play` meet its contract
abbrev pub PlayOneTheorem : Type 0
PlayOneTheorem =
    (journal : Bytes) (from : Checkpoint) (p q old : Bytes) (a b : Left)
    → Plays journal from p q old a.private a.shared a.out a.played
    → Plays journal from p q old b.private b.shared b.out b.played → a ≡ b

-- ---- with room the calls advance

-- what is written in one piece has at most so many bytes: a line's numbers have twenty digits at most, and its data are 64 bytes at most
abbrev pub piece_bytes : ℕ
piece_bytes = 246

-- the whole listing is written, or there is a checkpoint that `play` goes on from
pub data Begun (journal : Bytes) (there : Checkpoint) : Progress → Type 0 where
  listed : Begun journal there Finished
  running : resumable (length journal) there ≡ true → Begun journal there More

-- a call of `start` with room for a piece has one of them
abbrev pub StartAdvancesTheorem : Type 0
StartAdvancesTheorem =
    (journal old new : Bytes) (r : Played) → Starts journal old new r → piece_bytes ≤ length old → Begun journal r.checkpoint r.progress

-- the listing's last line is written, or there is a checkpoint further on in the journal that `play` goes on from
pub data Onward (journal : Bytes) (from there : Checkpoint) : Progress → Type 0 where
  ends : Onward journal from there Finished
  further : from.at < there.at → resumable (length journal) there ≡ true → Onward journal from there More

-- a call of `play` from a checkpoint of a run, with room for a piece, has one of them: so the calls come to the listing's end
abbrev pub PlayAdvancesTheorem : Type 0
PlayAdvancesTheorem =
    (journal : Bytes) (from : Checkpoint) (p q old p' q' new : Bytes) (r : Played) → Plays journal from p q old p' q' new r
    → resumable (length journal) from ≡ true → piece_bytes ≤ length old → Onward journal from r.checkpoint r.progress
