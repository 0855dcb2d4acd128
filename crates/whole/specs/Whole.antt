-- What is asked of a whole journal at once: its listing in a lent buffer, what ends it, and the line where it ends. Its tally is in `playing`.
use Rattle.std.specs.Prelude.{ℕ, ◌+◌, ◌-◌, Option, Some, None}
use mathlib.Core.{Path.◌≡◌, List.{List, [], ◌∷◌, ◌++◌}}
use lib.{Dec.leb, ListN.length}
use Rattle.protocol.specs.{Pick.pick, Buffers.Bytes, Run.Entry, declared.Opening.Opening as Sizes}
use Rattle.spelling.specs.Over.{over}
use Rattle.grammar.specs.{Refusal.number, declared.Refusal.{Refusal}}
use Rattle.driver.specs.{Listing.{Ending, ended, stopped, NotOpened}, declared.Progress.{Progress, TheVariants.{Finished, More, Short as TooShort, Unfit}}}
use Rattle.playing.specs.{Listing.{ReadAs, Opens}, Calls.joined, Pieces.Pieces}

-- ---- in a lent buffer

-- of texts one after the other, those that have room in so many bytes, up to the first that has none
unfoldable pub fitting : ℕ → List Bytes → Bytes
fitting room [] = []
fitting room (t ∷ ts) = pick (leb (length t) room) (t ++ fitting (room - length t) ts) []

-- texts put at the start of a buffer: the answer is the offset after them, or that they have no room. Those that have are there, and all else is
-- as it was
pub record PutTexts (old : Bytes) (ts : List Bytes) (new : Bytes) (r : Option ℕ) : Type 0 where
  pub answer : r ≡ pick (leb (length (joined ts)) (length old)) (Some (length (joined ts))) None
  pub bytes : new ≡ over old 0 (fitting (length old) ts)

-- a journal's listing, put at the start of a buffer
pub record Lists (journal old new : Bytes) (r : Option ℕ) : Type 0 where
  pub texts : List Bytes
  pub listing : Pieces journal texts
  pub put : PutTexts old texts new r

-- the answer for how far the last call came that wrote it
abbrev pub end_of : Progress → ℕ → Option ℕ
end_of Finished n = Some n
end_of More n = None
end_of TooShort n = None
end_of Unfit n = None

-- ---- whether it reads

-- the refusal of an ending, if it has one
abbrev pub end_refusal : Ending → Option Refusal
end_refusal ended = None
end_refusal (stopped r) = Some r

-- its number, or 0
abbrev pub number_of : Option Refusal → ℕ
number_of None = 0
number_of (Some r) = number r

-- the number of the last line, or of the one that is refused, where k lines were read before the end
abbrev pub end_line : Ending → ℕ → ℕ
end_line ended k = k
end_line (stopped r) k = k + 1

-- what ends a journal's listing: its own end (none), or a refusal (7, 10 to 14); and the number of a line, counted from 1: the last one's, or that of
-- the one that is refused
pub data Checks (journal : Bytes) : Option Refusal → ℕ → Type 0 where
  opens : {o : Sizes} {gs : List Entry} {e : Ending} → Opens journal o gs e → Checks journal (end_refusal e) (end_line e (1 + length gs))
  fails : {r : Refusal} → NotOpened journal r → Checks journal (Some r) 1

-- the same from the second line on, at an offset
pub record ChecksFrom (journal : Bytes) (form at : ℕ) (r : Option Refusal) (l : ℕ) : Type 0 where
  pub steps : List Entry
  pub ending : Ending
  pub reads : ReadAs journal form at steps ending
  pub refusal : r ≡ end_refusal ending
  pub line : l ≡ end_line ending (1 + length steps)
