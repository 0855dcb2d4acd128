-- A whole journal read: how many lines it has up to its end, or up to the first that is refused. Assumes nothing.
use Rattle.std.specs.Prelude.{ℕ}
use mathlib.Core.{Path.◌≡◌, Bool.false, List.List}
use Rattle.journal.specs.{Journal.{NextOf, goes_on}, Theorems.Reached}
use Rattle.lines.specs.declared.LineCount.{LineCount}

-- so many lines were read on from the start, to an offset where reading does not go on, and what is there
pub record CountsLines (j : List ℕ) (t : LineCount) : Type 0 where
  pub at : ℕ
  pub form : ℕ
  pub reached : Reached j t.lines at form
  pub found : NextOf j at form t.last
  pub stops : goes_on t.last ≡ false
