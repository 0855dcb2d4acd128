-- The number that the host simulator gets for one step line: 0, 10, 11, 12 or 13. Assumes nothing.
use Rattle.std.specs.Prelude.{ℕ, Result}
use mathlib.Core.{Path.◌≡◌, List.List}
use Rattle.spelling.specs.One.{One}
use Rattle.grammar.specs.{Table.rows_of, Line.{LineOf, number_of}, declared.{Line.Line, Refusal.Refusal}}

-- r is the number of the answer that the bytes s have as a step line of a `fabric=1` journal
pub record Verdict (s : List ℕ) (r : ℕ) : Type 0 where
  pub answer : Result Line Refusal
  pub line : LineOf (rows_of 1) s answer
  pub number : r ≡ number_of answer

-- each line has exactly one number
abbrev pub OneVerdictTheorem : Type 0
OneVerdictTheorem = (s : List ℕ) → One (Verdict s)
