-- What is proved of the grammar. Assumes nothing.
use Rattle.std.specs.Prelude.{ℕ, List}
use Rattle.spelling.specs.One.{One}
use Rattle.grammar.specs.{Table.rows_of, Line.LineOf}

-- each line has exactly one answer, whatever form the journal has
abbrev pub OneAnswerTheorem : Type 0
OneAnswerTheorem = (form : ℕ) (s : List ℕ) → One (LineOf (rows_of form) s)
