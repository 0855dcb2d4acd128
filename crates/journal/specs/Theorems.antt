-- What is proved of reading a journal: each offset has exactly one answer, and no byte is passed over. Assumes nothing.
use Rattle.std.specs.Prelude.{ℕ, ◌+◌, ◌≤◌}
use mathlib.Core.{Path.◌≡◌, Bool.true, List.{List, [], ◌∷◌, ◌++◌}}
use Rattle.std.specs.Prelude.{length, take}
use Rattle.spelling.specs.{Bytes.Without, One.One}
use Rattle.journal.specs.{Journal.{Next, NextOf, goes_on, offset_after, form_after}}

-- each offset of a journal has exactly one answer
abbrev pub OneNextTheorem : Type 0
OneNextTheorem = (j : List ℕ) (at form : ℕ) → One (NextOf j at form)

-- the offset and the form that reading k lines on from the start leads to
pub data Reached (j : List ℕ) : ℕ → ℕ → ℕ → Type 0 where
  start : Reached j 0 0 0
  on : {k at form : ℕ} {n : Next} → Reached j k at form → NextOf j at form n → goes_on n ≡ true → Reached j (k + 1) (offset_after at n) (form_after form n)

-- the lines of a journal joined, each with its newline (10)
unfoldable pub joined : List (List ℕ) → List ℕ
joined [] = []
joined (l ∷ ls) = l ++ (10 ∷ joined ls)

-- none of the lines has a newline in it
abbrev pub Lines : List (List ℕ) → Type 0
Lines [] = Unit
Lines (l ∷ ls) = Without 10 l × Lines ls

-- the bytes before an offset are k whole lines; at the journal's end they are the journal
pub record Passed (j : List ℕ) (k at : ℕ) : Type 0 where
  pub lines : List (List ℕ)
  pub count : length lines ≡ k
  pub clean : Lines lines
  pub bytes : take at j ≡ joined lines
  pub whole : length j ≤ at → j ≡ joined lines

-- NO BYTE IS PASSED OVER: the lines that were read, joined, are the bytes up to the offset reached
abbrev pub PassedTheorem : Type 0
PassedTheorem = (j : List ℕ) (k at form : ℕ) → Reached j k at form → Passed j k at
