-- What a journal line is: 01's step or opening that it spells, or its refusal 10, 11, 12 or 13. Assumes nothing.
use Rattle.std.specs.Prelude.{ℕ, ◌≤◌, ◌<◌, ◌-◌, length, get_or, Result, Ok, Err}
use mathlib.Core.{Path.◌≡◌, List.List}
use Rattle.spelling.specs.Hex.{hex}
use Rattle.grammar.specs.{Form.{Has, Each, RightNumber, RightData, Given, spell}, Table.{Says, opens, calls, Row, row_at}}
use Rattle.grammar.specs.Refusal.{number}
use Rattle.grammar.specs.declared.{Line.{Line, TheVariants.{Opening, Step}}, Refusal.{Refusal, TheVariants.{TooLong, NoForm, NotNumber, NotData}}}

-- what a line says, as its answer; data are from start to end
abbrev pub said : Says → ℕ → ℕ → Line
said (opens form sizes) start end = Opening form sizes
said (calls call) start end = Step call start end

-- the line s has the form of the row at k, with the values vs
pub record Matches (rows : List Row) (s : List ℕ) (k : ℕ) (vs : List (List ℕ)) : Type 0 where
  pub listed : k < length rows
  pub has : Has s (row_at rows k).form vs

-- the values vs of a line of the row at k are right: where an N is, and where an H is
abbrev pub NumbersRight : List Row → ℕ → List (List ℕ) → Type 0
NumbersRight rows k vs = Each RightNumber (row_at rows k).form vs

abbrev pub DataRight : List Row → ℕ → List (List ℕ) → Type 0
DataRight rows k vs = Each RightData (row_at rows k).form vs

-- the line s spells what a row says of these numbers and bytes; data are at the line's end
pub record Spelt (rows : List Row) (s : List ℕ) (a : Line) : Type 0 where
  pub k : ℕ
  pub listed : k < length rows
  pub numbers : List ℕ
  pub bytes : List ℕ
  pub given : Given (row_at rows k).form numbers bytes
  pub same : s ≡ spell (row_at rows k).form numbers bytes
  pub answer : a ≡ said ((row_at rows k).says (λ i. get_or numbers i 0)) (length s - length (hex bytes)) (length s)

-- THE ANSWER of a line by the rows of a form: the refusals in 01's order, each over the whole line
pub data LineOf (rows : List Row) (s : List ℕ) : Result Line Refusal → Type 0 where
  -- 10 line over 200 bytes, newline not counted
  too_long : 200 < length s → LineOf rows s (Err TooLong)
  -- 11 not a form of the grammar
  no_form : length s ≤ 200 → ((k : ℕ) (vs : List (List ℕ)) → Matches rows s k vs → ⊥) → LineOf rows s (Err NoForm)
  -- 12 a form, with a value that is no number where an N is
  wrong_number : (k : ℕ) (vs : List (List ℕ)) → length s ≤ 200 → Matches rows s k vs → (NumbersRight rows k vs → ⊥) → LineOf rows s (Err NotNumber)
  -- 13 a form whose numbers are right, with a value that is no data where an H is
  wrong_data :
      (k : ℕ) (vs : List (List ℕ)) → length s ≤ 200 → Matches rows s k vs → NumbersRight rows k vs → (DataRight rows k vs → ⊥)
      → LineOf rows s (Err NotData)
  -- no refusal: the line spells the answer
  spelt : {a : Line} → length s ≤ 200 → Spelt rows s a → LineOf rows s (Ok a)

-- 01's number of an answer: that of what refuses the line, by the numbers of such refusals, and 0 for a line that is read
abbrev pub number_by : {R : Type 0} → (R → ℕ) → Result Line R → ℕ
number_by n (Ok line) = 0
number_by n (Err refusal) = n refusal

-- the same of the grammar's own answer, whose refusals have 01's numbers
abbrev pub number_of : Result Line Refusal → ℕ
number_of a = number_by number a
