-- What is at an offset of a journal: 01's next line, the end, or a refusal 10 to 14. Assumes nothing.
use Rattle.std.specs.Prelude.{ℕ, ◌+◌, ◌≤◌, ◌<◌}
use mathlib.Core.{Path.◌≡◌, Bool.{Bool, true, false}, List.{List, ◌∷◌, ◌++◌}}
use Rattle.std.specs.Prelude.{length, drop, Option, Some, None, Result, Ok, Err}
use Rattle.spelling.specs.Bytes.{Without}
use Rattle.grammar.specs.{Table.rows_of, Line.LineOf, declared.Line.{Line, TheVariants.{Opening as OpeningLine, Step as StepLine}}}
use Rattle.grammar.specs.declared.Refusal.{Refusal, TheVariants.{TooLong, NoForm, TooMuch}}
use Rattle.journal.specs.declared.{Item.{Item, TheVariants.{Opening, Step}}, Read.Read, Reader.Reader, Step.Step as Reading}

-- what is at an offset: a line, the end of the input, or a refusal
abbrev pub Next : Type 0
Next = Result (Option Item) Refusal

-- a line's answer, where the line is at an offset of the journal and the next one at `next`
abbrev pub in_journal : Result Line Refusal → ℕ → ℕ → Next
in_journal (Ok (OpeningLine form sizes)) at next = Ok (Some (Opening form sizes next))
in_journal (Ok (StepLine call start end)) at next = Ok (Some (Step call (at + start) (at + end) next))
in_journal (Err refusal) at next = Err refusal

-- the line l is at an offset of the journal, ended by a newline; the next line is at `next`
pub record LineAt (journal : List ℕ) (at : ℕ) (l : List ℕ) (next : ℕ) : Type 0 where
  pub clean : Without 10 l
  pub whole : drop at journal ≡ l ++ (10 ∷ drop next journal)
  pub after : next ≡ at + length l + 1

-- THE ANSWER at an offset of a journal of some form, where in form 0 the first line is due
pub data NextOf (journal : List ℕ) (at form : ℕ) : Next → Type 0 where
  -- 14 journal over 65,536 bytes, before anything else
  too_much : 65536 < length journal → NextOf journal at form (Err TooMuch)
  -- 11 nothing where the first line is due: empty input
  empty : length journal ≤ 65536 → length journal ≤ at → form ≡ 0 → NextOf journal at form (Err NoForm)
  -- the end of the input, after the first line
  ended : length journal ≤ 65536 → length journal ≤ at → (form ≡ 0 → ⊥) → NextOf journal at form (Ok None)
  -- 10 a last line without newline
  unended : length journal ≤ 65536 → at < length journal → Without 10 (drop at journal) → NextOf journal at form (Err TooLong)
  -- a line with its newline: what the line is
  a_line : {a : Result Line Refusal} (l : List ℕ) (next : ℕ) → length journal ≤ 65536 → LineAt journal at l next → LineOf (rows_of form) l a
      → NextOf journal at form (in_journal a at next)

-- whether reading goes on after an answer: after a line that was read
abbrev pub goes_on : Next → Bool
goes_on (Ok (Some item)) = true
goes_on (Ok None) = false
goes_on (Err refusal) = false

-- the offset after an answer: the next line's, and the same after the end or a refusal
abbrev pub offset_after : ℕ → Next → ℕ
offset_after at (Ok (Some (Opening form sizes next))) = next
offset_after at (Ok (Some (Step call start end next))) = next
offset_after at (Ok None) = at
offset_after at (Err refusal) = at

-- the form after an answer: the first line sets it
abbrev pub form_after : ℕ → Next → ℕ
form_after form (Ok (Some (Opening named sizes next))) = named
form_after form (Ok (Some (Step call start end next))) = form
form_after form (Ok None) = form
form_after form (Err refusal) = form

-- one reading at an offset: the answer, and the offset and the form after it
pub record ReadOf (journal : List ℕ) (at form : ℕ) (r : Read) : Type 0 where
  pub found : NextOf journal at form r.next
  pub offset : r.at ≡ offset_after at r.next
  pub formed : r.form ≡ form_after form r.next

-- the reader after an answer: the same bytes at the same address in memory, and the offset and the form after it
abbrev pub reader_after : Reader → Next → Reader
reader_after r n = record { journal = r.journal; at = offset_after r.at n; form = form_after r.form n }

-- what a reader returns: what is where it is, and the reader after it
abbrev pub StepOf : Reader → Reading → Type 0
StepOf r s = NextOf r.journal.now r.at r.form s.next × (s.reader ≡ reader_after r s.next)
