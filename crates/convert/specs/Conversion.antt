-- What converting a journal into a lent buffer answers and leaves (02, Five), for every journal and every buffer.
use Rattle.std.specs.Prelude.{ℕ, ◌+◌, ◌≤◌, Option, Some, None, Result, Ok, Err}
use mathlib.Core.{Path.◌≡◌, Bool.{Bool, true, false}, List.{List, [], ◌∷◌}}
use lib.{Dec.{ltb, eqb}, ListN.length}
use Rattle.protocol.specs.{Pick.{pick, fails}, Limits.opening_fits, Buffers.Bytes, About.about, Machine.fresh_machine}
use Rattle.protocol.specs.{Step.{Reply, refused, done, commit}, Run.{Entry, Record, run}, declared.Opening.Opening as Sizes}
use Rattle.protocol.specs.declared.Which.{Which, TheVariants.{Named as NamedLine, Asked, Answered, Nothing, Victim}}
use Rattle.spelling.specs.Over.{over}
use Rattle.grammar.specs.{Table.openings, Line.Matches, declared.Refusal.{Refusal, TheVariants.{Unfit, NoForm, TooMuch, Unlike}}}
use Rattle.journal.specs.{Journal.{LineAt, NextOf}, declared.Item.TheVariants.Opening}
use Rattle.driver.specs.Listing.{ended, stopped, Between, EndsAt}
use Rattle.convert.specs.{Spelling.journal_of, Forms.converted}
use Rattle.convert.specs.declared.To.{To, TheVariants.{First, Second}}

-- ---- reading

-- the longest journal
abbrev pub most_bytes : ℕ
most_bytes = 65536

-- the form of the result, and that of the journal that is converted
abbrev pub form_of : To → ℕ
form_of First = 1
form_of Second = 2

abbrev pub form_from : To → ℕ
form_from First = 2
form_from Second = 1

-- a journal of a form reads whole: its first line says this opening, inside the limits or not, and all its other lines spell these steps
pub record Reads (form : ℕ) (journal : Bytes) (o : Sizes) (gs : List Entry) : Type 0 where
  pub next : ℕ
  pub to : ℕ
  pub first : NextOf journal 0 0 (Ok (Some (Opening form o next)))
  pub steps : Between journal form next gs to
  pub ends : EndsAt journal form to ended

-- the first line has another form than this, whatever its values are. The first lines open the forms in turn, so the row at k is of form k + 1
pub record OtherFirst (form : ℕ) (journal : Bytes) : Type 0 where
  pub line : Bytes
  pub next : ℕ
  pub row : ℕ
  pub values : List Bytes
  pub all : length journal ≤ most_bytes
  pub placed : LineAt journal 0 line next
  pub short : length line ≤ 200
  pub has : Matches openings line row values
  pub other : row + 1 ≡ form → ⊥

-- "Input over 65,536 bytes is 14; then the first malformed line gives its 10 to 13", wherever it is. "`fabric=1` and the step kind are fixed text,
-- so anything else there is 11": the other form's first line is 11, right or wrong, as empty input is
pub data Malformed (form : ℕ) (journal : Bytes) : Refusal → Type 0 where
  first_line : {r : Refusal} → NextOf journal 0 0 (Err r) → (OtherFirst form journal → ⊥) → Malformed form journal r
  other_form : OtherFirst form journal → Malformed form journal NoForm
  later_line :
      {o : Sizes} {next : ℕ} {gs : List Entry} {to : ℕ} {r : Refusal} → NextOf journal 0 0 (Ok (Some (Opening form o next))) → Between journal form next gs to
      → EndsAt journal form to (stopped r) → Malformed form journal r

-- ---- what can't be said in form 1

abbrev pub is_victim : Which → Bool
is_victim (NamedLine l) = false
is_victim Asked = false
is_victim Answered = false
is_victim Nothing = false
is_victim Victim = true

-- it is refused with this number
abbrev pub answers : ℕ → Reply → Bool
answers n (refused k) = eqb k n
answers n (done d) = false
answers n (commit c t o) = false

-- one of the elements passes the test
unfoldable pub some : {A : Type 0} → (A → Bool) → List A → Bool
some f [] = false
some f (x ∷ xs) = pick (f x) true (some f xs)

-- "a victim step, or a step that answers 30"
abbrev pub is_unlike : Record → Bool
is_unlike r = pick (is_victim (about r.entry.call).line) true (answers 30 r.reply)

-- "32, from 2 to 1 only, for cap other than lines, a victim step, or a step that answers 30"
unfoldable pub unlike : To → Sizes → List Entry → Bool
unlike First o gs = pick (fails (eqb o.cap o.lines)) true (some is_unlike (run gs 1 (fresh_machine o)).records)
unlike Second o gs = false

-- ---- the result

-- THE RESULT for a journal with this opening and these steps: they stay the same engine's, with the steps in the other form. A journal of
-- `fabric=1` opens with cap = lines, so this is the cap of the result
abbrev pub result_of : To → Sizes → List Entry → Bytes
result_of to o gs = journal_of to o (converted to gs (fresh_machine o))

-- "then opening sizes, 7"; 32 "after 7"; "A result over 65,536 bytes, or over the buffer, is 14 too, as the last check". `room` is the buffer's length
unfoldable pub refusal_of : To → Sizes → List Entry → ℕ → Option Refusal
refusal_of to o gs room =
    pick (fails (opening_fits o)) (Some Unfit)
    (pick (unlike to o gs) (Some Unlike)
    (pick (ltb most_bytes (length (result_of to o gs))) (Some TooMuch)
    (pick (ltb room (length (result_of to o gs))) (Some TooMuch) None)))

-- "success answers the result's length and leaves the bytes past it"; "Any refusal leaves the buffer untouched"
abbrev pub answer_by : Option Refusal → ℕ → Result ℕ Refusal
answer_by None n = Ok n
answer_by (Some r) n = Err r

abbrev pub buffer_by : Option Refusal → Bytes → Bytes → Bytes
buffer_by None result old = over old 0 result
buffer_by (Some r) result old = old

abbrev pub answer_of : To → Sizes → List Entry → ℕ → Result ℕ Refusal
answer_of to o gs room = answer_by (refusal_of to o gs room) (length (result_of to o gs))

abbrev pub buffer_of : To → Sizes → List Entry → Bytes → Bytes
buffer_of to o gs old = buffer_by (refusal_of to o gs (length old)) (result_of to o gs) old

-- THE ANSWER, and the buffer after it, for a journal and a buffer
pub data Converts (to : To) (journal old : Bytes) : Result ℕ Refusal → Bytes → Type 0 where
  malformed : {r : Refusal} → Malformed (form_from to) journal r → Converts to journal old (Err r) old
  reads : {o : Sizes} {gs : List Entry} → Reads (form_from to) journal o gs → Converts to journal old (answer_of to o gs (length old)) (buffer_of to o gs old)
