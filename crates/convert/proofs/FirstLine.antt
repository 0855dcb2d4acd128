-- The first line of a journal: which form's it is, and what the answer at the journal's start tells of that. 12 is the answer of a first line with
-- wrong numbers, and no other refusal is one of a line that has a first line's form. The line's eighth byte is the digit of its form.
use Prim.Native.Nat.{ℕ, ◌+◌, ◌≤◌, ◌<◌}
use mathlib.Core.{Path.{◌≡◌, refl, sym, ◌∙◌, ap, subst}, List.List, Logic.{inl, inr}}
use native.Mathlib.Omega.{arith}
use lib.ListN.{length, get_or, get_or-append}
use Rattle.protocol.specs.{Buffers.Bytes, declared.Opening.Opening as Sizes}
use Rattle.spelling.proofs.Decide.{Told}
use Rattle.grammar.specs.{Form.{Has, spellings}, Table.{Numbered, Row, openings, row_at, step_count}}
use Rattle.grammar.specs.Line.{Matches, Spelt, LineOf, too_long, no_form, wrong_number, wrong_data, spelt}
use Rattle.std.specs.Prelude.{Some, None, Result, Ok, Err}
use Rattle.grammar.specs.declared.{Line.Line, Refusal.{Refusal, TheVariants.{Unfit, TooLong, NoForm, NotNumber, NotData, TooMuch, Unlike}}}
use Rattle.grammar.proofs.{Unique.spelt_has, Forms.{row_in, row_shape, opening_row, opening_digit, opening_data}}
use Rattle.journal.specs.Journal.{Next, in_journal, LineAt, NextOf, too_much, empty, ended, unended, a_line}
use Rattle.journal.{specs.declared.Item.TheVariants.{Opening, Step}, proofs.{Lines.line_inside, OneNext.{to_the_end, line_same}}}
use Rattle.convert.specs.Conversion.{most_bytes, OtherFirst}

-- ---- a refusal

-- whether a refusal is 12
abbrev pub is_twelve : (r : Refusal) → Told (r ≡ NotNumber)
is_twelve Unfit = inr (λ e. let z : ◌≡◌ {A = ℕ} 0 1 = cc in omega arith)
is_twelve TooLong = inr (λ e. let z : ◌≡◌ {A = ℕ} 0 1 = cc in omega arith)
is_twelve NoForm = inr (λ e. let z : ◌≡◌ {A = ℕ} 0 1 = cc in omega arith)
is_twelve NotNumber = inl refl
is_twelve NotData = inr (λ e. let z : ◌≡◌ {A = ℕ} 0 1 = cc in omega arith)
is_twelve TooMuch = inr (λ e. let z : ◌≡◌ {A = ℕ} 0 1 = cc in omega arith)
is_twelve Unlike = inr (λ e. let z : ◌≡◌ {A = ℕ} 0 1 = cc in omega arith)

-- ---- a line, by the rows of the first lines

-- the line s, not over 200 bytes, has the form of the row at k, whatever its values are
record Formed (s : Bytes) (k : ℕ) : Type 0 where
  values : List Bytes
  short : length s ≤ 200
  has : Matches openings s k values

-- a journal has such a first line
record FirstFormed (j : Bytes) (k : ℕ) : Type 0 where
  line : Bytes
  next : ℕ
  all : length j ≤ most_bytes
  placed : LineAt j 0 line next
  formed : Formed line k

-- what an answer tells, where P k is that a line has the form of the row at k: an opening names the row's form, 12 has a row, and no other refusal
-- has one
abbrev Tells : (ℕ → Type 0) → Next → Type 0
Tells P (Ok (Some (Opening form o next))) = (k : ℕ) × P k × (k + 1 ≡ form)
Tells P (Ok (Some (Step call start end next))) = Unit
Tells P (Ok None) = Unit
Tells P (Err r) = (r ≡ NotNumber → (k : ℕ) × P k) × ((r ≡ NotNumber → ⊥) → (k : ℕ) → P k → ⊥)

-- it tells the same of what holds for the same rows
tells_as : {P Q : ℕ → Type 0} (b : Next) → ((k : ℕ) → P k → Q k) → ((k : ℕ) → Q k → P k) → Tells P b → Tells Q b
tells_as (Ok (Some (Opening form o next))) f g (k, x, e) = (k, f k x, e)
tells_as (Ok (Some (Step call start end next))) f g t = tt
tells_as (Ok None) f g t = tt
tells_as (Err r) f g (t, u) = ((λ e. let (k, x) = t e in (k, f k x)), λ e k x. u e k (g k x))

-- a line that spells what a row says has the form of the row, and opens the row's journal
spelt_tells : {s : Bytes} {a : Line} (next : ℕ) → length s ≤ 200 → Spelt openings s a → Tells (Formed s) (in_journal (Ok a) 0 next)
spelt_tells {s} next l x =
    let k = x.k in
    let p = (row_at openings k).form in
    let n : Numbered = λ i. get_or x.numbers i 0 in
    let vs = spellings p x.numbers x.bytes in
    let e = ap (λ (r : Row). r.says n) (row_in 0 k x.listed) ∙ opening_row (step_count + k) n (omega arith) (omega (arith, x.listed)) in
    let h : Has s p vs = subst (λ (t : Bytes). Has t p vs) (sym x.same) (spelt_has p x.numbers x.bytes (row_shape 0 k x.listed) x.given) in
    rw (x.answer, e) (k, record { values = vs; short = l; has = record { listed = x.listed; has = h } }, omega arith)

-- all answers of a line
line_tells : {s : Bytes} {a : Result Line Refusal} (next : ℕ) → LineOf openings s a → Tells (Formed s) (in_journal a 0 next)
line_tells next (too_long l) = ((λ e. absurd (let z : ◌≡◌ {A = ℕ} 0 1 = cc in omega arith)), λ n k f. omega (arith, l, f.short))
line_tells next (no_form l n) = ((λ e. absurd (let z : ◌≡◌ {A = ℕ} 0 1 = cc in omega arith)), λ m k f. n k f.values f.has)
line_tells next (wrong_number k vs l f n) = ((λ e. (k, record { values = vs; short = l; has = f })), λ m. absurd (m refl))
line_tells next (wrong_data k vs l f n d) = absurd (d (opening_data f))
line_tells next (spelt l x) = spelt_tells next l x

-- ---- the line at a journal's start

-- there is one line there at most
formed_at : {j line : Bytes} {next : ℕ} → LineAt j 0 line next → (k : ℕ) → FirstFormed j k → Formed line k
formed_at {j} h k f = subst (λ (s : Bytes). Formed s k) (sym (line_same j 0 0 f.placed) ∙ line_same j 0 0 h) f.formed

-- ALL ANSWERS at a journal's start
first_tells : {j : Bytes} {b : Next} → NextOf j 0 0 b → Tells (FirstFormed j) b
first_tells (too_much l) = ((λ e. absurd (let z : ◌≡◌ {A = ℕ} 0 1 = cc in omega arith)), λ n k f. omega (arith, l, f.all))
first_tells (empty l h e) = ((λ e. absurd (let z : ◌≡◌ {A = ℕ} 0 1 = cc in omega arith)), λ n k f. let i = line_inside f.placed in omega (arith, h))
first_tells (ended l h n) = tt
first_tells {j} (unended l h w) = (
  (λ e. absurd (let z : ◌≡◌ {A = ℕ} 0 1 = cc in omega arith)),
  λ n k f. omega (arith, to_the_end j 0 0 h w, ap length (line_same j 0 0 f.placed), f.placed.after, (line_inside f.placed).1),
)
first_tells (a_line {a = a} l next s h o) =
    tells_as (in_journal a 0 next) (λ k f. record { line = l; next = next; all = s; placed = h; formed = f }) (formed_at h) (line_tells next o)

-- ---- its form

-- the eighth byte of the line is that of the journal, and the digit of the row's form
first_digit : {j : Bytes} {k : ℕ} → FirstFormed j k → (7 < length j) × (get_or j 7 0 ≡ 49 + k)
first_digit f =
    let d = opening_digit f.formed.has in
    let e = ap (λ (l : Bytes). get_or l 7 0) f.placed.whole ∙ get_or-append f.line _ 0 7 d.0 in
    (omega (arith, d.0, (line_inside f.placed).1, f.placed.after), e ∙ d.1)

-- a first line of another form has one
other_formed : {form : ℕ} {j : Bytes} (o : OtherFirst form j) → FirstFormed j o.row
other_formed o =
    record {
      line = o.line;
      next = o.next;
      all = o.all;
      placed = o.placed;
      formed = record { values = o.values; short = o.short; has = o.has };
    }

-- one that is not the row of this form is of another form
formed_other : {form : ℕ} {j : Bytes} {k : ℕ} → FirstFormed j k → (k + 1 ≡ form → ⊥) → OtherFirst form j
formed_other {k = k} f n =
    record {
      line = f.line;
      next = f.next;
      row = k;
      values = f.formed.values;
      all = f.all;
      placed = f.placed;
      short = f.formed.short;
      has = f.formed.has;
      other = n;
    }

-- the eighth byte of a first line of another form is there, and is not this form's digit
pub other_digit : (form : ℕ) {j : Bytes} → OtherFirst form j → (7 < length j) × (get_or j 7 0 ≡ 48 + form → ⊥)
other_digit form o = let d = first_digit (other_formed o) in (d.0, λ e. o.other (omega (arith, d.1, e)))

-- a first line that opens a journal of another form
pub other_named : (form : ℕ) {j : Bytes} {named : ℕ} {o : Sizes} {next : ℕ} → NextOf j 0 0 (Ok (Some (Opening named o next))) → (named ≡ form → ⊥) → OtherFirst form j
other_named form x n = let (k, f, e) = first_tells x in formed_other f (λ z. n (sym e ∙ z))

-- .. of this one
pub own_named : (form : ℕ) {j : Bytes} {o : Sizes} {next : ℕ} → NextOf j 0 0 (Ok (Some (Opening form o next))) → OtherFirst form j → ⊥
own_named form x o = let (k, f, e) = first_tells x in (other_digit form o).1 (omega (arith, (first_digit f).1, e))

-- the form that it opens, by another name
pub opens_as : {form named : ℕ} {j : Bytes} {o : Sizes} {next : ℕ} → named ≡ form → NextOf j 0 0 (Ok (Some (Opening named o next))) → NextOf j 0 0 (Ok (Some (Opening form o next)))
opens_as {j = j} {o = o} {next = next} e x = subst (λ (n : ℕ). NextOf j 0 0 (Ok (Some (Opening n o next)))) e x

-- a first line that is refused, not with 12
pub refused_own : (form : ℕ) {j : Bytes} {r : Refusal} → NextOf j 0 0 (Err r) → (r ≡ NotNumber → ⊥) → OtherFirst form j → ⊥
refused_own form x n o = (first_tells x).1 n o.row (other_formed o)

-- .. with 12, and whose eighth byte is not this form's digit
pub wrong_other : (form : ℕ) {j : Bytes} {r : Refusal} → NextOf j 0 0 (Err r) → r ≡ NotNumber → (get_or j 7 0 ≡ 48 + form → ⊥) → OtherFirst form j
wrong_other form x e n = let (k, f) = (first_tells x).0 e in formed_other f (λ z. n (omega (arith, (first_digit f).1, z)))
