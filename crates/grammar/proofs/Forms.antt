-- What is known of the rows of each form of journal: which part of the table they are, their shape, what their lines say, and that a step has
-- data exactly if its call is given digits. A new form is a line in `ranged`, `no_row_lem`, `opening_at`, `digit_at`, `rows_say` and `rows_fed`. Assumes nothing.
use Prim.Native.Nat.{ℕ, zero, suc, ◌+◌, ◌-◌, ◌≤◌, ◌<◌}
use mathlib.Core.{Path.{◌≡◌, refl, sym, ◌∙◌, ap, subst}, Bool.{Bool, true, false}, List.{List, [], ◌∷◌}}
use native.Mathlib.Omega.{arith}
use lib.{Dec.{ltb, lit≤, lit<}, ListN.{length, get_or, take, drop}, Seq.{get_or-take, get_or-drop}}
use borrow.Author.Tests.{ltb-true}
use Rattle.protocol.{specs.declared.{Opening.{Opening as Sizes}, Given.{Given, TheVariants.{Bytes, Digits}}}, proofs.Tests.never}
use Rattle.protocol.specs.{Pick.{pick, fails}, About.about, Given.given_as}
use Rattle.grammar.specs.Table.{Numbered, Says, opens, calls, Row, openings, rows_of, no_row, row_at, table, step_count, opening_count, row_count, range_of}
use Rattle.grammar.specs.{Table.sizes, Form.{Part, fixed, value, Value, number, pairs, Each, Has, RightData}}
use Rattle.grammar.specs.{Line.{Matches, DataRight}, Scan.{form_of, byte_of, cap_of}}
use Rattle.grammar.proofs.{Fit.Shaped, Rows.{byte_at, entry_at, every, every_at}}

-- ---- the rows of each form are one part of the table

pub record Ranged (form : ℕ) : Type 0 where
  pub order : (range_of form).start ≤ (range_of form).end
  pub high : (range_of form).end ≤ row_count
  pub count : length (rows_of form) ≡ (range_of form).end - (range_of form).start
  pub same : rows_of form ≡ take ((range_of form).end - (range_of form).start) (drop (range_of form).start table)

pub ranged : (form : ℕ) → Ranged form
ranged zero = record { order = lit≤ tt; high = lit≤ tt; count = refl; same = refl }
ranged (suc zero) = record { order = lit≤ tt; high = lit≤ tt; count = refl; same = refl }
ranged (suc (suc zero)) = record { order = lit≤ tt; high = lit≤ tt; count = refl; same = refl }
ranged (suc (suc (suc form))) = record { order = lit≤ tt; high = lit≤ tt; count = refl; same = refl }

-- the row at an index of a form's rows, as a row of the table
module _ (form k : ℕ) (h : k < length (rows_of form)) where
  pub row_listed : (range_of form).start + k < (range_of form).end
  row_listed = let r = ranged form in omega (arith, r.count, r.order)

  pub row_in : row_at (rows_of form) k ≡ row_at table ((range_of form).start + k)
  row_in =
      let r = ranged form in
      let a = (range_of form).start in
      let n = (range_of form).end - a in
      ap (λ (l : List Row). row_at l k) r.same ∙ get_or-take n (drop a table) k no_row (omega arith) ∙ get_or-drop a table k no_row

  pub row_shape : Shaped (row_at (rows_of form) k).form
  row_shape = rw row_in (entry_at ((range_of form).start + k) (omega (arith, row_listed, (ranged form).high))).shape

-- a line that has the form of one of them has it as a row of the table
pub in_table : (form : ℕ) {s : List ℕ} {k : ℕ} {vs : List (List ℕ)} → Matches (rows_of form) s k vs → Has s (form_of ((range_of form).start + k)) vs
in_table form {s} {k} {vs} f = subst (λ (r : Row). Has s r.form vs) (row_in form k f.listed) f.has

-- no form is known beyond the last
pub no_row_lem : (form : ℕ) (s : List ℕ) → 3 ≤ form → (k : ℕ) (vs : List (List ℕ)) → Matches (rows_of form) s k vs → ⊥
no_row_lem zero s h k vs f = absurd (omega arith)
no_row_lem (suc zero) s h k vs f = absurd (omega arith)
no_row_lem (suc (suc zero)) s h k vs f = absurd (omega arith)
no_row_lem (suc (suc (suc form))) s h k vs f = omega (arith, f.listed)

-- ---- the first lines

-- what the numbers of the first line of a form say
abbrev pub sizes_of : ℕ → Numbered → Sizes
sizes_of form n = sizes n (cap_of form (n 1) (n 4))

opening_at : (j : ℕ) (n : Numbered) → j < opening_count → (row_at table (step_count + j)).says n ≡ opens (j + 1) (sizes_of (j + 1) n)
opening_at zero n h = refl
opening_at (suc zero) n h = refl
opening_at (suc (suc j)) n h = absurd (omega arith)

-- the first lines open the forms in turn
pub opening_row : (row : ℕ) (n : Numbered) → step_count ≤ row → row < row_count → (row_at table row).says n ≡ opens (row - step_count + 1) (sizes_of (row - step_count + 1) n)
opening_row row n a b =
    let e : step_count + (row - step_count) ≡ row = omega arith in
    subst (λ (m : ℕ). (row_at table m).says n ≡ opens (row - step_count + 1) (sizes_of (row - step_count + 1) n)) e (opening_at (row - step_count) n (omega arith))

-- their eighth byte is the digit of their form
digit_at : (k : ℕ) → k < opening_count → byte_of (get_or (form_of (step_count + k)) 7 (fixed 0)) ≡ 49 + k
digit_at zero h = refl
digit_at (suc zero) h = refl
digit_at (suc (suc k)) h = absurd (omega arith)

pub opening_digit : {s : List ℕ} {k : ℕ} {vs : List (List ℕ)} → Matches openings s k vs → (7 < length s) × (get_or s 7 0 ≡ 49 + k)
opening_digit {s} {k} {vs} f =
    let b = byte_at 8 7 s (form_of (step_count + k)) vs (lit< tt) (entry_at (step_count + k) (omega (arith, f.listed))).head (in_table 0 f) in
    (b.0, b.1 ∙ digit_at k f.listed)

-- ---- what a row says

-- the first line opens an engine in a journal of a form that is not 0; every other line makes a call
abbrev pub SaysIn : ℕ → Says → Type 0
SaysIn form (opens f o) = (form ≡ 0) × (f ≡ 0 → ⊥)
SaysIn form (calls c) = form ≡ 0 → ⊥

abbrev says_in : ℕ → Says → Bool
says_in zero (opens f o) = ltb 0 f
says_in zero (calls c) = false
says_in (suc form) (opens f o) = false
says_in (suc form) (calls c) = true

says_in_lem : (form : ℕ) (w : Says) → says_in form w ≡ true → SaysIn form w
says_in_lem zero (opens f o) e = (refl, λ z. omega (arith, z, ltb-true 0 f e))
says_in_lem zero (calls c) e = never (sym e)
says_in_lem (suc form) (opens f o) e = never (sym e)
says_in_lem (suc form) (calls c) e = λ z. omega (arith, z)

-- the test of each form's rows, whatever the numbers
rows_say : (form : ℕ) (n : Numbered) → every (λ k r. says_in form (r.says n)) 0 (rows_of form) ≡ true
rows_say zero n = refl
rows_say (suc zero) n = refl
rows_say (suc (suc zero)) n = refl
rows_say (suc (suc (suc form))) n = refl

pub row_says : (form k : ℕ) (n : Numbered) → k < length (rows_of form) → SaysIn form ((row_at (rows_of form) k).says n)
row_says form k n h = says_in_lem form _ (every_at (λ k r. says_in form (r.says n)) (rows_of form) 0 (rows_say form n) k h)

-- ---- what a call is given

-- the form has an H
unfoldable pub has_data : List Part → Bool
has_data [] = false
has_data (fixed b ∷ p) = has_data p
has_data (value number ∷ p) = has_data p
has_data (value pairs ∷ p) = true

-- what is given is digits
abbrev pub in_digits : Given → Bool
in_digits Bytes = false
in_digits Digits = true

-- a line of the form has data exactly if its call is given digits
abbrev pub Fed : List Part → Says → Type 0
Fed p (opens f o) = Unit
Fed p (calls c) = has_data p ≡ in_digits (given_as (about c).act)

abbrev fed : List Part → Says → Bool
fed p (opens f o) = true
fed p (calls c) = pick (has_data p) (in_digits (given_as (about c).act)) (fails (in_digits (given_as (about c).act)))

fed_in : (p : List Part) (w : Says) → fed p w ≡ true → Fed p w
fed_in p (opens f o) e = tt
fed_in p (calls c) e = same (has_data p) (in_digits (given_as (about c).act)) e
  where
    same : (a b : Bool) → pick a b (fails b) ≡ true → a ≡ b
    same true b h = sym h
    same false true h = never (sym h)
    same false false h = refl

rows_fed : (form : ℕ) (n : Numbered) → every (λ k r. fed r.form (r.says n)) 0 (rows_of form) ≡ true
unfolding has_data
rows_fed zero n = refl
rows_fed (suc zero) n = refl
rows_fed (suc (suc zero)) n = refl
rows_fed (suc (suc (suc form))) n = refl

pub row_fed : (form k : ℕ) (n : Numbered) → k < length (rows_of form) → Fed (row_at (rows_of form) k).form ((row_at (rows_of form) k).says n)
row_fed form k n h =
    fed_in (row_at (rows_of form) k).form ((row_at (rows_of form) k).says n) (every_at (λ k r. fed r.form (r.says n)) (rows_of form) 0 (rows_fed form n) k h)

-- where a form has no H, all data are right
plain_right : (P : Value → List ℕ → Type 0) (p : List Part) (vs : List (List ℕ)) → fails (has_data p) ≡ true → Each P p vs → Each RightData p vs
unfolding Each has_data
plain_right P [] [] e a = tt
plain_right P [] (v ∷ vs) e a = absurd a
plain_right P (fixed b ∷ p) vs e a = plain_right P p vs e a
plain_right P (value q ∷ p) [] e a = absurd a
plain_right P (value number ∷ p) (v ∷ vs) e a = (tt, plain_right P p vs e a.1)
plain_right P (value pairs ∷ p) (v ∷ vs) e a = never (sym e)

-- no first line has one
openings_plain : every (λ k r. fails (has_data r.form)) 0 openings ≡ true
unfolding has_data
openings_plain = refl

pub opening_data : {s : List ℕ} {k : ℕ} {vs : List (List ℕ)} → Matches openings s k vs → DataRight openings k vs
opening_data {k = k} {vs = vs} f =
    plain_right _ (row_at openings k).form vs (every_at (λ k r. fails (has_data r.form)) openings 0 openings_plain k f.listed) f.has.fit
