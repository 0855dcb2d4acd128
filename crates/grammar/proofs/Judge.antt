-- From the row that was found to the answer of the line. Assumes nothing.
use Prim.Native.Nat.{ℕ, zero, suc, ◌+◌, ◌≤◌, ◌<◌, ◌-◌}
use mathlib.Core.{Path.{◌≡◌, refl, ◌∙◌, ap, subst}, List.{List, [], ◌∷◌, ◌++◌}}
use native.Mathlib.Omega.{arith}
use lib.{ListN.{length, get_or, drop, replicate, length-replicate}, Seq.{sets, sets-eq, get_or-drop}}
use Rattle.std.specs.{Prelude.{Option, Some, None, Result, Err}, declared.ops.Range.Range}
use Rattle.spelling.specs.Hex.{hex}
use Rattle.grammar.specs.{Form.{Part, fixed, value, number, pairs, Has, Given}, Table.{rows_of, row_at, table, row_count, number_count, range_of}}
use Rattle.grammar.specs.Line.{said, Matches, LineOf, no_form, wrong_number, wrong_data, spelt}
use Rattle.grammar.specs.{Scan.{RowAt, Reads, form_of, values_in, nothing_read, FoundIn, answer_of}, declared.{Line.Line, Refusal.{Refusal, TheVariants.NoForm}, Found.Found}}
use Rattle.grammar.proofs.{Outcome.{Outcome, bad_number, bad_data, fine, outcome_of, fails_of}, Rows.{line_tag, Entry, entry_at, same_tag}}
use Rattle.grammar.proofs.Forms.{ranged, row_listed, row_in, in_table}

-- ---- the numbers that were read, as the row's numbers

-- a form is given no more numbers than it has values
given_count : (p : List Part) (ns bs : List ℕ) → Given p ns bs → length ns ≤ values_in p
unfolding Given values_in
given_count [] ns bs g = rw g.0 (omega arith)
given_count (fixed b ∷ p) ns bs g = given_count p ns bs g
given_count (value number ∷ p) [] bs g = absurd g
given_count (value number ∷ p) (n ∷ ns) bs g = omega (arith, given_count p ns bs g.1)
given_count (value pairs ∷ p) ns bs g = rw g.0 (omega arith)

-- the numbers, with zeros past them, are the same numbers
padded : (ns zs : List ℕ) → ((i : ℕ) → get_or zs i 0 ≡ 0) → (i : ℕ) → get_or (ns ++ zs) i 0 ≡ get_or ns i 0
padded [] zs h i = h i
padded (n ∷ ns) zs h zero = refl
padded (n ∷ ns) zs h (suc i) = padded ns zs h i

-- no numbers yet
abbrev zeros : ℕ → List ℕ
zeros n = replicate n 0

zero_at : (n i : ℕ) → get_or (zeros n) i 0 ≡ 0
zero_at zero i = refl
zero_at (suc n) zero = refl
zero_at (suc n) (suc i) = zero_at n i

abbrev numbered : List ℕ → ℕ → ℕ
numbered ns = λ i. get_or ns i 0

numbers_same : (f g : ℕ → ℕ) → ((i : ℕ) → f i ≡ g i) → f ≡ g
numbers_same f g h = λ j i. h i j

numbers_read : (m : ℕ) (ns : List ℕ) → length ns ≤ m → numbered (sets (zeros m) 0 ns) ≡ numbered ns
numbers_read m ns h =
    let zs = drop (0 + length ns) (zeros m) in
    rw (sets-eq ns (zeros m) 0 (rw length-replicate (omega arith))) (numbers_same _ _ (padded ns zs (λ i. get_or-drop (0 + length ns) (zeros m) i 0 ∙ zero_at m (0 + length ns + i))))

-- ---- the answer by the rows of a form of journal

module _ (form : ℕ) (s : List ℕ) (short : length s ≤ 200) where
  -- the rows of the form
  abbrev rows : Range ℕ
  rows = range_of form

  pub none_answer : FoundIn s rows None → LineOf (rows_of form) s (Err NoForm)
  none_answer n = no_form short (λ k vs f. n (rows.start + k) (omega arith) (row_listed form k f.listed) vs (in_table form f))

  -- the row at an index of the table, as a row of the form
  module _ (f : Found) (x : FoundIn s rows (Some f)) where
    abbrev k : ℕ
    k = f.row - rows.start

    listed : k < length (rows_of form)
    listed = omega (arith, x.0, x.1, (ranged form).count)

    same_row : row_at (rows_of form) k ≡ row_at table f.row
    same_row = let n : rows.start + k ≡ f.row = omega (arith, x.0) in row_in form k listed ∙ ap (row_at table) n

    known : Entry f.row (row_at table f.row)
    known = entry_at f.row (omega (arith, x.1, (ranged form).high))

    matches : {vs : List (List ℕ)} → Has s (form_of f.row) vs → Matches (rows_of form) s k vs
    matches h = record { listed = listed; has = rw same_row h }

    by : Outcome (length s) s (form_of f.row) 0 (nothing_read (length s)) (Some f.values) → LineOf (rows_of form) s (answer_of f (length s))
    by (bad_number vs o h n) = rw o (wrong_number k vs short (matches h) (rw same_row (λ e. let z = n e in absurd (cc))))
    by (bad_data vs z o h n m) = rw o (wrong_data k vs short (matches h) (rw same_row n) (rw same_row m))
    by (fine ns bs z o g t q e) =
        let c : length ns ≤ number_count = omega (arith, given_count (form_of f.row) ns bs g, known.room) in
        let n : numbered f.values.number ≡ numbered ns = rw q (numbers_read number_count ns c) in
        let st : f.values.start ≡ length s - length (hex bs) = omega (arith, e) in
        rw o
        (spelt {a = said ((row_at table f.row).says (numbered f.values.number)) f.values.start (length s)} short
        (record {
          k = k;
          listed = listed;
          numbers = ns;
          bytes = bs;
          given = rw same_row g;
          same = rw same_row t;
          answer = rw (same_row, n, st);
        }))

    pub found_answer : LineOf (rows_of form) s (answer_of f (length s))
    found_answer = by (outcome_of s (form_of f.row) (Some f.values) known.shape x.2)

  -- the answer of what was found
  abbrev answered : Option Found → Result Line Refusal
  answered None = Err NoForm
  answered (Some f) = answer_of f (length s)

  pub answer_line_lem : (r : Option Found) → FoundIn s rows r → LineOf (rows_of form) s (answered r)
  answer_line_lem None n = none_answer n
  answer_line_lem (Some f) x = found_answer f x

-- a row that was found is one of the table's
pub row_found : (s : List ℕ) (rows : Range ℕ) (f : Found) → rows.end ≤ row_count → FoundIn s rows (Some f) → f.row < row_count
row_found s rows f h x = omega (arith, x.1)

-- ---- which row was found

-- where the only row that the line may have is not one of these rows, or the line fails there, no row of them has it
pub none_there : (s : List ℕ) (rows : Range ℕ) (row : ℕ) → rows.end ≤ row_count → RowAt (line_tag s) row → (rows.start ≤ row → row < rows.end → Reads s (form_of row) s None) → FoundIn s rows None
none_there s rows row h o n k a b vs f =
    let e : k ≡ row = o k (omega arith) (same_tag k s vs (omega arith) f).1 in
    fails_of s (form_of row) (entry_at row (omega arith)).shape (n (omega arith) (omega arith)) vs (subst (λ (m : ℕ). Has s (form_of m) vs) e f)

pub none_short : (s : List ℕ) (rows : Range ℕ) → rows.end ≤ row_count → length s < 8 → FoundIn s rows None
none_short s rows h l k a b vs f = omega (arith, (same_tag k s vs (omega arith) f).0)
