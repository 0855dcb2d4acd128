-- Each line has exactly one answer. Assumes nothing.
use Prim.Native.Nat.{ℕ, suc, ◌+◌, ◌-◌, ◌≤◌, ◌<◌}
use mathlib.Core.{Path.{◌≡◌, sym, subst}, List.{List, [], ◌∷◌}, Logic.{◌⊎◌, inl, inr, ⊎_elim}}
use native.Mathlib.Omega.{arith}
use lib.ListN.{length, get_or}
use Rattle.std.specs.{Prelude.{Option, Some, None, Result}, declared.ops.Range.Range}
use Rattle.spelling.proofs.{Lists.le_or_lt, Decide.{same_number, number_told, data_told}}
use Rattle.grammar.specs.{Form.{Part, fixed, value, Value, number, pairs}, Table.{rows_of, row_count, range_of}, Line.{Matches, LineOf, too_long}}
use Rattle.grammar.specs.{Theorems.OneAnswerTheorem, declared.{Line.Line, Refusal.Refusal, Values.Values, Found.Found}}
use Rattle.grammar.specs.Scan.{first_value, after_value, form_of, ValueRead, a_number, no_number, some_data, no_data, Scans, ended, longer, same, other, a_value}
use Rattle.grammar.specs.Scan.{nothing_read, with_number, without_number, with_data, without_data, Reads, FoundIn}
use Rattle.grammar.proofs.{Rows.{letters, line_tag, same_tag, row_by_tag}, Judge.{none_answer, found_answer, none_there}}
use Rattle.grammar.proofs.{Forms.{ranged, row_listed, row_shape, in_table}, Unique.same_answer}

-- ---- a line is read in some way by each form

value_read : (q : Value) (v : Values) (i at : ℕ) (x : List ℕ) → (w : Values) × ValueRead v i at x q w
value_read number v i at x = ⊎_elim (λ n. (with_number v i n.0, a_number n.0 n.1 n.2)) (λ n. (without_number v, no_number n)) (number_told x)
value_read pairs v i at x = ⊎_elim (λ d. (with_data v at, some_data d)) (λ n. (without_data v, no_data n)) (data_told x)

reads_some : (n : ℕ) (p : List Part) (t : List ℕ) (i : ℕ) (v : Values) → (r : Option Values) × Scans n p t i v r
reads_some n [] [] i v = (Some v, ended)
reads_some n [] (b ∷ t) i v = (None, longer)
reads_some n (fixed b ∷ p) [] i v = (None, other (λ u e. (cc)))
reads_some n (fixed b ∷ p) (c ∷ t) i v =
    ⊎_elim (λ e. let r = reads_some n p t i v in (r.0, subst (λ (x : ℕ). Scans n (fixed b ∷ p) (x ∷ t) i v r.0) (sym e) (same r.1))) (λ x. (None, other (λ u e. x (cc))))
    (same_number c b)
reads_some n (value q ∷ p) t i v =
    let w = value_read q v i (n - length t) (first_value t) in
    let r = reads_some n p (after_value t) (suc i) w.0 in
    (r.0, a_value w.1 r.1)

-- some row of the table has the line, or none of some rows has it: only one may
found_some : (s : List ℕ) (rows : Range ℕ) → rows.end ≤ row_count → (f : Option Found) × FoundIn s rows f
found_some s rows h = by (le_or_lt rows.start row) (le_or_lt rows.end row)
  where
    row : ℕ
    row = get_or letters (line_tag s) 0 - 97

    none : (rows.start ≤ row → row < rows.end → Reads s (form_of row) s None) → (f : Option Found) × FoundIn s rows f
    none n = (None, none_there s rows row h (row_by_tag (line_tag s)) n)

    read : rows.start ≤ row → row < rows.end → (r : Option Values) × Reads s (form_of row) s r → (f : Option Found) × FoundIn s rows f
    read a b (None, x) = none (λ u v. x)
    read a b (Some w, x) = (Some (record { row = row; values = w }), (a, b, x))

    by : (rows.start ≤ row) ⊎ (row < rows.start) → (rows.end ≤ row) ⊎ (row < rows.end) → (f : Option Found) × FoundIn s rows f
    by (inr a) t = none (λ x y. absurd (omega arith))
    by (inl a) (inl b) = none (λ x y. absurd (omega arith))
    by (inl a) (inr b) = read a b (reads_some (length s) (form_of row) s 0 (nothing_read (length s)))

-- ---- the theorem

answer_by : (form : ℕ) (s : List ℕ) → length s ≤ 200 → (f : Option Found) × FoundIn s (range_of form) f → (a : Result Line Refusal) × LineOf (rows_of form) s a
answer_by form s l (None, x) = (_, none_answer form s l x)
answer_by form s l (Some f, x) = (_, found_answer form s l f x)

some_answer : (form : ℕ) (s : List ℕ) → (a : Result Line Refusal) × LineOf (rows_of form) s a
some_answer form s = ⊎_elim (λ l. answer_by form s l (found_some s (range_of form) (ranged form).high)) (λ l. (_, too_long (omega (arith, l)))) (le_or_lt (length s) 200)

-- the row of a line is the only one with the line's tag
told : (form : ℕ) (s : List ℕ) (k : ℕ) (vs : List (List ℕ)) → Matches (rows_of form) s k vs → (range_of form).start + k ≡ get_or letters (line_tag s) 0 - 97
told form s k vs f =
    let h : (range_of form).start + k < row_count = omega (arith, row_listed form k f.listed, (ranged form).high) in
    row_by_tag (line_tag s) ((range_of form).start + k) h (same_tag ((range_of form).start + k) s vs h (in_table form f)).1

-- the one answer of a line; unfolded, it computes where the line's bytes are known
unfoldable pub one_answer : OneAnswerTheorem
unfolding same_number le_or_lt number_told data_told value_read reads_some found_some answer_by some_answer told
one_answer form s =
    let a = some_answer form s in
    record {
      answer = a.0;
      holds = a.1;
      only = λ b x. same_answer (rows_of form) (row_shape form) (λ s j k vs ws f g. omega (arith, told form s j vs f, told form s k ws g)) s b a.0 x a.1;
    }

pub one_answer_theorem : OneAnswerTheorem
one_answer_theorem = one_answer
