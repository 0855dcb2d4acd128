-- At each offset of a journal there is exactly one answer. Assumes nothing.
use Prim.Native.Nat.{ℕ, ◌+◌, ◌≤◌, ◌<◌}
use mathlib.Core.{Path.{◌≡◌, refl, sym, ◌∙◌, ap, ap₂, subst}, Bool.cond, List.{List, [], ◌∷◌, append-nil}, Logic.{◌⊎◌, inl, inr}}
use native.Mathlib.Omega.{arith}
use lib.{Dec.{leb, eqb}, ListN.{length, drop, length-drop}}
use borrow.Author.Tests.{le-leb, lt-leb, eq-eqb, ne_eqb}
use Rattle.spelling.{specs.Bytes.{Without, up_to}, proofs.{Lists.le_or_lt, Decide.{Told, same_number}, Split.up_to_unique}}
use Rattle.grammar.{specs.{Table.rows_of, Line.LineOf, declared.{Line.Line, Refusal.{Refusal, TheVariants.{TooLong, NoForm, TooMuch}}}}, proofs.OneAnswer.one_answer_theorem}
use Rattle.journal.specs.{Journal.{Next, in_journal, LineAt, NextOf, too_much, empty, ended, unended, a_line}, Theorems.OneNextTheorem}
use Rattle.std.specs.Prelude.{None, Result, Ok, Err}
use Rattle.journal.proofs.Lines.{line_here, none_here, line_inside}

module _ (j : List ℕ) (at form : ℕ) where
  -- the bytes from the offset up to a newline or to the end, and where they end
  abbrev line : List ℕ
  line = up_to 10 (drop at j)

  abbrev end : ℕ
  end = at + length line

  -- the answer, by tests in the order of the refusals
  abbrev answer : Next
  answer =
      cond (leb (length j) 65536)
      (cond (leb (length j) at) (cond (eqb form 0) (Err NoForm) (Ok None))
      (cond (leb (length j) end) (Err TooLong) (in_journal (one_answer_theorem form line).answer at (end + 1))))
      (Err TooMuch)

  -- where no newline follows, the line runs to the journal's end
  pub to_the_end : at < length j → Without 10 (drop at j) → length j ≤ end
  to_the_end h w =
      let e : line ≡ drop at j = ap (up_to 10) (sym (append-nil (drop at j))) ∙ up_to_unique 10 (drop at j) [] w (inl refl) in
      omega (arith, simp length-drop at (ap length e))

  -- a line with its newline is that line
  pub line_same : {l : List ℕ} {next : ℕ} → LineAt j at l next → line ≡ l
  line_same {l} {next} h = ap (up_to 10) h.whole ∙ up_to_unique 10 l (10 ∷ drop next j) h.clean (inr (drop next j, refl))

  -- there is no other
  only : {b : Next} → NextOf j at form b → b ≡ answer
  only (too_much l) = rw (lt-leb (length j) 65536 (omega (arith, l)))
  only (empty l h e) = rw (le-leb _ _ l, le-leb _ _ h, eq-eqb _ _ e)
  only (ended l h n) = rw (le-leb _ _ l, le-leb _ _ h, ne_eqb _ _ n)
  only (unended l h w) = rw (le-leb _ _ l, lt-leb _ _ h, le-leb _ _ (to_the_end h w))
  only (a_line {a = a} l next s h o) =
      let e = line_same h in
      let i = line_inside h in
      let n : next ≡ end + 1 = omega (arith, h.after, ap length e) in
      let x = (one_answer_theorem form line).only a (subst (λ (t : List ℕ). LineOf (rows_of form) t a) (sym e) o) in
      rw (le-leb _ _ s, lt-leb (length j) at (omega (arith, i.0, i.1)), lt-leb (length j) end (omega (arith, i.1)))
      (ap₂ (λ (c : Result Line Refusal) (k : ℕ). in_journal c at k) x n)

  -- there is one
  some :
      (length j ≤ 65536) ⊎ (65536 < length j) → (length j ≤ at) ⊎ (at < length j) → Told (form ≡ 0) → (length j ≤ end) ⊎ (end < length j)
      → (b : Next) × NextOf j at form b
  some (inr l) h f e = (_, too_much (omega (arith, l)))
  some (inl s) (inl h) (inl z) e = (_, empty s h z)
  some (inl s) (inl h) (inr n) e = (_, ended s h n)
  some (inl s) (inr h) f (inl e) = (_, unended s h (none_here j at end refl e))
  some (inl s) (inr h) f (inr e) = (_, a_line _ _ s (line_here j at end refl e) (one_answer_theorem form _).holds)

pub one_next_theorem : OneNextTheorem
one_next_theorem j at form =
    let a = some j at form (le_or_lt (length j) 65536) (le_or_lt (length j) at) (same_number form 0) (le_or_lt (length j) (end j at form)) in
    record { answer = a.0; holds = a.1; only = λ b x. only j at form x ∙ sym (only j at form a.1) }
