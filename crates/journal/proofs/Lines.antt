-- Laws of the lines of a journal. Assumes nothing.
use Prim.Native.Nat.{ℕ, ◌+◌, ◌≤◌, ◌<◌, ◌-◌}
use mathlib.Core.{Path.{◌≡◌, sym, ◌∙◌, ap, subst}, Bool.true, List.{List, ◌∷◌, ◌++◌, append-nil}, Logic.{inl, inr}}
use native.Mathlib.{Omega.arith, Numerals.add-one}
use lib.{ListN.{length, get_or, take, drop, length-append, length-drop, drop_of_length-le}, Seq.{drop-cons, drop-drop}}
use Rattle.protocol.proofs.Tests.{never}
use Rattle.spelling.{specs.Bytes.{Without, up_to}, proofs.Split.{Edge, up_to_clean, up_to_split, up_to_part}}
use Rattle.grammar.specs.{Table.rows_of, Line.LineOf, declared.{Line.{Line, TheVariants.{Opening as OpeningLine, Step as StepLine}}, Refusal.Refusal}}
use Rattle.std.specs.Prelude.{Option, Some, None, Result, Ok, Err}
use Rattle.journal.specs.{Journal.{Next, in_journal, LineAt, NextOf, too_much, empty, ended, unended, a_line, goes_on, offset_after}, declared.Item.Item}

-- the line from an offset up to a newline at e, or to the end
module _ (j : List ℕ) (at e : ℕ) (ends : e ≡ at + length (up_to 10 (drop at j))) where
  rest : drop (length (up_to 10 (drop at j))) (drop at j) ≡ drop e j
  rest = drop-drop (length (up_to 10 (drop at j))) at j ∙ ap (λ (k : ℕ). drop k j) (sym ends)

  split : drop at j ≡ up_to 10 (drop at j) ++ drop e j
  split = (up_to_split 10 (drop at j)).0 ∙ ap (λ (l : List ℕ). up_to 10 (drop at j) ++ l) rest

  newline : e < length j → Edge 10 (drop e j) → drop e j ≡ 10 ∷ drop (e + 1) j
  newline h (inl x) = absurd (omega (arith, simp length-drop at (ap length x)))
  newline h (inr x) =
      let c : drop e j ≡ get_or j e 0 ∷ drop (e + 1) j = rw (add-one e) (drop-cons j e 0 h) in
      let d : get_or j e 0 ∷ drop (e + 1) j ≡ 10 ∷ x.0 = sym c ∙ x.1 in
      let u : get_or j e 0 ≡ 10 = cc in
      c ∙ ap (λ (b : ℕ). b ∷ drop (e + 1) j) u

  pub line_here : e < length j → LineAt j at (take (e - at) (drop at j)) (e + 1)
  line_here h =
      let p = up_to_part 10 j at e ends in
      let n = newline h (subst (Edge 10) rest (up_to_split 10 (drop at j)).1) in
      rw p (record { clean = up_to_clean 10 (drop at j); whole = split ∙ ap (λ (l : List ℕ). up_to 10 (drop at j) ++ l) n; after = omega arith })

  pub none_here : length j ≤ e → Without 10 (drop at j)
  none_here h =
      let z : drop at j ≡ up_to 10 (drop at j) = split ∙ ap (λ (l : List ℕ). up_to 10 (drop at j) ++ l) (drop_of_length-le j h) ∙ append-nil (up_to 10 (drop at j)) in
      subst (Without 10) (sym z) (up_to_clean 10 (drop at j))

-- a line that was read is the answer at its offset
pub line_answer : (j : List ℕ) (at e form : ℕ) (a : Result Line Refusal) → length j ≤ 65536 → e ≡ at + length (up_to 10 (drop at j)) → e < length j → LineOf (rows_of form) (take (e - at) (drop at j)) a → NextOf j at form (in_journal a at (e + 1))
line_answer j at e form a s ends h o = a_line (take (e - at) (drop at j)) (e + 1) s (line_here j at e ends h) o

-- a line lies before the next one, and inside the journal
pub line_inside : {j : List ℕ} {at : ℕ} {l : List ℕ} {next : ℕ} → LineAt j at l next → (at < next) × (next ≤ length j)
line_inside h = (omega (arith, h.after), omega (arith, h.after, simp (length-append, length-drop) at (ap length h.whole)))

-- an answer after which reading goes on is a line, and the offset after it is the next line's
pub line_read : {j : List ℕ} {at form : ℕ} {n : Next} → NextOf j at form n → goes_on n ≡ true → (l : List ℕ) × LineAt j at l (offset_after at n)
line_read (too_much l) g = never (sym g)
line_read (empty l h e) g = never (sym g)
line_read (ended l h e) g = never (sym g)
line_read (unended l h w) g = never (sym g)
line_read (a_line {a = Ok (OpeningLine form sizes)} l next s h o) g = (l, h)
line_read (a_line {a = Ok (StepLine call start end)} l next s h o) g = (l, h)
line_read (a_line {a = Err refusal} l next s h o) g = never (sym g)

-- what a match on an answer finds: a line, of one kind or the other, or the end
pub item_found : {j : List ℕ} {at form : ℕ} {o : Option Item} {i k : Item} → NextOf j at form (Ok o) → o ≡ Some i → i ≡ k → NextOf j at form (Ok (Some k))
item_found {j} {at} {form} x e d = subst (λ (o : Option Item). NextOf j at form (Ok o)) (e ∙ ap Some d) x

pub end_found : {j : List ℕ} {at form : ℕ} {o : Option Item} → NextOf j at form (Ok o) → o ≡ None → NextOf j at form (Ok None)
end_found {j} {at} {form} x e = subst (λ (o : Option Item). NextOf j at form (Ok o)) e x
