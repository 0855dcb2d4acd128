-- Reading on comes nearer to the journal's end, and no more lines are read than bytes passed. Assumes nothing.
use Prim.Native.Nat.{ℕ, ◌+◌, ◌-◌, ◌≤◌, ◌<◌}
use mathlib.Core.{Path.{◌≡◌, refl, ap, ◌∙◌, subst}, Bool.{Bool, true, false}, List.List}
use native.Mathlib.Omega.{arith}
use lib.ListN.{length, length-append, length-drop}
use Rattle.std.specs.Prelude.{Some, None, Result, Ok, Err}
use Rattle.grammar.specs.declared.{Line.{Line, TheVariants.{Opening as OpeningLine, Step as StepLine}}, Refusal.Refusal}
use Rattle.journal.specs.Journal.{Next, in_journal, LineAt, NextOf, too_much, empty, ended, unended, a_line, goes_on, offset_after}
use Rattle.journal.specs.{Journal.{form_after, StepOf}, Theorems.{Reached, start, on}, declared.{Item.TheVariants.{Opening, Step}, Reader.Reader, Step.Step as Reading}}
use Rattle.lines.specs.{Count.CountsLines}

stopped : {A : Type 0} → false ≡ true → A
stopped e = absurd (let z : ◌≡◌ {A = ℕ} 0 1 = cc in omega arith)

-- from one line to the next, inside the journal
abbrev pub Onward : List ℕ → ℕ → ℕ → Type 0
Onward j at next = (at < next) × (next ≤ length j)

line_onward : (j : List ℕ) (at : ℕ) (l : List ℕ) (next : ℕ) → LineAt j at l next → Onward j at next
line_onward j at l next h = (omega (arith, h.after), omega (arith, h.after, simp (length-append, length-drop) at (ap length h.whole)))

placed_onward : (j : List ℕ) (at next : ℕ) (a : Result Line Refusal) → Onward j at next → goes_on (in_journal a at next) ≡ true → Onward j at (offset_after at (in_journal a at next))
placed_onward j at next (Ok (OpeningLine form sizes)) h g = h
placed_onward j at next (Ok (StepLine call x y)) h g = h
placed_onward j at next (Err r) h g = stopped g

pub onward : {j : List ℕ} {at form : ℕ} {n : Next} → NextOf j at form n → goes_on n ≡ true → Onward j at (offset_after at n)
onward (too_much l) g = stopped g
onward (empty l h e) g = stopped g
onward (ended l h e) g = stopped g
onward (unended l h w) g = stopped g
onward {j} {at} (a_line {a = a} l next s h o) g = placed_onward j at next a (line_onward j at l next h) g

-- the offset reached lies in the journal, and each line that was read took a byte or more
pub few_lines : {j : List ℕ} {k at form : ℕ} → Reached j k at form → (k ≤ at) × (at ≤ length j)
few_lines start = (omega arith, omega arith)
few_lines (on r n g) = (omega (arith, (few_lines r).0, (onward n g).0), (onward n g).1)

-- ---- the loop

-- 1 where reading goes on
abbrev pub one_more : Bool → ℕ
one_more true = 1
one_more false = 0

-- how much there is to read past an offset, and the answer that was found before it
abbrev pub left : List ℕ → ℕ → Next → ℕ
left j at n = length j - at + one_more (goes_on n)

-- what is found next leaves less to read
left_less : {j : List ℕ} {at form : ℕ} (n : Next) → NextOf j at form n → left j (offset_after at n) n < length j - at + 1
left_less (Ok (Some (Opening form o next))) x = let h = onward x refl in omega (arith, h.0, h.1)
left_less (Ok (Some (Step call from to next))) x = let h = onward x refl in omega (arith, h.0, h.1)
left_less (Ok None) x = omega arith
left_less (Err r) x = omega arith

-- so many lines were read on from the start, and the reader is past what was found there
pub record Counted (j : List ℕ) (lines : ℕ) (s : Reading) : Type 0 where
  pub at : ℕ
  pub form : ℕ
  pub reached : Reached j lines at form
  pub found : NextOf j at form s.next
  pub bytes : s.reader.journal.now ≡ j
  pub past : s.reader.at ≡ offset_after at s.next
  pub formed : s.reader.form ≡ form_after form s.next

-- a step of a reader over the same bytes, where it stands
pub counted :
    {j : List ℕ} {k : ℕ} {r : Reader} {s : Reading} → r.journal.now ≡ j → Reached j k r.at r.form → StepOf r s → Counted j k s
counted {j} {r = r} {s = s} e x y =
    record {
      at = r.at;
      form = r.form;
      reached = x;
      found = subst (λ (l : List ℕ). NextOf l r.at r.form s.next) e y.0;
      bytes = ap (λ (a : Reader). a.journal.now) y.1 ∙ e;
      past = ap (λ (a : Reader). a.at) y.1;
      formed = ap (λ (a : Reader). a.form) y.1;
    }

module _ {j : List ℕ} {k : ℕ} {s : Reading} (c : Counted j k s) where
  -- the next step
  pub counted_more : {t : Reading} → goes_on s.next ≡ true → StepOf s.reader t → Counted j (k + 1) t
  counted_more g y = counted c.bytes (rw (c.past, c.formed) (on c.reached c.found g)) y

  pub left_smaller : {t : Reading} → goes_on s.next ≡ true → StepOf s.reader t → left j t.reader.at t.next < left j s.reader.at s.next
  unfolding counted_more counted
  left_smaller {t} g y =
      let d = counted_more g y in
      rw g (rw d.past (left_less t.next d.found))

  -- no more lines than bytes
  pub lines_fit : goes_on s.next ≡ true → k + 1 ≤ length j
  lines_fit g = omega (arith, (few_lines c.reached).0, (onward c.found g).0, (onward c.found g).1)

  pub counted_all : goes_on s.next ≡ false → CountsLines j (record { lines = k; last = s.next })
  counted_all g = record { at = c.at; form = c.form; reached = c.reached; found = c.found; stops = g }
