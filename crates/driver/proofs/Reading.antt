-- Reading a journal: what is known of the answer at an offset.
use Prim.Native.Nat.{ℕ, suc, ◌+◌, ◌/◌, ◌-◌, ◌≤◌, ◌<◌}
use mathlib.Core.{Path.{◌≡◌, refl, sym, ◌∙◌, ap, ap₂, subst}, Bool.{true, false}, List.{List, [], ◌∷◌, ◌++◌, append_assoc, append-nil}}
use native.Mathlib.Omega.{arith}
use lib.{ListN.{length, get_or, take, drop, length-append, length-drop}, Seq.{drop_at, take_at, drop-drop, drop-append-le}}
use Rattle.protocol.specs.{Buffers.{Bytes, part}, About.about, Given.{given_as, bytes_as, bytes_given}, Refusals.given_refusal}
use Rattle.protocol.specs.declared.{Call.Call, Given.{Given, TheVariants.{Bytes as AsBytes, Digits as AsDigits}}}
use Rattle.protocol.proofs.{Tests.never, Digits.digits_right}
use Rattle.spelling.{specs.{Decimal.decimal, Hex.{hex, Spells}}, proofs.HexLaws.unhex_length}
use Rattle.grammar.specs.Form.{Part, fixed, value, number, pairs, lay, Given as Spelled, spellings, spell}
use Rattle.grammar.specs.Table.{Numbered, Says, opens as says_opening, calls, rows_of, row_at}
use Rattle.grammar.specs.Line.{said, Spelt, LineOf, too_long, no_form, wrong_number, wrong_data, spelt}
use Rattle.grammar.specs.Refusal.{number as number_of}
use Rattle.grammar.{specs.declared.{Line.{Line, TheVariants.{Opening as OpeningLine, Step as StepLine}}, Refusal.Refusal}, proofs.Fit.Shaped}
use Rattle.grammar.proofs.Forms.{SaysIn, row_says, row_shape, has_data, in_digits, Fed, row_fed}
use Rattle.std.specs.Prelude.{Some, None, Result, Ok, Err}
use Rattle.journal.specs.Journal.{Next, in_journal, LineAt, NextOf, too_much, empty, ended, unended, a_line as whole_line}
use Rattle.journal.specs.declared.Item.TheVariants.{Opening, Step}

-- ---- a step's data

-- a line of the form p ends with the digits of the bytes bs, which spell them where the form has an H; where it has none there are no bytes
pub record Ends (p : List Part) (s bs : Bytes) : Type 0 where
  pub before : Bytes
  pub same : s ≡ before ++ hex bs
  pub some : has_data p ≡ true → Spells (hex bs) bs
  pub none : has_data p ≡ false → bs ≡ []

pub ends_in : (p : List Part) → Shaped p → (ns bs : List ℕ) → Spelled p ns bs → Ends p (spell p ns bs) bs
unfolding Spelled spellings lay hex has_data
ends_in [] h ns bs g = record { before = []; same = ap hex (sym g.1); some = λ e. never (sym e); none = λ e. g.1 }
ends_in (fixed b ∷ p) h ns bs g =
    let e = ends_in p h ns bs g in record { before = b ∷ e.before; same = ap (λ (l : Bytes). b ∷ l) e.same; some = e.some; none = e.none }
ends_in (value number ∷ p) h [] bs g = absurd g
ends_in (value number ∷ p) h (n ∷ ns) bs g =
    let e = ends_in p h.1 ns bs g.1 in
    record {
      before = decimal n ++ e.before;
      same = ap (λ (l : Bytes). decimal n ++ l) e.same ∙ sym (append_assoc (decimal n) e.before (hex bs));
      some = e.some;
      none = e.none;
    }
ends_in (value pairs ∷ p) h ns bs g =
    record { before = []; same = rw h (append-nil (hex bs)); some = λ e. record { some = g.1; bytes = g.2; same = refl }; none = λ e. never e }

pub ends_drop : (p : List Part) (s bs : Bytes) → Ends p s bs → drop (length s - length (hex bs)) s ≡ hex bs
ends_drop p s bs e =
    let n : length s ≡ length e.before + length (hex bs) = ap length e.same ∙ length-append e.before (hex bs) in
    let k : length s - length (hex bs) ≡ length e.before = omega arith in
    ap₂ (λ (k : ℕ) (l : Bytes). drop k l) k e.same ∙ drop_at e.before (hex bs) (length e.before) refl

-- what is given to a call is right: digits that 13 does not refuse, two for each byte
abbrev pub Right : Call → Bytes → Type 0
Right call ds = (given_refusal (given_as (about call).act) ds ≡ 0) × (length (bytes_given call ds) ≡ length ds / 2)

ends_right : (p : List Part) (s bs : Bytes) (g : Given) → Ends p s bs → has_data p ≡ in_digits g → (given_refusal g (hex bs) ≡ 0) × (length (bytes_as g (hex bs)) ≡ length (hex bs) / 2)
unfolding hex
ends_right p s bs AsBytes e h = (refl, rw (e.none h) refl)
ends_right p s bs AsDigits e h = (digits_right (hex bs) bs (e.some h), unhex_length (hex bs))

-- ---- a line

-- what is known of a line that is read in a journal of some form
abbrev LineKnown : ℕ → Bytes → Line → Type 0
LineKnown form s (OpeningLine f o) = (form ≡ 0) × (f ≡ 0 → ⊥)
LineKnown form s (StepLine call start end) = (form ≡ 0 → ⊥) × (start ≤ end) × (end ≡ length s) × Right call (drop start s)

-- the same of a line's answer
abbrev AnswerKnown : ℕ → Bytes → Result Line Refusal → Type 0
AnswerKnown form s (Ok a) = LineKnown form s a
AnswerKnown form s (Err r) = number_of r ≤ 14

says_known : (form : ℕ) (p : List Part) (s : Bytes) (w : Says) (bs : Bytes) → SaysIn form w → Fed p w → Ends p s bs
    → LineKnown form s (said w (length s - length (hex bs)) (length s))
says_known form p s (says_opening f o) bs i h e = i
says_known form p s (calls c) bs i h e = (i, omega arith, refl, rw (ends_drop p s bs e) (ends_right p s bs (given_as (about c).act) e h))

spelt_known : (form : ℕ) (s : Bytes) (a : Line) → Spelt (rows_of form) s a → LineKnown form s a
spelt_known form s a x =
    let r = row_at (rows_of form) x.k in
    let n : Numbered = λ i. get_or x.numbers i 0 in
    subst (LineKnown form s) (sym x.answer)
    (says_known form r.form s (r.says n) x.bytes (row_says form x.k n x.listed) (row_fed form x.k n x.listed)
    (subst (λ (t : Bytes). Ends r.form t x.bytes) (sym x.same) (ends_in r.form (row_shape form x.k x.listed) x.numbers x.bytes x.given)))

line_known : (form : ℕ) (s : Bytes) {a : Result Line Refusal} → LineOf (rows_of form) s a → AnswerKnown form s a
line_known form s (too_long l) = omega arith
line_known form s (no_form l n) = omega arith
line_known form s (wrong_number k vs l f n) = omega arith
line_known form s (wrong_data k vs l f n d) = omega arith
line_known form s (spelt {a = a} l x) = spelt_known form s a x

-- ---- an offset of a journal

-- a step at an offset of a journal, and the next line after it
pub record StepAt (j : Bytes) (at : ℕ) (call : Call) (start end next : ℕ) : Type 0 where
  pub forward : at < next
  pub inside : next ≤ length j
  pub order : start ≤ end
  pub ends : end ≤ length j
  pub right : given_refusal (given_as (about call).act) (part j start (end - start)) ≡ 0
  pub count : length (bytes_given call (part j start (end - start))) ≡ (end - start) / 2

-- what is known of an answer at an offset, in a journal of some form
abbrev pub Known : Bytes → ℕ → ℕ → Next → Type 0
Known j at form (Ok (Some (Opening f o next))) = (form ≡ 0) × (f ≡ 0 → ⊥)
Known j at form (Ok (Some (Step call start end next))) = (form ≡ 0 → ⊥) × StepAt j at call start end next
Known j at form (Ok None) = form ≡ 0 → ⊥
Known j at form (Err r) = number_of r ≤ 14

-- the data of a line that is at an offset are those of the journal there
pub line_data :
    {j : Bytes} {at : ℕ} {l : Bytes} {next : ℕ} (start end : ℕ) → LineAt j at l next → start ≤ end → end ≡ length l
    → part j (at + start) (at + end - (at + start)) ≡ drop start l
line_data {j} {at} {l} {next} start end h i e =
    let r : drop (at + start) j ≡ drop start l ++ (10 ∷ drop next j) =
    sym (drop-drop start at j) ∙ ap (drop start) h.whole ∙ drop-append-le start l (10 ∷ drop next j) (omega arith) in
    let m : length (drop start l) ≡ at + end - (at + start) = length-drop start l ∙ omega arith in
    ap (take (at + end - (at + start))) r ∙ take_at (drop start l) (10 ∷ drop next j) (at + end - (at + start)) m

step_known :
    (j : Bytes) (at : ℕ) (l : Bytes) (next : ℕ) (call : Call) (start end : ℕ) → LineAt j at l next → start ≤ end → end ≡ length l
    → Right call (drop start l) → StepAt j at call (at + start) (at + end) next
step_known j at l next call start end h i e d =
    let n : length j - at ≡ length l + suc (length (drop next j)) = sym (length-drop at j) ∙ ap length h.whole ∙ length-append l (10 ∷ drop next j) in
    let m : length (drop start l) ≡ at + end - (at + start) = length-drop start l ∙ omega arith in
    let p = line_data start end h i e in
    record {
      forward = omega (arith, h.after);
      inside = omega (arith, h.after);
      order = omega arith;
      ends = omega arith;
      right = rw p d.0;
      count = rw p (d.1 ∙ ap (λ (k : ℕ). k / 2) m);
    }

placed_known : (j : Bytes) (at form : ℕ) (l : Bytes) (next : ℕ) (a : Result Line Refusal) → LineAt j at l next → AnswerKnown form l a → Known j at form (in_journal a at next)
placed_known j at form l next (Ok (OpeningLine f o)) h k = k
placed_known j at form l next (Ok (StepLine call start end)) h k =
    (k.0, step_known j at l next call start end h k.1 k.2 k.3)
placed_known j at form l next (Err r) h k = k

pub known : {j : Bytes} {at form : ℕ} {b : Next} → NextOf j at form b → Known j at form b
known (too_much l) = omega arith
known (empty l h e) = omega arith
known (ended l h n) = n
known (unended l h w) = omega arith
known {j} {at} {form} (whole_line {a = a} l next s h o) = placed_known j at form l next a h (line_known form l o)
