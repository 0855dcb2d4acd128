-- What the lines of a journal spell: the line of a step is that of its call, and its row is one of the rows of the journal's form; the first line
-- of `fabric=1` says cap = lines.
use Prim.Native.Nat.{ℕ, zero, suc, ◌-◌, ◌≤◌, ◌<◌}
use mathlib.Core.{Path.{◌≡◌, refl, sym, ◌∙◌, ap, subst}, Bool.{Bool, false}, List.{List, [], ◌∷◌, ◌++◌, append_assoc, map}}
use native.Mathlib.{Omega.arith, Nat.{le_of_suc-le-suc, not-suc-le-zero}}
use lib.{Dec.eqb, ListN.{length, get_or, take, drop, length-append}, Seq.take_at}
use borrow.Author.Tests.{eq-eqb}
use Rattle.protocol.specs.{Pick.pick, Buffers.{Bytes, part}, About.about, declared.{Opening.Opening as Sizes, Call.Call}}
use Rattle.spelling.{specs.{Bytes.{All, Byte}, Hex.{hex, unhex}}, proofs.HexLaws.unhex_hex}
use Rattle.grammar.specs.Form.{Part, fixed, value, number, pairs, Given, spell}
use Rattle.grammar.specs.Table.{Numbered, Says, opens, calls, Row, rows_of, no_row, row_at}
use Rattle.grammar.specs.Line.{said, LineOf, too_long, no_form, wrong_number, wrong_data, spelt}
use Rattle.std.specs.Prelude.{Some, None, Result, Ok, Err}
use Rattle.grammar.{specs.declared.{Line.{Line, TheVariants.{Opening as OpeningLine, Step as StepLine}}, Refusal.Refusal}, proofs.Forms.row_shape}
use Rattle.journal.specs.Journal.{Next, in_journal, LineAt, NextOf, too_much, empty, ended, unended, a_line}
use Rattle.journal.specs.declared.Item.TheVariants.{Opening, Step}
use Rattle.driver.proofs.Reading.{ends_in, ends_drop, line_data}
use Rattle.convert.specs.{Spelling.{row_of, numbers_of, step_line}, Conversion.is_victim}

-- ---- the rows of the steps

-- how many numbers a line of a form has; data are a form's last part
unfoldable numbers_in : List Part → ℕ
numbers_in [] = 0
numbers_in (fixed b ∷ p) = numbers_in p
numbers_in (value number ∷ p) = suc (numbers_in p)
numbers_in (value pairs ∷ p) = 0

-- the first k numbers
abbrev first_of : ℕ → Numbered → List ℕ
first_of zero n = []
first_of (suc k) n = n 0 ∷ first_of k (λ i. n (suc i))

-- a form is given as many numbers as it has
given_numbers : (p : List Part) (ns bs : List ℕ) → Given p ns bs → first_of (numbers_in p) (λ i. get_or ns i 0) ≡ ns
unfolding Given numbers_in
given_numbers [] ns bs g = sym g.0
given_numbers (fixed b ∷ p) ns bs g = given_numbers p ns bs g
given_numbers (value number ∷ p) [] bs g = absurd g
given_numbers (value number ∷ p) (n ∷ ns) bs g = ap (λ (l : List ℕ). n ∷ l) (given_numbers p ns bs g.1)
given_numbers (value pairs ∷ p) ns bs g = sym g.0

-- and bytes
given_bytes : (p : List Part) (ns bs : List ℕ) → Given p ns bs → All Byte bs
unfolding Given
given_bytes [] ns bs g = rw g.1 tt
given_bytes (fixed b ∷ p) ns bs g = given_bytes p ns bs g
given_bytes (value number ∷ p) [] bs g = absurd g
given_bytes (value number ∷ p) (n ∷ ns) bs g = given_bytes p ns bs g.1
given_bytes (value pairs ∷ p) ns bs g = g.2

-- a row, and the numbers of a line of it
record Place : Type 0 where
  row : Row
  numbers : List ℕ

-- those of a call
abbrev place_of : Says → Place
place_of (opens f o) = record { row = no_row; numbers = [] }
place_of (calls call) = record { row = row_of call; numbers = numbers_of call }

-- those of a row
abbrev place_in : Numbered → Row → Place
place_in n r = record { row = r; numbers = first_of (numbers_in r.form) n }

-- what is said is about a victim
abbrev of_victim : Says → Bool
of_victim (opens f o) = false
of_victim (calls call) = is_victim (about call).line

-- two functions that agree on a list agree at each index
map_at : {A B : Type 0} (f g : A → B) (l : List A) → map f l ≡ map g l → (k : ℕ) (d : A) → k < length l → f (get_or l k d) ≡ g (get_or l k d)
map_at f g [] e k d h = absurd (not-suc-le-zero h)
map_at f g (x ∷ l) e zero d h = cc
map_at f g (x ∷ l) e (suc k) d h = map_at f g l (cc) k d (le_of_suc-le-suc h)

-- the rows of a form have the calls that they say
rows_placed : (form : ℕ) → (form ≡ 0 → ⊥) → (n : Numbered) → map (λ r. place_of (r.says n)) (rows_of form) ≡ map (place_in n) (rows_of form)
unfolding numbers_in
rows_placed zero h n = absurd (h refl)
rows_placed (suc zero) h n = refl
rows_placed (suc (suc zero)) h n = refl
rows_placed (suc (suc (suc form))) h n = refl

-- `fabric=1` has no victim
row_plain : (form k : ℕ) (n : Numbered) → form ≡ 1 → k < length (rows_of form) → of_victim ((row_at (rows_of form) k).says n) ≡ false
row_plain form k n e = rw e (map_at (λ r. of_victim (r.says n)) (λ r. false) (rows_of 1) refl k no_row)

-- ---- a step

-- the line s of a step in a journal of a form, whose digits are ds: it is the line of the call, and the form has the call's row
pub record StepSpelt (form : ℕ) (call : Call) (ds s : Bytes) : Type 0 where
  pub line : s ≡ step_line call ds
  pub row : ℕ
  pub listed : row < length (rows_of form)
  pub is : row_at (rows_of form) row ≡ row_of call
  pub says : (row_of call).says (λ i. get_or (numbers_of call) i 0) ≡ calls call
  pub given : Given (row_of call).form (numbers_of call) (unhex ds)
  pub digits : hex (unhex ds) ≡ ds
  pub plain : form ≡ 1 → is_victim (about call).line ≡ false

-- a step at an offset of a journal of a form, and the next line after it
pub record StepAt (j : Bytes) (at form : ℕ) (call : Call) (start end next : ℕ) : Type 0 where
  pub text : Bytes
  pub placed : LineAt j at text next
  pub short : length text ≤ 200
  pub spelt : StepSpelt form call (part j start (end - start)) text

-- the line of a row that says a call
call_spelt :
    (form : ℕ) → (form ≡ 0 → ⊥) → (s : Bytes) (k : ℕ) → k < length (rows_of form) → (ns bs : List ℕ) (call : Call)
    → (row_at (rows_of form) k).says (λ i. get_or ns i 0) ≡ calls call → Given (row_at (rows_of form) k).form ns bs
    → s ≡ spell (row_at (rows_of form) k).form ns bs → StepSpelt form call (hex bs) s
call_spelt form h s k listed ns bs call e g same =
    let r = row_at (rows_of form) k in
    let n : Numbered = λ i. get_or ns i 0 in
    let p : place_of (calls call) ≡ place_in n r =
    ap place_of (sym e) ∙ map_at (λ r. place_of (r.says n)) (place_in n) (rows_of form) (rows_placed form h n) k no_row listed in
    let er : r ≡ row_of call = sym (ap (λ (x : Place). x.row) p) in
    let en : ns ≡ numbers_of call = sym (ap (λ (x : Place). x.numbers) p ∙ given_numbers r.form ns bs g) in
    let u : unhex (hex bs) ≡ bs = unhex_hex bs (given_bytes r.form ns bs g) in
    record {
      line = same ∙ rw (er, en, u);
      row = k;
      listed = listed;
      is = er;
      says = rw (← er, ← en) e;
      given = rw (← er, ← en, u) g;
      digits = ap hex u;
      plain = λ z. ap of_victim (sym e) ∙ row_plain form k n z listed;
    }

-- what is known of a line that is read: its data are at its end, and a step is spelt by its call
abbrev LineSpelt : ℕ → Bytes → Line → Type 0
LineSpelt form s (OpeningLine f o) = f ≡ 1 → o.cap ≡ o.lines
LineSpelt form s (StepLine call start end) = (length s ≤ 200) × (start ≤ end) × (end ≡ length s) × ((form ≡ 0 → ⊥) → StepSpelt form call (drop start s) s)

-- the same of a line's answer
abbrev AnswerSpelt : ℕ → Bytes → Result Line Refusal → Type 0
AnswerSpelt form s (Ok a) = LineSpelt form s a
AnswerSpelt form s (Err r) = Unit {0}

-- the capacity that a first line of `fabric=1` says, and its lines
abbrev cap_said : Says → ℕ
cap_said (opens f o) = pick (eqb f 1) o.cap o.lines
cap_said (calls call) = 0

abbrev lines_said : Says → ℕ
lines_said (opens f o) = o.lines
lines_said (calls call) = 0

-- they are the same
rows_cap : (form : ℕ) (n : Numbered) → map (λ r. cap_said (r.says n)) (rows_of form) ≡ map (λ r. lines_said (r.says n)) (rows_of form)
rows_cap zero n = refl
rows_cap (suc zero) n = refl
rows_cap (suc (suc zero)) n = refl
rows_cap (suc (suc (suc form))) n = refl

-- the first line of a row
opening_row : (form k : ℕ) (n : Numbered) (f : ℕ) (o : Sizes) → k < length (rows_of form) → (row_at (rows_of form) k).says n ≡ opens f o → f ≡ 1 → o.cap ≡ o.lines
opening_row form k n f o h e i =
    let c = map_at (λ r. cap_said (r.says n)) (λ r. lines_said (r.says n)) (rows_of form) (rows_cap form n) k no_row h in
    sym (ap (λ (b : Bool). pick b o.cap o.lines) (eq-eqb f 1 i)) ∙ ap cap_said (sym e) ∙ c ∙ ap lines_said e

-- a line of a row, by what it says
says_spelt :
    (form : ℕ) (s : Bytes) (k : ℕ) → length s ≤ 200 → k < length (rows_of form) → (ns bs : List ℕ) → Given (row_at (rows_of form) k).form ns bs
    → s ≡ spell (row_at (rows_of form) k).form ns bs → (w : Says) → (row_at (rows_of form) k).says (λ i. get_or ns i 0) ≡ w
    → LineSpelt form s (said w (length s - length (hex bs)) (length s))
says_spelt form s k short listed ns bs g e (opens f o) i = opening_row form k (λ i. get_or ns i 0) f o listed i
says_spelt form s k short listed ns bs g e (calls call) i =
    let p = (row_at (rows_of form) k).form in
    let d : drop (length s - length (hex bs)) s ≡ hex bs = ends_drop p s bs (rw e (ends_in p (row_shape form k listed) ns bs g)) in
    (short, omega arith, refl, λ h. rw d (call_spelt form h s k listed ns bs call i g e))

-- a line that is read
line_spelt : (form : ℕ) (s : Bytes) {a : Result Line Refusal} → LineOf (rows_of form) s a → AnswerSpelt form s a
line_spelt form s (too_long l) = tt
line_spelt form s (no_form l n) = tt
line_spelt form s (wrong_number k vs l f n) = tt
line_spelt form s (wrong_data k vs l f n d) = tt
line_spelt form s (spelt l x) = subst (LineSpelt form s) (sym x.answer) (says_spelt form s x.k l x.listed x.numbers x.bytes x.given x.same _ refl)

-- what is known of an answer at an offset
abbrev NextSpelt : Bytes → ℕ → ℕ → Next → Type 0
NextSpelt j at form (Ok (Some (Opening f o next))) = f ≡ 1 → o.cap ≡ o.lines
NextSpelt j at form (Ok (Some (Step call start end next))) = (form ≡ 0 → ⊥) → StepAt j at form call start end next
NextSpelt j at form (Ok None) = Unit
NextSpelt j at form (Err r) = Unit

-- a line at an offset
line_placed : (j : Bytes) (at form : ℕ) (l : Bytes) (next : ℕ) (a : Result Line Refusal) → LineAt j at l next → AnswerSpelt form l a → NextSpelt j at form (in_journal a at next)
line_placed j at form l next (Ok (OpeningLine f o)) h x = x
line_placed j at form l next (Ok (StepLine call start end)) h x = λ z.
    record { text = l; placed = h; short = x.0; spelt = rw (line_data start end h x.1 x.2) (x.3 z) }
line_placed j at form l next (Err r) h x = tt

-- any answer
next_spelt : {j : Bytes} {at form : ℕ} {b : Next} → NextOf j at form b → NextSpelt j at form b
next_spelt (too_much l) = tt
next_spelt (empty l h e) = tt
next_spelt (ended l h n) = tt
next_spelt (unended l h w) = tt
next_spelt {j} {at} {form} (a_line {a = a} l next s h o) = line_placed j at form l next a h (line_spelt form l o)

-- a step at an offset of a journal
pub step_at :
    (form : ℕ) → (form ≡ 0 → ⊥) → {j : Bytes} {at : ℕ} {call : Call} {start end next : ℕ} → NextOf j at form (Ok (Some (Step call start end next)))
    → StepAt j at form call start end next
step_at form h x = next_spelt x h

-- the first line of `fabric=1`
pub opening_cap : {j : Bytes} {o : Sizes} {next : ℕ} → NextOf j 0 0 (Ok (Some (Opening 1 o next))) → o.cap ≡ o.lines
opening_cap x = next_spelt x refl

-- a line with its newline is a part of the journal; that the part lies inside it is `line_inside`
pub line_part : {j : Bytes} {at : ℕ} {s : Bytes} {next : ℕ} → LineAt j at s next → take (next - at) (drop at j) ≡ s ++ (10 ∷ [])
line_part {j} {at} {s} {next} h =
    let e : drop at j ≡ (s ++ (10 ∷ [])) ++ drop next j = h.whole ∙ sym (append_assoc s (10 ∷ []) (drop next j)) in
    let m : length (s ++ (10 ∷ [])) ≡ next - at = length-append s (10 ∷ []) ∙ omega (arith, h.after) in
    ap (take (next - at)) e ∙ take_at (s ++ (10 ∷ [])) (drop next j) (next - at) m
