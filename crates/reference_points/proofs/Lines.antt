-- What lines say: the one answer that the grammar gives for each line is computed, and is the one that is told.
use Prim.Native.Nat.{ℕ}
use mathlib.Core.{Path.{◌≡◌, refl, subst}, List.List}
use Rattle.spelling.{specs.{Bytes.up_to, Decimal.{decimal, decimal_up_to}, Hex.{hex, unhex}}, proofs.DecimalLaws.value}
use Rattle.grammar.{specs.{Table.rows_of, Line.LineOf, Refusal.number, declared.{Line.Line, Refusal.Refusal}}, proofs.OneAnswer.one_answer}
use Rattle.std.specs.Prelude.{Result, Ok, Err}
use Rattle.reference_points.specs.Lines.{Spoken, spoken, Says, spoken_lines, LinesTheorem}
use Rattle.reference_points.proofs.Each.{each}

-- the answer of a line
unfoldable pub answer : ℕ → List ℕ → Result Line Refusal
unfolding one_answer up_to decimal decimal_up_to hex value unhex
answer form s = (one_answer form s).answer

pub says : (form : ℕ) (s : List ℕ) {a : Result Line Refusal} → answer form s ≡ a → LineOf (rows_of form) s a
unfolding answer
says form s e = subst (LineOf (rows_of form) s) e (one_answer form s).holds

-- an answer with its number in place of the refusal, and that a line says it
abbrev numbered : Result Line Refusal → Result Line ℕ
numbered (Ok a) = Ok a
numbered (Err r) = Err (number r)

says_numbered : (form : ℕ) (s : List ℕ) (a : Result Line Refusal) → LineOf (rows_of form) s a → Says (spoken form s (numbered a))
says_numbered form s (Ok a) x = x
says_numbered form s (Err r) x = (r, refl, x)

-- the answer of a line of the table, and what the table tells of it
abbrev found : Spoken → Result Line ℕ
found (spoken form s a) = numbered (answer form s)

abbrev told : Spoken → Result Line ℕ
told (spoken form s a) = a

holds : (k : Spoken) → found k ≡ told k → Says k
holds (spoken form s a) e = subst (λ (b : Result Line ℕ). Says (spoken form s b)) e (says_numbered form s _ (says form s refl))

pub lines_theorem : LinesTheorem
unfolding answer
lines_theorem = each found told holds spoken_lines refl
