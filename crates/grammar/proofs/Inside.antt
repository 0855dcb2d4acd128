-- The data of a step line lie in the line, at its end. Assumes nothing.
use Prim.Native.Nat.{ℕ, ◌≤◌, ◌-◌}
use mathlib.Core.{Path.{◌≡◌, refl, sym, subst}, List.List}
use native.Mathlib.Omega.{arith}
use lib.ListN.{length, get_or}
use Rattle.spelling.specs.Hex.{hex}
use Rattle.grammar.specs.{Table.{Says, opens, calls, Row, row_at}, Line.{said, LineOf, too_long, no_form, wrong_number, wrong_data, spelt}}
use Rattle.std.specs.Prelude.{Result, Ok, Err}
use Rattle.grammar.specs.declared.{Line.{Line, TheVariants.{Opening, Step}}, Refusal.Refusal}

-- where a line says that data are, in a line of n bytes
abbrev pub InsideLine : ℕ → Line → Type 0
InsideLine n (Opening form sizes) = Unit
InsideLine n (Step call start end) = (start ≤ end) × (end ≡ n)

-- the same of an answer
abbrev pub Inside : ℕ → Result Line Refusal → Type 0
Inside n (Ok line) = InsideLine n line
Inside n (Err refusal) = Unit

said_inside : (w : Says) (start n : ℕ) → start ≤ n → InsideLine n (said w start n)
said_inside (opens form sizes) start n h = tt
said_inside (calls call) start n h = (h, refl)

pub inside : {rows : List Row} {s : List ℕ} {a : Result Line Refusal} → LineOf rows s a → Inside (length s) a
inside (too_long l) = tt
inside (no_form l n) = tt
inside (wrong_number k vs l f n) = tt
inside (wrong_data k vs l f n d) = tt
inside {rows} {s} (spelt l x) =
    subst (InsideLine (length s)) (sym x.answer) (said_inside ((row_at rows x.k).says (λ i. get_or x.numbers i 0)) (length s - length (hex x.bytes)) (length s) (omega arith))
