-- The theorems of specs/Theorems: reading a number leaves no freedom, and what is printed is read back. Assumes nothing.
use Prim.Native.Nat.{ℕ}
use mathlib.Core.{Path.{◌≡◌, refl, sym, ◌∙◌, ap}, List.List, Logic.⊎_elim}
use native.Mathlib.Omega.{arith}
use Rattle.spelling.specs.Decimal.{decimal, NumberOf}
use Rattle.spelling.specs.Theorems.{NumberOneTheorem, DecimalRoundTripTheorem, HexRoundTripTheorem}
use Rattle.std.specs.Prelude.{Option, Some, None}
use Rattle.spelling.proofs.{Decide.number_told, DecimalLaws.decimal_injective, HexLaws.{unhex_hex, data_spelt}}

-- ---- numbers

number_same : (v : List ℕ) (q r : Option ℕ) → NumberOf v q → NumberOf v r → q ≡ r
number_same v (Some n) (Some m) x y = ap Some (decimal_injective n m (sym x.1 ∙ y.1))
number_same v (Some n) None x y = absurd (y (n, omega (arith, x.0), x.1))
number_same v None (Some m) x y = absurd (x (m, omega (arith, y.0), y.1))
number_same v None None x y = refl

pub number_one_theorem : NumberOneTheorem
number_one_theorem v =
    ⊎_elim (λ (n, h, e). record { answer = Some n; holds = (omega (arith, h), e); only = λ r x. number_same v r (Some n) x (omega (arith, h), e) })
    (λ n. record { answer = None; holds = n; only = λ r x. number_same v r None x n }) (number_told v)

pub decimal_round_trip_theorem : DecimalRoundTripTheorem
decimal_round_trip_theorem = ((λ n r h x. number_same (decimal n) r (Some n) x (omega (arith, h), refl)), (λ s n x. sym x.1))

-- ---- data

pub hex_round_trip_theorem : HexRoundTripTheorem
hex_round_trip_theorem = (unhex_hex, λ v d. sym (data_spelt v d).same)
