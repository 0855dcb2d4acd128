-- N of 01: a number in decimal, without leading zeros, at most 4,294,967,295. Assumes nothing.
use Rattle.std.specs.Prelude.{ℕ, zero, suc, ◌+◌, ◌/◌, ◌%◌, ◌≤◌}
use mathlib.Core.{Path.◌≡◌, List.{List, [], ◌∷◌, ◌++◌}, Bool.cond}
use Rattle.std.specs.Prelude.{ltb, Option, Some, None}

-- n in decimal: its last digit, after the digits of the rest where there is a rest. At most k + 1 digits.
unfoldable pub decimal_up_to : ℕ → ℕ → List ℕ
decimal_up_to zero n = (48 + n) ∷ []
decimal_up_to (suc k) n = cond (ltb n 10) ((48 + n) ∷ []) (decimal_up_to k (n / 10) ++ ((48 + n % 10) ∷ []))

-- n in decimal: the greatest number of 64 bits, 18,446,744,073,709,551,615, has twenty digits
unfoldable pub decimal : ℕ → List ℕ
unfolding decimal_up_to
decimal n = decimal_up_to 19 n

-- the greatest number that a journal can name
abbrev pub greatest : ℕ
greatest = 4294967295

-- the bytes v are a number of 01 (a wrong N is refusal 12)
abbrev pub IsNumber : List ℕ → Type 0
IsNumber v = (n : ℕ) × (n ≤ greatest) × (v ≡ decimal n)

-- what reading the bytes v as a number finds: its value, or that they are no number
abbrev pub NumberOf : List ℕ → Option ℕ → Type 0
NumberOf v (Some n) = (n ≤ greatest) × (v ≡ decimal n)
NumberOf v None = IsNumber v → ⊥
