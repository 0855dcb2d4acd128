-- Laws of the decimal spelling. Assumes nothing.
use Prim.Native.Nat.{ℕ, zero, suc, ◌+◌, ◌*◌, ◌/◌, ◌%◌, ◌≤◌, ◌<◌, ◌-◌, ◌^◌}
use mathlib.Core.{Path.{◌≡◌, refl, sym, ◌∙◌, ap, ap₂, subst}, List.{List, [], ◌∷◌, ◌++◌}, Logic.{⊎_elim}}
use native.Mathlib.{Numerals.add-one, Omega.arith, Nat.{le_trans, pow-suc}}
use lib.{ListN.{length, get_or, take, drop, length-append, get_or-append}, Dec.lit<, Seq.{split_at, get_or-take, take_all, take-suc}}
use borrow.Author.Tests.{lt-ltb, le-ltb}
use Rattle.spelling.specs.{Bytes.All, Decimal.{decimal_up_to, decimal, greatest, NumberOf}}
use Rattle.std.specs.Prelude.{None}
use Rattle.spelling.proofs.Lists.{le_or_lt, High, all_append, all_at}

-- n has at most k + 1 digits
abbrev Below : ℕ → ℕ → Type 0
Below k n = n < 10 ^ suc k

-- the greatest number of 64 bits
abbrev pub widest : ℕ
widest = 18446744073709551615

tenth : (p n : ℕ) → n < p * 10 → n / 10 < p
tenth p n h = omega arith

fewer : (k n : ℕ) → Below (suc k) n → Below k (n / 10)
fewer k n h = tenth (10 ^ suc k) n (rw (pow-suc 10 (suc k)) at h)

small : (k n : ℕ) → n < 10 → decimal_up_to k n ≡ (48 + n) ∷ []
unfolding decimal_up_to
small zero n h = refl
small (suc k) n h = rw (lt-ltb n 10 h)

large : (k n : ℕ) → 10 ≤ n → decimal_up_to (suc k) n ≡ decimal_up_to k (n / 10) ++ ((48 + n % 10) ∷ [])
unfolding decimal_up_to
large k n h = rw (le-ltb n 10 h)

room : (k n : ℕ) → Below k n → decimal_up_to (suc k) n ≡ decimal_up_to k n
room zero n b = small 1 n b ∙ sym (small 0 n b)
room (suc k) n b =
    ⊎_elim (λ h. large (suc k) n h ∙ ap (λ (l : List ℕ). l ++ ((48 + n % 10) ∷ [])) (room k (n / 10) (fewer k n b)) ∙ sym (large k n h))
    (λ h. small (suc (suc k)) n h ∙ sym (small (suc k) n h)) (le_or_lt 10 n)

-- what holds of each digit, and of a number where it holds of the number without its last digit, holds of every number
module _ (P : ℕ → List ℕ → Type 0) (one : (d : ℕ) → d < 10 → P d ((48 + d) ∷ [])) (more : (n : ℕ) (l : List ℕ) → 10 ≤ n → P (n / 10) l → P n (l ++ ((48 + n % 10) ∷ []))) where
  by_digits : (k n : ℕ) → Below k n → P n (decimal_up_to k n)
  by_digits zero n b = rw (small 0 n b) (one n b)
  by_digits (suc k) n b =
      ⊎_elim (λ h. rw (large k n h) (more n (decimal_up_to k (n / 10)) h (by_digits k (n / 10) (fewer k n b)))) (λ h. rw (small (suc k) n h) (one n h)) (le_or_lt 10 n)

  decimal_by : (n : ℕ) → n ≤ widest → P n (decimal n)
  unfolding decimal
  decimal_by n h = let s : n < 100000000000000000000 = omega arith in by_digits 19 n s

-- one digit more
pub decimal_more : (v d : ℕ) → 0 < v → d < 10 → v * 10 + d ≤ widest → decimal (v * 10 + d) ≡ decimal v ++ ((48 + d) ∷ [])
unfolding decimal
decimal_more v d hv hd h =
    let q : (v * 10 + d) / 10 ≡ v = omega arith in
    let m : (v * 10 + d) % 10 ≡ d = omega arith in
    let s : v < 10000000000000000000 = omega arith in
    large 18 (v * 10 + d) (omega arith) ∙ rw (q, m, room 18 v s)

pub decimal_step : (n : ℕ) → 10 ≤ n → n ≤ widest → decimal n ≡ decimal (n / 10) ++ ((48 + n % 10) ∷ [])
decimal_step n h k =
    let e : n / 10 * 10 + n % 10 ≡ n = omega arith in
    ap decimal (sym e) ∙ decimal_more (n / 10) (n % 10) (omega arith) (omega arith) (omega arith)

pub decimal_digit : (d : ℕ) → d < 10 → decimal d ≡ (48 + d) ∷ []
unfolding decimal
decimal_digit d h = small 19 d h

-- the value of a list of digits, after a number a
unfoldable pub value : ℕ → List ℕ → ℕ
value a [] = a
value a (b ∷ bs) = value (a * 10 + (b - 48)) bs

value_append : (a : ℕ) (p q : List ℕ) → value a (p ++ q) ≡ value (value a p) q
unfolding value
value_append a [] q = refl
value_append a (b ∷ p) q = value_append (a * 10 + (b - 48)) p q

value_grows : (a : ℕ) (q : List ℕ) → a ≤ value a q
unfolding value
value_grows a [] = omega arith
value_grows a (b ∷ q) = le_trans (omega arith) (value_grows (a * 10 + (b - 48)) q)

value_up_to : (k n : ℕ) → value 0 (decimal_up_to k n) ≡ n
unfolding value
value_up_to zero n = unfold decimal_up_to in omega arith
value_up_to (suc k) n =
    ⊎_elim (λ h. rw (large k n h, value_append 0 (decimal_up_to k (n / 10)) ((48 + n % 10) ∷ []), value_up_to k (n / 10)) (omega arith))
    (λ h. rw (small (suc k) n h) (omega arith)) (le_or_lt 10 n)

pub value_decimal : (n : ℕ) → value 0 (decimal n) ≡ n
unfolding decimal
value_decimal n = value_up_to 19 n

-- two numbers are not spelt alike, however great they are
pub decimal_injective : (m n : ℕ) → decimal m ≡ decimal n → m ≡ n
decimal_injective m n e = sym (value_decimal m) ∙ ap (value 0) e ∙ value_decimal n

high_up_to : (k n : ℕ) → All High (decimal_up_to k n)
high_up_to zero n = unfold decimal_up_to in (omega arith, tt)
high_up_to (suc k) n =
    ⊎_elim (λ h. rw (large k n h) (all_append High (decimal_up_to k (n / 10)) _ (high_up_to k (n / 10)) (omega arith, tt)))
    (λ h. rw (small (suc k) n h) (omega arith, tt)) (le_or_lt 10 n)

-- no byte of a number is below the digit 0
pub decimal_high : (n : ℕ) → All High (decimal n)
unfolding decimal
decimal_high n = high_up_to 19 n

abbrev pub Digit : ℕ → Type 0
Digit b = (48 ≤ b) × (b ≤ 57)

pub decimal_digits : (n : ℕ) → n ≤ greatest → All Digit (decimal n)
decimal_digits n h =
    decimal_by (λ n l. All Digit l) (λ d h. ((omega arith, omega arith), tt)) (λ n l h a. all_append Digit l _ a ((omega arith, omega arith), tt)) n (omega arith)

-- there is a first digit, and it is 0 only in the spelling of 0
decimal_first : (n : ℕ) → n ≤ widest → (0 < length (decimal n)) × (get_or (decimal n) 0 0 ≡ 48 → n ≡ 0)
decimal_first =
    decimal_by (λ n l. (0 < length l) × (get_or l 0 0 ≡ 48 → n ≡ 0)) (λ d h. (omega arith, λ e. omega arith))
    (λ n l h a. (simp length-append (omega arith), λ e. let z : n / 10 ≡ 0 = a.1 (sym (get_or-append l _ 0 0 a.0) ∙ e) in omega arith))

pub decimal_nonempty : (n : ℕ) → n ≤ widest → 0 < length (decimal n)
decimal_nonempty n h = (decimal_first n h).0

short_up_to : (k n : ℕ) → length (decimal_up_to k n) ≤ k + 1
short_up_to zero n = unfold decimal_up_to in omega arith
short_up_to (suc k) n =
    ⊎_elim (λ h. rw (large k n h, length-append) (omega (arith, short_up_to k (n / 10)))) (λ h. rw (small (suc k) n h) (omega arith)) (le_or_lt 10 n)

-- a number has at most twenty digits
pub decimal_short : (n : ℕ) → length (decimal n) ≤ 20
unfolding decimal
decimal_short n = short_up_to 19 n

-- ---- a number that is read digit by digit

-- what keeps bytes from being a number's spelling
pub not_empty : (s : List ℕ) (n : ℕ) → n ≤ greatest → s ≡ decimal n → length s ≡ 0 → ⊥
not_empty s n h e z = omega (arith, decimal_nonempty n (omega arith), ap length e)

pub not_digit : (s : List ℕ) (i n : ℕ) → n ≤ greatest → s ≡ decimal n → i < length s → Digit (get_or s i 0)
not_digit s i n h e hi = rw e (all_at Digit (decimal n) (decimal_digits n h) i (rw e at hi))

pub not_lead : (s : List ℕ) (i n : ℕ) → n ≤ greatest → s ≡ decimal n → 1 ≤ i → i < length s → take i s ≡ decimal 0 → ⊥
not_lead s i n h e h1 hi t =
    let z : n ≡ 0 = (decimal_first n (omega arith)).1 (ap (λ (l : List ℕ). get_or l 0 0) (sym e) ∙ sym (get_or-take i s 0 0 h1) ∙ ap (λ (l : List ℕ). get_or l 0 0) (t ∙ decimal_digit 0 (lit< tt))) in
    omega (arith, ap length (e ∙ ap decimal z ∙ decimal_digit 0 (lit< tt)))

pub not_over : (s : List ℕ) (i v n : ℕ) → s ≡ decimal n → i < length s → take i s ≡ decimal v → v * 10 + (get_or s i 0 - 48) ≤ n
unfolding value
not_over s i v n e hi t =
    let whole-value : value 0 s ≡ n = ap (value 0) e ∙ value_decimal n in
    let parts : value 0 s ≡ value (value 0 (take i s) * 10 + (get_or s i 0 - 48)) (drop (suc i) s) = ap (value 0) (split_at s i 0 hi) ∙ value_append 0 (take i s) _ in
    let front : value 0 (take i s) ≡ v = ap (value 0) t ∙ value_decimal v in
    omega (arith, value_grows (value 0 (take i s) * 10 + (get_or s i 0 - 48)) (drop (suc i) s))

-- b can stand behind the number v as one digit more
abbrev pub Follows : ℕ → ℕ → Type 0
Follows v b = (48 ≤ b) × (b ≤ 57) × (0 < v) × (v * 10 + (b - 48) ≤ greatest)

pub no_empty : (s : List ℕ) → length s ≡ 0 → NumberOf s None
no_empty s z (n, h, e) = not_empty s n h e z

-- bytes of which the first is b
module _ (s : List ℕ) (b : ℕ) (rest : List ℕ) (p : s ≡ b ∷ rest) where
  at : (i : ℕ) → get_or s (i + 1) 0 ≡ get_or rest i 0
  at i = rw (p, add-one i)

  size : length s ≡ length rest + 1
  size = rw p (omega arith)

  pub no_first : (Digit b → ⊥) → NumberOf s None
  no_first f (n, h, e) = f (subst (λ (l : List ℕ). Digit (get_or l 0 0)) p (not_digit s 0 n h e (omega (arith, size))))

  pub first_digit : Digit b → take 1 s ≡ decimal (b - 48)
  first_digit d = rw p (ap (λ (x : ℕ). x ∷ []) (omega arith) ∙ sym (decimal_digit (b - 48) (omega arith)))

  pub no_next : (i v : ℕ) → i < length rest → take (i + 1) s ≡ decimal v → (Follows v (get_or rest i 0) → ⊥) → NumberOf s None
  no_next i v hi t f (n, h, e) =
      let d : Digit (get_or rest i 0) = subst Digit (at i) (not_digit s (i + 1) n h e (omega (arith, size))) in
      let w : v * 10 + (get_or rest i 0 - 48) ≤ n = subst (λ (x : ℕ). v * 10 + (x - 48) ≤ n) (at i) (not_over s (i + 1) v n e (omega (arith, size)) t) in
      ⊎_elim (λ (z : 1 ≤ v). f (d.0, d.1, z, omega arith))
      (λ (z : v < 1). let v0 : v ≡ 0 = omega arith in not_lead s (i + 1) n h e (omega arith) (omega (arith, size)) (t ∙ ap decimal v0)) (le_or_lt 1 v)

  pub next_digit : (i v : ℕ) → i < length rest → take (i + 1) s ≡ decimal v → Follows v (get_or rest i 0) → take (i + 1 + 1) s ≡ decimal (v * 10 + (get_or rest i 0 - 48))
  next_digit i v hi t f =
      let h : i + 1 < length s = omega (arith, size) in
      rw (add-one (i + 1)) (take-suc s (i + 1) 0 h ∙ ap₂ (λ (l : List ℕ) (x : ℕ). l ++ (x ∷ [])) t (at i ∙ omega arith) ∙ sym (decimal_more v (get_or rest i 0 - 48) f.2 (omega arith) (omega arith)))

  pub whole : (i v : ℕ) → length rest ≤ i → take (i + 1) s ≡ decimal v → s ≡ decimal v
  whole i v h t = sym (take_all (i + 1) s (omega (arith, size))) ∙ t
