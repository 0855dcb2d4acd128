-- Laws of parts of a buffer: a part of a buffer that had another part replaced.
use Prim.Native.Nat.{ℕ, ◌+◌, ◌*◌, ◌-◌, ◌≤◌, ◌<◌}
use mathlib.Core.{Path.{◌≡◌, sym, ◌∙◌, ap}, Logic.by_cases, List.◌++◌}
use native.Mathlib.{Omega.arith, Decide.dec_lt, Nat.mul-le-mul_right}
use lib.{ListN.{length, replicate, length-take, length-drop, length-replicate, replicate-append-replicate}, Seq.{take_at, drop_at}}
use Rattle.spelling.{specs.Over.over, proofs.OverLaws.{part_before, part_after}}
use Rattle.protocol.specs.Buffers.{Bytes, part}

-- row i of w bytes ends by the start of row j
pub row_le : (w i j : ℕ) → i < j → i * w + w ≤ j * w
row_le w i j h = omega (arith, mul-le-mul_right w h)

pub length_part : (xs : Bytes) (a n : ℕ) → a + n ≤ length xs → length (part xs a n) ≡ n
length_part xs a n h = simp (length-take, length-drop) (omega arith)

-- rows of w bytes: another row than the replaced one
pub row_other : (w i j : ℕ) (xs ys : Bytes) → (j ≡ i → ⊥) → length ys ≡ w → i * w + w ≤ length xs
    → part (over xs (i * w) ys) (j * w) w ≡ part xs (j * w) w
row_other w i j xs ys n e h =
    by_cases (dec_lt j i) (λ p. part_before xs (i * w) ys (omega arith) (j * w) w (row_le w j i p))
    (λ q. part_after xs (i * w) ys (omega arith) (j * w) w (let p : i < j = omega arith in omega (arith, row_le w i j p)))

-- two cells of a grid of n columns have one number only if they are one cell
pub grid_row : (n c l c' l' : ℕ) → l < n → l' < n → c * n + l ≡ c' * n + l' → c ≡ c'
grid_row n c l c' l' h h' e =
    by_cases (dec_lt c c') (λ p. absurd (omega (arith, row_le n c c' p)))
    (λ p. by_cases (dec_lt c' c) (λ q. absurd (omega (arith, row_le n c' c q))) (λ q. omega arith))

pub grid_column : (n c l c' l' : ℕ) → l < n → l' < n → c * n + l ≡ c' * n + l' → l ≡ l'
grid_column n c l c' l' h h' e = let q : c ≡ c' = grid_row n c l c' l' h h' e in omega (arith, ap (λ (t : ℕ). t * n) q)

-- a line of zeros
abbrev pub zeros : ℕ → Bytes
zeros n = replicate n 0

-- a part of zeros is zeros
pub zeros_part : (n a w : ℕ) → a + w ≤ n → part (zeros n) a w ≡ zeros w
zeros_part n a w h =
    let m : ℕ = n - (a + w) in
    let k : n ≡ a + (w + m) = omega arith in
    let q : zeros n ≡ zeros a ++ (zeros w ++ zeros m)
    = ap zeros k
    ∙ (sym (replicate-append-replicate a (w + m) 0) ∙ ap (λ (t : Bytes). zeros a ++ t) (sym (replicate-append-replicate w m 0))) in
    rw (q, drop_at (zeros a) (zeros w ++ zeros m) a (length-replicate a 0)) (take_at (zeros w) (zeros m) w (length-replicate w 0))
