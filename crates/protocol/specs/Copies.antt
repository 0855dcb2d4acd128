-- The copies of one core, that of each line: which are held, how many, and which is the victim (02, Four).
use Rattle.std.specs.Prelude.{ℕ, zero, suc, ◌+◌, ◌<◌}
use mathlib.Core.{Path.◌≡◌, Bool.{Bool, true, false}, List.{List, [], ◌∷◌}}
use Rattle.std.specs.Prelude.{ltb, eqb}
use Rattle.protocol.specs.{Pick.{pick, both}, Stamps.stamp, declared.Stamp.Stamp}
use Rattle.protocol.specs.declared.Copy.{Copy, TheVariants.{None as NoCopy, Shared as CopyShared, Owned as CopyOwned}}

-- a copy is held
abbrev pub is_held : Copy → Bool
is_held NoCopy = false
is_held (CopyShared w r) = true
is_held (CopyOwned d w r) = true

-- .. as shared, or as owned
abbrev pub is_shared : Copy → Bool
is_shared NoCopy = false
is_shared (CopyShared w r) = true
is_shared (CopyOwned d w r) = false

abbrev pub is_owned : Copy → Bool
is_owned NoCopy = false
is_owned (CopyShared w r) = false
is_owned (CopyOwned d w r) = true

-- the copies of a core by line
abbrev pub Copies : Type 0
Copies = ℕ → Copy

-- how many of the lines below n are held
unfoldable pub held_below : Copies → ℕ → ℕ
held_below f zero = 0
held_below f (suc n) = held_below f n + pick (is_held (f n)) 1 0

-- ---- the victim

-- the end of a copy's lease; of no copy 0, which no rank that is compared has
abbrev pub rts_of : Copy → Stamp
rts_of NoCopy = stamp 0
rts_of (CopyShared w r) = r
rts_of (CopyOwned d w r) = r

-- THE RANK of the copy x of line l: what decides first stands first. "the held line with the smallest rts, ties to the smallest line number"
abbrev pub rank_of : Copy → ℕ → List ℕ
rank_of x l = (rts_of x).0 ∷ l ∷ []

abbrev pub rank : Copies → ℕ → List ℕ
rank f l = rank_of (f l) l

-- a rank is below another: it is smaller where they first differ
unfoldable pub below : List ℕ → List ℕ → Bool
below [] ys = false
below (a ∷ xs) [] = false
below (a ∷ xs) (b ∷ ys) = pick (ltb a b) true (both (eqb a b) (below xs ys))

-- line l is THE VICTIM among the lines below n: it is held, and its rank is below that of every other held line
pub record IsVictim (f : Copies) (n l : ℕ) : Type 0 where
  pub inside : l < n
  pub held : is_held (f l) ≡ true
  pub least : (k : ℕ) → k < n → is_held (f k) ≡ true → (k ≡ l → ⊥) → below (rank f l) (rank f k) ≡ true

-- the copy x of line k takes the place of the copy y of line l: x is held, and y is not, or ranks after it
abbrev pub replaces : Copy → ℕ → Copy → ℕ → Bool
replaces x k y l = both (is_held x) (pick (is_held y) (below (rank_of x k) (rank_of y l)) true)

-- the victim, found by going through the lines; 0 where none is held
unfoldable pub victim_below : Copies → ℕ → ℕ
victim_below f zero = 0
victim_below f (suc n) = pick (replaces (f n) n (f (victim_below f n)) (victim_below f n)) n (victim_below f n)

-- a core with a copy has exactly one victim, and going through the lines finds it; a core without has none
pub record Victims (f : Copies) (n : ℕ) : Type 0 where
  pub found : (held_below f n ≡ 0 → ⊥) → IsVictim f n (victim_below f n)
  pub only : (l : ℕ) → IsVictim f n l → l ≡ victim_below f n
  pub none : held_below f n ≡ 0 → (l : ℕ) → IsVictim f n l → ⊥

abbrev pub VictimTheorem : Type 0
VictimTheorem = (f : Copies) (n : ℕ) → Victims f n
