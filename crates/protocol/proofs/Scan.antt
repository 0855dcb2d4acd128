-- A test of each element of a list: in the library's words, met element by element and at each index of the first n, and after one is replaced; and how
-- many pass it.
use Prim.Native.Nat.{ℕ, zero, suc, ◌+◌, ◌≤◌, ◌<◌}
use mathlib.Core.{Path.{◌≡◌, refl, sym, ◌∙◌}, Bool.{Bool, true, false, not}, List.{List, [], ◌∷◌}}
use native.Mathlib.{Numerals.add-one, Omega.arith}
use lib.{ListN.{length, take, drop, get_or, set, drop_of_length-le, replicate}, Seq.{drop-cons, get_or-take, length-take-le}}
use Rattle.std.specs.{Prelude.◌&&◌, List.list_all}
use Rattle.protocol.specs.Pick.{pick, both, every, how_many}
use Rattle.protocol.proofs.Tests.{both_true, was_false, was_true}

-- the library's test of every element is that of the definitions
pub all_every : {A : Type 0} (f : A → Bool) (xs : List A) → list_all f xs ≡ every f xs
unfolding every
all_every f [] = refl
all_every f (x ∷ xs) = go (f x) (all_every f xs)
  where
    go : (b : Bool) → list_all f xs ≡ every f xs → (b && list_all f xs) ≡ pick b (every f xs) false
    go true e = e
    go false e = refl

-- what a loop knows that asks a test of each element in turn and has passed i of them
abbrev pub Scanned : {A : Type 0} → (A → Bool) → List A → ℕ → ℕ → Type 0
Scanned f xs n i = every f (take n xs) ≡ every f (drop i (take n xs))

module _ {A : Type 0} (f : A → Bool) (xs : List A) (n : ℕ) (d : A) (fits : n ≤ length xs) where
  -- one element more is met
  pub every_step : (i : ℕ) → i < n → every f (drop i (take n xs)) ≡ both (f (get_or xs i d)) (every f (drop (i + 1) (take n xs)))
  unfolding every
  every_step i h =
      let k : i < length (take n xs) = rw length-take-le h in
      rw (add-one, drop-cons (take n xs) i d k, get_or-take n xs i d h)

  -- all are met
  pub every_done : (i : ℕ) → n ≤ i → every f (drop i (take n xs)) ≡ true
  unfolding every
  every_done i h =
      let k : length (take n xs) ≤ i = rw length-take-le h in
      rw drop_of_length-le

  -- the loop's answer `asked` at the i-th element: it goes on where the element passes, and ends where it fails, or past the last
  module _ (i : ℕ) (h : i < n) (k : Scanned f xs n i) (asked : Bool) (e : asked ≡ f (get_or xs i d)) where
    pub scan_on : not asked ≡ false → Scanned f xs n (i + 1)
    scan_on g = k ∙ every_step i h ∙ rw (was_true e g)

    pub scan_fails : not asked ≡ true → false ≡ every f (take n xs)
    scan_fails g = sym (k ∙ every_step i h ∙ rw (was_false e g))

  pub scan_ends : (i : ℕ) → n ≤ i → Scanned f xs n i → true ≡ every f (take n xs)
  scan_ends i h k = sym (k ∙ every_done i h)

-- a test that holds of each element, and of the value past the end, holds at each index
module _ {A : Type 0} (f : A → Bool) (d : A) (past_end : f d ≡ true) where
  every_element : (ys : List A) (i : ℕ) → every f ys ≡ true → f (get_or ys i d) ≡ true
  unfolding every
  every_element [] i e = past_end
  every_element (y ∷ ys) zero e = (both_true (f y) (every f ys) e).0
  every_element (y ∷ ys) (suc i) e = every_element ys i (both_true (f y) (every f ys) e).1

  pub every_at : (xs : List A) (n i : ℕ) → i < n → every f (take n xs) ≡ true → f (get_or xs i d) ≡ true
  every_at xs n i k e = rw (sym (get_or-take n xs i d k)) (every_element (take n xs) i e)

-- a test that holds of each element, after one is replaced by another of which it holds
pub every_set : {A : Type 0} (f : A → Bool) (xs : List A) (n i : ℕ) (v : A) → every f (take n xs) ≡ true → f v ≡ true → every f (take n (set xs i v)) ≡ true
unfolding every
every_set f [] n i v e h = e
every_set f (x ∷ xs) zero zero v e h = refl
every_set f (x ∷ xs) zero (suc i) v e h = refl
every_set f (x ∷ xs) (suc n) zero v e h = rw h (both_true (f x) _ e).1
every_set f (x ∷ xs) (suc n) (suc i) v e h = rw (both_true (f x) _ e).0 (every_set f xs n i v (both_true (f x) _ e).1 h)

-- how many pass a test, after one is replaced by another
pub how_many_set : {A : Type 0} (f : A → Bool) (d : A) (xs : List A) (n i : ℕ) (v : A) → i < n → n ≤ length xs
    → how_many f (take n (set xs i v)) + pick (f (get_or xs i d)) 1 0 ≡ how_many f (take n xs) + pick (f v) 1 0
unfolding how_many
how_many_set f d [] n i v h k = absurd (omega arith)
how_many_set f d (x ∷ xs) zero i v h k = absurd (omega arith)
how_many_set f d (x ∷ xs) (suc n) zero v h k = omega arith
how_many_set f d (x ∷ xs) (suc n) (suc i) v h k = omega (arith, how_many_set f d xs n i v (omega arith) (omega arith))

-- of many times an element that does not pass
pub how_many_none : {A : Type 0} (f : A → Bool) (a : A) → f a ≡ false → (m n : ℕ) → how_many f (take n (replicate m a)) ≡ 0
unfolding how_many
how_many_none f a e zero zero = refl
how_many_none f a e zero (suc n) = refl
how_many_none f a e (suc m) zero = refl
how_many_none f a e (suc m) (suc n) = rw (e, how_many_none f a e m n)
