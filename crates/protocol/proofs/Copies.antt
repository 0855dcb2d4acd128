-- Counting held copies, and the victim: ranks are ordered, and going through the lines finds the held one whose rank is the least.
use Prim.Native.Nat.{ℕ, zero, suc, ◌+◌, ◌≤◌, ◌<◌}
use mathlib.Core.{Path.{◌≡◌, refl, sym, ◌∙◌, ap}, Bool.{Bool, true, false}, Logic.{◌⊎◌, inl, inr, ⊎_elim, by_cases}, List.{List, [], ◌∷◌}}
use native.Mathlib.{Omega.arith, Decide.ℕ_discrete}
use lib.{Dec.{ltb, eqb}, ListN.{length, get_or}}
use borrow.Author.Tests.{ltb-true, ltb-false, lt-ltb, eqb-true, eq-eqb}
use Rattle.protocol.specs.Pick.{pick, both}
use Rattle.protocol.specs.Copies.{is_held, Copies, held_below, rank, below, IsVictim, replaces, victim_below, VictimTheorem}
use Rattle.protocol.proofs.Tests.{never, both_true, both_false}

-- ---- counting

-- 1 for a copy that is held
abbrev pub one : Bool → ℕ
one b = pick b 1 0

pub one_most : (b : Bool) → one b ≤ 1
one_most true = omega arith
one_most false = omega arith

module _ (f g : Copies) where
  -- where the same lines are held, the counts are the same
  pub count_same : (n : ℕ) → ((k : ℕ) → k < n → g k ≡ f k) → held_below g n ≡ held_below f n
  unfolding held_below
  count_same zero h = refl
  count_same (suc n) h = rw (h n (omega arith), count_same n (λ k i. h k (omega arith)))

  -- where only the copy of line l is another, the counts differ by that
  pub count_one : (n l : ℕ) → l < n → ((k : ℕ) → k < n → (k ≡ l → ⊥) → g k ≡ f k) → held_below g n + one (is_held (f l)) ≡ held_below f n + one (is_held (g l))
  unfolding held_below
  count_one zero l i h = absurd (omega arith)
  count_one (suc n) l i h = by_cases (ℕ_discrete n l)
      (λ e.
      let q = count_same n (λ k j. h k (omega arith) (λ z. omega (arith, e, z, j))) in
      let x : one (is_held (f n)) ≡ one (is_held (f l)) = ap (λ k. one (is_held (f k))) e in
      let y : one (is_held (g n)) ≡ one (is_held (g l)) = ap (λ k. one (is_held (g k))) e in
      omega (arith, q, x, y))
      (λ m.
      let q = count_one n l (omega (arith, i, m)) (λ k j. h k (omega arith)) in
      let x : one (is_held (g n)) ≡ one (is_held (f n)) = ap (λ x. one (is_held x)) (h n (omega arith) m) in
      omega (arith, q, x))

module _ (f : Copies) where
  -- none is held where each is not
  pub count_none : (n : ℕ) → ((k : ℕ) → k < n → is_held (f k) ≡ false) → held_below f n ≡ 0
  unfolding held_below
  count_none zero h = refl
  count_none (suc n) h = let q = count_none n (λ k i. h k (omega arith)) in rw (h n (omega arith)) (omega (arith, q))

  -- no more than there are lines
  pub count_most : (n : ℕ) → held_below f n ≤ n
  unfolding held_below
  count_most zero = omega arith
  count_most (suc n) = let q = count_most n in let h = one_most (is_held (f n)) in omega arith

  -- fewer where one is not held
  pub count_missing : (n l : ℕ) → l < n → is_held (f l) ≡ false → held_below f n < n
  unfolding held_below
  count_missing zero l h e = absurd (omega arith)
  count_missing (suc n) l h e = by_cases (ℕ_discrete l n)
      (λ i. let x : one (is_held (f n)) ≡ 0 = ap (λ k. one (is_held (f k))) (sym i) ∙ ap one e in let q = count_most n in omega (arith, x, q))
      (λ i. let q = count_missing n l (omega (arith, h, i)) e in let m = one_most (is_held (f n)) in omega (arith, q, m))

  -- none is held where the count is 0; one is where it is not
  pub none_held : (n : ℕ) → held_below f n ≡ 0 → (k : ℕ) → k < n → is_held (f k) ≡ true → ⊥
  unfolding held_below
  none_held zero e k h i = omega arith
  none_held (suc n) e k h i = by_cases (ℕ_discrete k n)
      (λ q. let x : one (is_held (f n)) ≡ 1 = ap (λ k. one (is_held (f k))) (sym q) ∙ ap one i in omega (arith, e, x))
      (λ q. none_held n (omega (arith, e)) k (omega (arith, h, q)) i)

  some_held : (n : ℕ) → (held_below f n ≡ 0 → ⊥) → (k : ℕ) × ((k < n) × (is_held (f k) ≡ true))
  unfolding held_below
  some_held zero e = absurd (e refl)
  some_held (suc n) e = go (is_held (f n)) refl (λ h. some_held n h)
    where
      go : (b : Bool) → is_held (f n) ≡ b → ((held_below f n ≡ 0 → ⊥) → (k : ℕ) × ((k < n) × (is_held (f k) ≡ true)))
          → (k : ℕ) × ((k < suc n) × (is_held (f k) ≡ true))
      go true q more = (n, (omega arith, q))
      go false q more = let a = more (λ z. e (rw q (omega (arith, z)))) in (a.0, (omega (arith, a.1.0), a.1.1))

-- ---- ranks

module _ (a b : ℕ) (xs ys : List ℕ) where
  -- smaller at the first place, or equal there and smaller later
  below_cases : below (a ∷ xs) (b ∷ ys) ≡ true → (a < b) ⊎ ((a ≡ b) × (below xs ys ≡ true))
  unfolding below
  below_cases e = go (ltb a b) refl e
    where
      go : (t : Bool) → ltb a b ≡ t → pick t true (both (eqb a b) (below xs ys)) ≡ true → (a < b) ⊎ ((a ≡ b) × (below xs ys ≡ true))
      go true q i = inl (ltb-true a b q)
      go false q i = let p = both_true (eqb a b) (below xs ys) i in inr (eqb-true a b p.0, p.1)

  below_first : a < b → below (a ∷ xs) (b ∷ ys) ≡ true
  unfolding below
  below_first h = rw (lt-ltb a b h)

  below_next : a ≡ b → below xs ys ≡ true → below (a ∷ xs) (b ∷ ys) ≡ true
  unfolding below
  below_next e h = go (ltb a b) refl
    where
      go : (t : Bool) → ltb a b ≡ t → pick t true (both (eqb a b) (below xs ys)) ≡ true
      go true q = refl
      go false q = rw (eq-eqb a b e) h

-- never both ways
below_once : (xs ys : List ℕ) → below xs ys ≡ true → below ys xs ≡ true → ⊥
unfolding below
below_once [] ys e i = never (sym e)
below_once (a ∷ xs) [] e i = never (sym e)
below_once (a ∷ xs) (b ∷ ys) e i =
    ⊎_elim
    (λ h. ⊎_elim (λ j. omega (arith, h, j)) (λ j. omega (arith, h, j.0)) (below_cases b a ys xs i))
    (λ h. ⊎_elim (λ j. omega (arith, h.0, j)) (λ j. below_once xs ys h.1 j.1) (below_cases b a ys xs i))
    (below_cases a b xs ys e)

below_trans : (xs ys zs : List ℕ) → below xs ys ≡ true → below ys zs ≡ true → below xs zs ≡ true
unfolding below
below_trans [] ys zs e i = never (sym e)
below_trans (a ∷ xs) [] zs e i = never (sym e)
below_trans (a ∷ xs) (b ∷ ys) [] e i = never (sym i)
below_trans (a ∷ xs) (b ∷ ys) (c ∷ zs) e i =
    ⊎_elim
    (λ h. ⊎_elim (λ j. below_first a c xs zs (omega (arith, h, j))) (λ j. below_first a c xs zs (omega (arith, h, j.0))) (below_cases b c ys zs i))
    (λ h. ⊎_elim (λ j. below_first a c xs zs (omega (arith, h.0, j))) (λ j. below_next a c xs zs (h.0 ∙ j.0) (below_trans xs ys zs h.1 j.1)) (below_cases b c ys zs i))
    (below_cases a b xs ys e)

-- one way or the other, or the same
below_total : (xs ys : List ℕ) → length xs ≡ length ys → below xs ys ≡ false → (xs ≡ ys) ⊎ (below ys xs ≡ true)
unfolding below
below_total [] [] n e = inl refl
below_total [] (b ∷ ys) n e = absurd (omega arith)
below_total (a ∷ xs) [] n e = absurd (omega arith)
below_total (a ∷ xs) (b ∷ ys) n e = go (ltb a b) refl e (λ h. below_total xs ys (omega (arith, n)) h)
  where
    go : (t : Bool) → ltb a b ≡ t → pick t true (both (eqb a b) (below xs ys)) ≡ false
        → (below xs ys ≡ false → (xs ≡ ys) ⊎ (below ys xs ≡ true)) → ((a ∷ xs) ≡ (b ∷ ys)) ⊎ (below (b ∷ ys) (a ∷ xs) ≡ true)
    go true q i more = never i
    go false q i more = by_cases (ℕ_discrete a b)
        (λ h. ⊎_elim (λ j. inl (ap (λ (x : ℕ). x ∷ xs) h ∙ ap (λ (zs : List ℕ). b ∷ zs) j)) (λ j. inr (below_next b a ys xs (sym h) j)) (more (both_false (eqb a b) (below xs ys) i (eq-eqb a b h))))
        (λ h. inr (below_first b a ys xs (omega (arith, ltb-false a b q, h))))

-- ---- the victim

-- lines have different ranks
rank_line : (f : Copies) (k l : ℕ) → rank f k ≡ rank f l → k ≡ l
rank_line f k l e = ap (λ (r : List ℕ). get_or r 1 0) e

rank_total : (f : Copies) (k l : ℕ) → (k ≡ l → ⊥) → below (rank f k) (rank f l) ≡ false → below (rank f l) (rank f k) ≡ true
rank_total f k l n e = ⊎_elim (λ h. absurd (n (rank_line f k l h))) (λ h. h) (below_total (rank f k) (rank f l) refl e)

module _ (f : Copies) where
  -- the line that is found is one of those gone through
  pub victim_inside : (n : ℕ) → 1 ≤ n → victim_below f n < n
  unfolding victim_below
  victim_inside zero h = absurd (omega arith)
  victim_inside (suc n) h = go (replaces (f n) n (f (victim_below f n)) (victim_below f n)) (ℕ_discrete n 0) (λ i. victim_inside n i)
    where
      go : (b : Bool) → Dec (n ≡ 0) → (1 ≤ n → victim_below f n < n) → pick b n (victim_below f n) < suc n
      go true d more = omega arith
      go false (yes e) more = rw e (omega arith)
      go false (no e) more = let q = more (omega (arith, e)) in omega (arith, q)

  -- a line more
  module _ (n : ℕ) where
    abbrev v : ℕ
    v = victim_below f n

    -- it is held and takes the place of the one found so far
    takes_over : replaces (f n) n (f v) v ≡ true → ((k : ℕ) → k < n → is_held (f k) ≡ true → IsVictim f n v) → IsVictim f (suc n) n
    takes_over e before = record {
      inside = omega arith;
      held = p.0;
      least = λ k h i ne. let w = before k (omega (arith, h, ne)) i in
          let q : below (rank f n) (rank f v) ≡ true = rw w.held at p.1 in
          by_cases (ℕ_discrete k v) (λ s. rw s q) (λ s. below_trans (rank f n) (rank f v) (rank f k) q (w.least k (omega (arith, h, ne)) i s));
    }
      where
        p : (is_held (f n) ≡ true) × (pick (is_held (f v)) (below (rank f n) (rank f v)) true ≡ true)
        p = both_true (is_held (f n)) (pick (is_held (f v)) (below (rank f n) (rank f v)) true) e

    -- it is not held, or ranks after the one found so far
    stays : replaces (f n) n (f v) v ≡ false → IsVictim f n v → IsVictim f (suc n) v
    stays e w = record {
      inside = omega (arith, w.inside);
      held = w.held;
      least = λ k h i ne. by_cases (ℕ_discrete k n)
          (λ s.
          let a = both_false (is_held (f n)) _ e (rw s at i) in
          rw s (rank_total f n v (λ z. omega (arith, z, w.inside)) (rw w.held at a)))
          (λ s. w.least k (omega (arith, h, s)) i ne);
    }

  -- where one of the lines is held
  pub victim_found : (n k : ℕ) → k < n → is_held (f k) ≡ true → IsVictim f n (victim_below f n)
  unfolding victim_below
  victim_found zero k h i = absurd (omega arith)
  victim_found (suc n) k h i = go (replaces (f n) n (f (victim_below f n)) (victim_below f n)) refl (λ k h i. victim_found n k h i)
    where
      -- the line found so far, which the last one does not replace, is held
      last : replaces (f n) n (f (victim_below f n)) (victim_below f n) ≡ false → is_held (f n) ≡ true → is_held (f (victim_below f n)) ≡ true
      last e j = by (is_held (f (victim_below f n))) (both_false (is_held (f n)) _ e j)
        where
          by : (b : Bool) → pick b (below (rank f n) (rank f (victim_below f n))) true ≡ false → b ≡ true
          by true q = refl
          by false q = never q

      only_line : n ≡ 0 → is_held (f n) ≡ true → IsVictim f (suc n) (victim_below f n)
      only_line e j = rw e (record { inside = omega arith; held = rw e at j; least = λ k h i ne. absurd (ne (omega (arith, h))) })

      go : (b : Bool) → replaces (f n) n (f (victim_below f n)) (victim_below f n) ≡ b → ((k : ℕ) → k < n → is_held (f k) ≡ true → IsVictim f n (victim_below f n))
          → IsVictim f (suc n) (pick b n (victim_below f n))
      go true e more = takes_over n e more
      go false e more = by_cases (ℕ_discrete k n)
          (λ s. by_cases (ℕ_discrete n 0)
          (λ z. only_line z (rw s at i))
          (λ z. stays n e (more (victim_below f n) (victim_inside n (omega (arith, z))) (last e (rw s at i)))))
          (λ s. stays n e (more k (omega (arith, h, s)) i))

pub victim_theorem : VictimTheorem
victim_theorem f n = record {
  found = λ e. let a = some_held f n e in victim_found f n a.0 a.1.0 a.1.1;
  only = λ l w. by_cases (ℕ_discrete l (victim_below f n)) (λ e. e)
      (λ e.
      let u = victim_found f n l w.inside w.held in
      absurd (below_once (rank f l) (rank f (victim_below f n)) (w.least (victim_below f n) u.inside u.held (λ z. e (sym z)))
      (u.least l w.inside w.held e)));
  none = λ e l w. none_held f n e l w.inside w.held;
}
