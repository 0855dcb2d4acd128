-- The log of commits, newest first, and what each new commit has to bring for the sorted order to obey a memory model. No machine here.
use Prim.Native.Nat.{ℕ, ◌≤◌, ◌<◌}
use mathlib.Core.{Path.{◌≡◌, refl, sym, ◌∙◌, ap}, Logic.{◌⊎◌, inl, inr, ⊎_elim}, List.{List, [], ◌∷◌}}
use native.Mathlib.{Omega.arith, Decide.dec_lt}
use Rattle.protocol.specs.{Step.{Op, load, store, fence}, Run.Commit, Order.{In, here, there, Before, Earlier, MaySee, LastWrite, Obeys}}

-- ---- lists

-- a fact of every element
pub data All {T : Type 0} (P : T → Type 0) : List T → Type 0 where
  none : All P []
  more : {e : T} {H : List T} → P e → All P H → All P (e ∷ H)

pub all_map : {T : Type 0} {P Q : T → Type 0} {H : List T} → ((e : T) → P e → Q e) → All P H → All Q H
all_map f none = none
all_map f (more p h) = more (f _ p) (all_map f h)

pub all_at : {T : Type 0} {P : T → Type 0} {a : T} {H : List T} → All P H → In a H → P a
all_at none m = elim m [ ]
all_at (more p h) (here q) = rw q p
all_at (more p h) (there m) = all_at h m

pub in_nil : {T : Type 0} {a : T} → In a [] → ⊥
in_nil m = elim m [ ]

pub in_cons : {T : Type 0} {a e : T} {H : List T} → In a (e ∷ H) → (a ≡ e) ⊎ In a H
in_cons (here q) = inl q
in_cons (there m) = inr m

-- ---- the newest write

-- Walking back from the newest commit past the writes that meet P, the first other write meets Q and wrote x; `z` where there is none.
-- `Wr e x`: the commit e writes x
pub data Last {A X : Type 0} (z : X) (Wr : Commit A → X → Type 0) (P Q : Commit A → Type 0) : List (Commit A) → X → Type 0 where
  fresh : {x : X} → x ≡ z → Last z Wr P Q [] x
  found : {e : Commit A} {H : List (Commit A)} {x : X} → Wr e x → Q e → Last z Wr P Q (e ∷ H) x
  past : {e : Commit A} {H : List (Commit A)} {x : X} → ((y : X) → Wr e y → P e) → Last z Wr P Q H x → Last z Wr P Q (e ∷ H) x

pub last_map : {A X : Type 0} {z : X} {Wr : Commit A → X → Type 0} {P Q P' Q' : Commit A → Type 0} {H : List (Commit A)} {x : X}
    → ((e : Commit A) → P e → P' e) → ((e : Commit A) → Q e → Q' e) → Last z Wr P Q H x → Last z Wr P' Q' H x
last_map f g (fresh q) = fresh q
last_map f g (found w q) = found w (g _ q)
last_map f g (past p t) = past (λ y w. f _ (p y w)) (last_map f g t)

-- two walks that cannot part find one value, if a commit writes one value at most
pub last_same : {A X : Type 0} {z : X} {Wr : Commit A → X → Type 0} {P Q P' Q' : Commit A → Type 0} (H : List (Commit A)) {x y : X}
    → ((e : Commit A) (u v : X) → Wr e u → Wr e v → u ≡ v) → ((e : Commit A) → P e → Q' e → ⊥) → ((e : Commit A) → Q e → P' e → ⊥)
    → Last z Wr P Q H x → Last z Wr P' Q' H y → x ≡ y
last_same [] u f g (fresh q) (fresh r) = q ∙ sym r
last_same (e ∷ H) u f g (found w q) (found v r) = u e _ _ w v
last_same (e ∷ H) u f g (found w q) (past p s) = absurd (g e q (p _ w))
last_same (e ∷ H) u f g (past p t) (found v r) = absurd (f e (p _ v) r)
last_same (e ∷ H) u f g (past p t) (past p' s) = last_same H u f g t s

-- ---- what each commit brings to the log made so far

-- the commit loads from or stores to the line
abbrev pub Touches : {A : Type 0} → ℕ → Op A → Type 0
Touches l (load m x) = m ≡ l
Touches l (store m x) = m ≡ l
Touches l fence = ⊥

-- what a load by core c at time t reads off the log: the newest write that is not later than t, or is its own core's
abbrev pub Reading : {A X : Type 0} → X → (Commit A → X → Type 0) → ℕ → ℕ → List (Commit A) → X → Type 0
Reading z Wr c t H x = Last z Wr (λ e. (t < e.ts.0) × (e.core ≡ c → ⊥)) (λ e. (e.ts.0 ≤ t) ⊎ (e.core ≡ c)) H x

-- a commit may extend the log: it is at or after what its core made before, where that is to be kept; it reads what it is to see; where it
-- writes, it is at or after everything that read or wrote there
pub record Extends {A C X : Type 0} (Keeps : Op A → Op A → Type 0) (Reads Writes : C → Commit A → X → Type 0) (z : X) (e : Commit A) (H : List (Commit A)) : Type 0 where
  pub in_order : All (λ a. a.core ≡ e.core → Keeps a.op e.op → a.ts.0 ≤ e.ts.0) H
  pub sees : (i : C) (x : X) → Reads i e x → Reading z (Writes i) e.core e.ts.0 H x
  pub above : (i : C) (x : X) → Writes i e x → All (λ a. (y : X) → Reads i a y ⊎ Writes i a y → a.ts.0 ≤ e.ts.0) H

-- every commit of the log is made after those below it, and extends them
pub data Lawful {A C X : Type 0} (Keeps : Op A → Op A → Type 0) (Reads Writes : C → Commit A → X → Type 0) (z : X) : List (Commit A) → Type 0 where
  start : Lawful Keeps Reads Writes z []
  step : {e : Commit A} {H : List (Commit A)} → All (λ a. Earlier a e) H → Extends Keeps Reads Writes z e H → Lawful Keeps Reads Writes z H
      → Lawful Keeps Reads Writes z (e ∷ H)

-- ---- such a log obeys the model

-- at or before in time, and made earlier: before in the sorted order
pub before_of : {A : Type 0} (a b : Commit A) → a.ts.0 ≤ b.ts.0 → Earlier a b → Before a b
before_of a b h k = go (dec_lt a.ts.0 b.ts.0)
  where
    go : Dec (a.ts.0 < b.ts.0) → Before a b
    go (yes p) = inl p
    go (no q) = inr (omega arith, omega (arith, k))

-- one more commit, which is no write that meets K
last_cons : {A X : Type 0} {z : X} {H : List (Commit A)} {Wr : Commit A → X → Type 0} {K : Commit A → Type 0} {x : X} (e : Commit A)
    → ((y : X) → Wr e y → K e → ⊥) → LastWrite H Wr K z x → LastWrite (e ∷ H) Wr K z x
last_cons e n (inl w) =
    inl
    (w.0, there w.1, w.2, w.3, λ s' m y q k. ⊎_elim (λ i. absurd (n y (rw i at q) (rw i at k))) (λ m'. w.4 s' m' y q k) (in_cons m))
last_cons e n (inr w) = inr (λ s m y q k. ⊎_elim (λ i. n y (rw i at q) (rw i at k)) (λ m'. w.0 s m' y q k) (in_cons m), w.1)

-- what the model asks of two commits of one core
abbrev Ordered : {A : Type 0} → (Op A → Op A → Type 0) → Commit A → Commit A → Type 0
Ordered Keeps a b = a.core ≡ b.core → Earlier a b → Keeps a.op b.op → Before a b

pub at_place : {A : Type 0} {a e : Commit A} → a ≡ e → a.place.0 ≡ e.place.0
at_place i = ap (λ x. x.place.0) i

module _ {A C X : Type 0} (Keeps : Op A → Op A → Type 0) (Reads Writes : C → Commit A → X → Type 0) (z : X) where
  order_cons : {H : List (Commit A)} (a b e : Commit A) → All (λ a. Earlier a e) H → Extends Keeps Reads Writes z e H → (In a H → In b H → Ordered Keeps a b)
      → (a ≡ e) ⊎ In a H → (b ≡ e) ⊎ In b H → Ordered Keeps a b
  order_cons a b e o ok down (inl i) (inl j) q p k = absurd (omega (arith, at_place i, at_place j))
  order_cons a b e o ok down (inl i) (inr n') q p k = absurd (omega (arith, at_place i, all_at o n'))
  order_cons a b e o ok down (inr m') (inl j) q p k = before_of a b (all_at (rw (← j) at ok.in_order) m' q k) p
  order_cons a b e o ok down (inr m') (inr n') q p k = down m' n' q p k

  log_order : {H : List (Commit A)} → Lawful Keeps Reads Writes z H → (a b : Commit A) → In a H → In b H → Ordered Keeps a b
  log_order start a b m n = absurd (in_nil m)
  log_order (step {e = e} o ok log) a b m n = order_cons a b e o ok (log_order log a b) (in_cons m) (in_cons n)

  -- the newest write of the log is the last in the sorted order
  walk_last : {P Q : Commit A → Type 0} (i : C) (K : Commit A → Type 0) {H : List (Commit A)} {x : X} → Lawful Keeps Reads Writes z H
      → ((e : Commit A) → In e H → P e → K e → ⊥) → ((e : Commit A) → In e H → Q e → K e) → Last z (Writes i) P Q H x → LastWrite H (Writes i) K z x
  walk_last i K log f g (fresh q) = inr (λ s m. absurd (in_nil m), q)
  walk_last i K (step o ok log) f g (found {e = e} w q) =
      inl (
        e,
        here refl,
        w,
        g e (here refl) q,
        λ s m y v k.
            ⊎_elim (λ j. inl j) (λ m'. inr (before_of s e (all_at (ok.above i _ w) m' y (inr v)) (all_at o m'))) (in_cons m),
      )
  walk_last i K (step o ok log) f g (past {e = e} p t) =
      last_cons e (λ y q k. f e (here refl) (p y q) k) (walk_last i K log (λ s m. f s (there m)) (λ s m. g s (there m)) t)

  -- a load's own clause, when it is made
  reads_new : {H : List (Commit A)} (e : Commit A) → All (λ a. Earlier a e) H → Extends Keeps Reads Writes z e H → Lawful Keeps Reads Writes z H
      → (i : C) (x : X) → Reads i e x → LastWrite H (Writes i) (MaySee e) z x
  reads_new {H} e o ok log i x q =
      walk_last i (MaySee e) log (λ s m p k. hidden s (all_at o m) p k) (λ s m p. seen s (all_at o m) p) (ok.sees i x q)
    where
      hidden : (s : Commit A) → Earlier s e → (e.ts.0 < s.ts.0) × (s.core ≡ e.core → ⊥) → MaySee e s → ⊥
      hidden s p h (inl (inl k)) = omega arith
      hidden s p h (inl (inr k)) = omega arith
      hidden s p h (inr k) = h.1 k.0

      seen : (s : Commit A) → Earlier s e → (s.ts.0 ≤ e.ts.0) ⊎ (s.core ≡ e.core) → MaySee e s
      seen s p (inl h) = inl (before_of s e h p)
      seen s p (inr h) = inr (h, p)

  -- a later write is none that an earlier read may see
  late : {H : List (Commit A)} (k : Commit A) → All (λ a. Earlier a k) H → Extends Keeps Reads Writes z k H → (e : Commit A) → In e H
      → (i : C) (x : X) → Reads i e x → (y : X) → Writes i k y → MaySee e k → ⊥
  late k o ok e m i x q y r c = go c
    where
      h : Earlier e k
      h = all_at o m

      t : e.ts.0 ≤ k.ts.0
      t = all_at (ok.above i y r) m x (inl q)

      go : MaySee e k → ⊥
      go (inl (inl p)) = omega (arith, h, t)
      go (inl (inr p)) = omega (arith, h, t)
      go (inr p) = omega (arith, h, t)

  -- a commit is none that it may see itself
  unseen : (e k : Commit A) → e ≡ k → MaySee e k → ⊥
  unseen e k j c = go (rw (← j) at c)
    where
      go : MaySee e e → ⊥
      go (inl (inl p)) = omega arith
      go (inl (inr p)) = omega arith
      go (inr p) = omega arith

  reads_cons : {H : List (Commit A)} (k e : Commit A) (i : C) (x : X) → All (λ a. Earlier a k) H → Extends Keeps Reads Writes z k H → Lawful Keeps Reads Writes z H
      → Reads i e x → (In e H → LastWrite H (Writes i) (MaySee e) z x) → (e ≡ k) ⊎ In e H → LastWrite (k ∷ H) (Writes i) (MaySee e) z x
  reads_cons k e i x o ok log q down (inl j) =
      last_cons k (λ y r c. unseen e k j c) (reads_new e (rw (← j) at o) (rw (← j) at ok) log i x q)
  reads_cons k e i x o ok log q down (inr m) = last_cons k (late k o ok e m i x q) (down m)

  log_reads : {H : List (Commit A)} → Lawful Keeps Reads Writes z H → (e : Commit A) → In e H → (i : C) (x : X) → Reads i e x
      → LastWrite H (Writes i) (MaySee e) z x
  log_reads start e m i x q = absurd (in_nil m)
  log_reads (step {e = k} o ok log) e m i x q = reads_cons k e i x o ok log q (λ m'. log_reads log e m' i x q) (in_cons m)

  pub log_obeys : {H : List (Commit A)} → Lawful Keeps Reads Writes z H → Obeys Keeps MaySee Reads Writes z H
  log_obeys ok = record { order = log_order ok; reads = log_reads ok }
