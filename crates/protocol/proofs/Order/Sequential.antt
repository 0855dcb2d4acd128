-- A log that obeys a memory model, and has its fences, is sequentially consistent. No machine here, but for the last line: the commits of a run
-- are such a log.
use Prim.Native.Nat.{ℕ, ◌≤◌}
use mathlib.Core.{Path.{◌≡◌, refl, sym, ◌∙◌}, Logic.{◌⊎◌, inl, inr, ⊎_elim}, List.{List, [], ◌∷◌}}
use native.Mathlib.{Omega.arith, Decide.{dec_lt, ℕ_discrete}}
use Rattle.protocol.specs.{Buffers.Bytes, Step.{Op, load, store, fence}, Run.Commit}
use Rattle.protocol.specs.Order.{In, here, there, Before, Earlier, TsoKeeps, Loads, Stores, MaySee, LastWrite, Obeys}
use Rattle.protocol.specs.Sequential.{StoreThenLoad, Later, FenceBetween, Fenced, AllKeep, Preceding, FencesHold, TsoFencesTheorem, FenceTheorem, SequentialTheorem, StrictestTheorem}
use Rattle.protocol.proofs.Order.{Log.{in_nil, in_cons, at_place}, Theorem.{before_trans, order_theorem}}

-- ---- the next commit that needs a fence

module _ {A : Type 0} {Swaps : Op A → Op A → Type 0} (told : (a b : Op A) → Dec (Swaps a b)) (a : Commit A) where
  is_later : (b : Commit A) → Dec (Later Swaps a b)
  is_later b = go (ℕ_discrete b.core a.core) (dec_lt a.place.0 b.place.0) (told a.op b.op)
    where
      go : Dec (b.core ≡ a.core) → Dec (Earlier a b) → Dec (Swaps a.op b.op) → Dec (Later Swaps a b)
      go (yes c) (yes h) (yes s) = yes (record { core = c; after = h; swaps = s })
      go (yes c) (yes h) (no n) = no (λ k. n k.swaps)
      go (yes c) (no n) s = no (λ k. n k.after)
      go (no n) h s = no (λ k. n k.core)

  -- of b and the list's commits, the first that needs a fence after a
  record First (H : List (Commit A)) (b n : Commit A) : Type 0 where
    from : (n ≡ b) ⊎ In n H
    later : Later Swaps a n
    near : n.place.0 ≤ b.place.0
    first : (c : Commit A) → In c H → Later Swaps a c → Earlier c n → ⊥

  -- one more commit, which is not before the first of the others
  first_cons : {H : List (Commit A)} {b n : Commit A} (e : Commit A) → First H b n → (Later Swaps a e → Earlier e n → ⊥) → First (e ∷ H) b n
  first_cons {n = n} e w u = record {
    from = ⊎_elim (λ q. inl q) (λ i. inr (there i)) w.from;
    later = w.later;
    near = w.near;
    first = λ c i k h. ⊎_elim (λ q. u (rw q at k) (rw q at h)) (λ j. w.first c j k h) (in_cons i);
  }

  first_later : (H : List (Commit A)) (b : Commit A) → Later Swaps a b → (n : Commit A) × First H b n
  first_later [] b k = (b, record { from = inl refl; later = k; near = omega arith; first = λ c i. absurd (in_nil i) })
  first_later (e ∷ H) b k = go (is_later e) (dec_lt e.place.0 b.place.0) (first_later H)
    where
      go : Dec (Later Swaps a e) → Dec (Earlier e b) → ((b' : Commit A) → Later Swaps a b' → (n : Commit A) × First H b' n) → (n : Commit A) × First (e ∷ H) b n
      go (yes i) (yes h) down = nearer (down e i)
        where
          nearer : (n : Commit A) × First H e n → (n : Commit A) × First (e ∷ H) b n
          nearer (n, w) =
              let q = w.near in (
                n,
                record {
                  from = inr (⊎_elim (λ p. here p) (λ j. there j) w.from);
                  later = w.later;
                  near = omega (arith, q, h);
                  first = λ c j l x. ⊎_elim (λ p. omega (arith, q, x, at_place p)) (λ j'. w.first c j' l x) (in_cons j);
                },
              )
      go (yes i) (no m) down = further (down b k)
        where
          further : (n : Commit A) × First H b n → (n : Commit A) × First (e ∷ H) b n
          further (n, w) = let q = w.near in (n, first_cons e w (λ l x. m (omega (arith, q, x))))
      go (no m) h down = further (down b k)
        where
          further : (n : Commit A) × First H b n → (n : Commit A) × First (e ∷ H) b n
          further (n, w) = (n, first_cons e w (λ l x. m l))

-- ---- the order

-- all commits of a core stand as they were made
abbrev AsMade : {A : Type 0} → List (Commit A) → Type 0
AsMade {A} H = (a b : Commit A) → In a H → In b H → a.core ≡ b.core → Earlier a b → Before a b

-- what is seen in a sequentially consistent order stands before
preceding : {A : Type 0} (e s : Commit A) → ◌≡◌ {A = Type 0} (Preceding e s) (Before s e)
preceding e s = refl

-- what a read may see then precedes it: its own core's earlier writes do
seen : {A : Type 0} {H : List (Commit A)} → AsMade H → (e s : Commit A) → In e H → In s H → MaySee e s → Preceding e s
seen made e s i j (inl p) = rw (preceding e s) p
seen made e s i j (inr p) = rw (preceding e s) (made s e j i p.0 p.1)

module _ {A C X : Type 0} (Keeps Swaps : Op A → Op A → Type 0) (Reads Writes : C → Commit A → X → Type 0) (zero : X) (H : List (Commit A))
    (F : FencesHold Keeps Swaps) (O : Obeys Keeps MaySee Reads Writes zero H) (fenced : Fenced Swaps H) where
  -- any two commits of one core that need a fence have one of that core between them, not the next alone
  parted : (a b : Commit A) → In a H → In b H → Later Swaps a b → (f : Commit A) × In f H × FenceBetween a b f
  parted a b i j k = go (first_later F.told a H b k)
    where
      go : (n : Commit A) × First F.told a H b n → (f : Commit A) × In f H × FenceBetween a b f
      go (n, w) = wider (fenced a n i (⊎_elim (λ q. rw q j) (λ m. m) w.from) (record { later = w.later; first = w.first }))
        where
          wider : (f : Commit A) × In f H × FenceBetween a n f → (f : Commit A) × In f H × FenceBetween a b f
          wider (f, m, v) = (f, m, record { core = v.core; fence = v.fence; after = omega (arith, w.near, v.after); before = omega (arith, w.near, v.before) })

  -- what stands on both sides of a fence of its core keeps its order
  through : (a f b : Commit A) → In a H → In f H → In b H → a.core ≡ b.core → FenceBetween a b f → Before a b
  through a f b i m j c w =
      before_trans a f b (O.order a f i m (sym w.core) w.after (rw w.fence (F.before a.op)))
      (O.order f b m j (w.core ∙ c) w.before (rw w.fence (F.after b.op)))

  as_made : AsMade H
  as_made a b i j c h = go (F.told a.op b.op)
    where
      go : Dec (Swaps a.op b.op) → Before a b
      go (no n) = O.order a b i j c h (F.kept a.op b.op n)
      go (yes s) = crossing (parted a b i j (record { core = sym c; after = h; swaps = s }))
        where
          crossing : (f : Commit A) × In f H × FenceBetween a b f → Before a b
          crossing (f, m, w) = through a f b i m j c w

  last_preceding : (e : Commit A) → In e H → (i : C) {x : X} → LastWrite H (Writes i) (MaySee e) zero x → LastWrite H (Writes i) (Preceding e) zero x
  last_preceding e m i (inl (s, n, w, v, most)) = inl (s, n, w, seen as_made e s m n v, λ t k y u p. most t k y u (inl p))
  last_preceding e m i (inr (none, z)) = inr (λ s n y w p. none s n y w (inl p), z)

  fences_order : Obeys AllKeep Preceding Reads Writes zero H
  fences_order = record { order = λ a b i j c h k. as_made a b i j c h; reads = λ e m i x r. last_preceding e m i (O.reads e m i x r) }

pub fence_theorem : FenceTheorem
fence_theorem A C X Keeps Swaps Reads Writes zero H F O fenced = fences_order Keeps Swaps Reads Writes zero H F O fenced

-- ---- the other way round

-- all pairs keep their order: a store and then a load, and any other
all_keep : {A : Type 0} (a b : Op A) → ◌≡◌ {A = Type 0} (AllKeep a b) (Unit {0})
all_keep (store l x) (load m y) = refl
all_keep (store l x) (store m y) = refl
all_keep (store l x) fence = refl
all_keep (load l x) b = refl
all_keep fence b = refl

pub strictest_theorem : StrictestTheorem
strictest_theorem A C X Keeps Reads Writes zero H S = record { order = λ a b i j c h k. made a b i j c h; reads = λ e m i x r. last e m i (S.reads e m i x r) }
  where
    made : AsMade H
    made a b i j c h = S.order a b i j c h (rw (all_keep a.op b.op) tt)

    last : (e : Commit A) → In e H → (i : C) {x : X} → LastWrite H (Writes i) (Preceding e) zero x → LastWrite H (Writes i) (MaySee e) zero x
    last e m i (inl (s, n, w, v, most)) = inl (s, n, w, inl v, λ t k y u p. most t k y u (seen made e t m k p))
    last e m i (inr (none, z)) = inr (λ s n y w p. none s n y w (seen made e s m n p), z)

-- ---- TSO

-- a store and then a load need a fence, whatever their lines are
store_load : {A : Type 0} (l m : ℕ) (x y : A) → ◌≡◌ {A = Type 0} (StoreThenLoad (store l x) (load m y)) (Unit {0})
store_load l m x y = refl

pub tso_fences_theorem : TsoFencesTheorem
tso_fences_theorem A = record { told = told; kept = kept; before = before; after = λ b. tt }
  where
    told : (a b : Op A) → Dec (StoreThenLoad a b)
    told (load l x) b = no (λ p. p)
    told fence b = no (λ p. p)
    told (store l x) (load m y) = yes (rw (store_load l m x y) tt)
    told (store l x) (store m y) = no (λ p. p)
    told (store l x) fence = no (λ p. p)

    kept : (a b : Op A) → (StoreThenLoad a b → ⊥) → TsoKeeps a b
    kept (load l x) b n = tt
    kept fence b n = tt
    kept (store l x) (load m y) n = n (rw (store_load l m x y) tt)
    kept (store l x) (store m y) n = tt
    kept (store l x) fence n = tt

    before : (a : Op A) → TsoKeeps a fence
    before (load l x) = tt
    before fence = tt
    before (store l x) = tt

pub sequential_theorem : SequentialTheorem
sequential_theorem o accepted gs fenced = fence_theorem Bytes ℕ Bytes TsoKeeps StoreThenLoad Loads Stores _ _ (tso_fences_theorem Bytes) (order_theorem o accepted gs) fenced
