-- Whether a log of numbers obeys a memory model is decided, where it is decided which pairs of commits keep their order, and which stores a load
-- sees.
use Prim.Native.Nat.{ℕ}
use mathlib.Core.Logic.Dec
use mathlib.Core.{Path.{◌≡◌, refl, subst, ap, ap₂}, Logic.{◌⊎◌}}
use native.Mathlib.{Omega.arith, Decide.{ℕ_discrete, dec_lt}}
use Rattle.protocol.specs.{Step.{Op, load, store, fence}, Run.Commit, Order.{In, Before, Earlier, Loads, Stores, LastWrite, Obeys}}
use Rattle.reference_points.specs.{Commits.a_commit as at, Logs.Log}
use Rattle.reference_points.proofs.Decides.{holds, reworded, dec_or, dec_if, dec_every, dec_some}

-- ---- commits

abbrev pub kind : Op ℕ → ℕ
kind (load l x) = 0
kind (store l x) = 1
kind fence = 2

-- ops of two kinds are not the same
unfoldable pub apart : {a b : Op ℕ} → (kind a ≡ kind b → ⊥) → Dec (a ≡ b)
apart n = no (λ e. n (ap kind e))

unfoldable pub same_numbers : (l m x y : ℕ) → Dec ((l ≡ m) × (x ≡ y))
same_numbers l m x y = Dec.and (ℕ_discrete l m) (ℕ_discrete x y)

unfoldable pub same_op : (a b : Op ℕ) → Dec (a ≡ b)
same_op (load l x) (load m y) = reworded (λ h. ap₂ load h.0 h.1) (λ e. (cc, cc)) (same_numbers l m x y)
same_op (load l x) (store m y) = apart (λ e. omega arith)
same_op (load l x) fence = apart (λ e. omega arith)
same_op (store l x) (load m y) = apart (λ e. omega arith)
same_op (store l x) (store m y) = reworded (λ h. ap₂ store h.0 h.1) (λ e. (cc, cc)) (same_numbers l m x y)
same_op (store l x) fence = apart (λ e. omega arith)
same_op fence (load m y) = apart (λ e. omega arith)
same_op fence (store m y) = apart (λ e. omega arith)
same_op fence fence = yes refl

abbrev pub SameParts : Commit ℕ → Commit ℕ → Type 0
SameParts a b = ((a.place.0 ≡ b.place.0) × (a.core ≡ b.core)) × ((a.ts.0 ≡ b.ts.0) × (a.op ≡ b.op))

pub same_parts : {p q c d t u : ℕ} {x y : Op ℕ} → SameParts (at p c t x) (at q d u y) → at p c t x ≡ at q d u y
same_parts h = let p = h.0.0 in let c = h.0.1 in let t = h.1.0 in let o = h.1.1 in cc

unfoldable pub same : (a b : Commit ℕ) → Dec (a ≡ b)
same a b =
    reworded same_parts (λ e. subst (SameParts a) e ((refl, refl), (refl, refl)))
    (Dec.and (same_numbers a.place.0 b.place.0 a.core b.core) (Dec.and (ℕ_discrete a.ts.0 b.ts.0) (same_op a.op b.op)))

unfoldable pub before : (a b : Commit ℕ) → Dec (Before a b)
before a b =
    dec_or (dec_lt a.ts.0 b.ts.0) (Dec.and (ℕ_discrete a.ts.0 b.ts.0) (dec_lt a.place.0 b.place.0))

-- ---- a memory model

-- a claim of a commit that stores to line l
unfoldable pub of_store : (l : ℕ) (o : Op ℕ) {Q : Type 0} → Dec Q → Dec ((y : ℕ) → o ≡ store l y → Q)
of_store l (load m z) d = yes (λ y e. absurd (let z : ◌≡◌ {A = ℕ} 0 1 = cc in omega arith))
of_store l (store m z) d = reworded (λ f y e. f (cc)) (λ g e. g z (ap (λ (k : ℕ). store k z) e)) (dec_if (ℕ_discrete m l) d)
of_store l fence d = yes (λ y e. absurd (let z : ◌≡◌ {A = ℕ} 0 1 = cc in omega arith))

-- which pairs keep their order, and which stores a load sees, are decided
module _ {Keeps : Op ℕ → Op ℕ → Type 0} (keeps : (a b : Op ℕ) → Dec (Keeps a b)) {Sees : Commit ℕ → Commit ℕ → Type 0} (sees : (e s : Commit ℕ) → Dec (Sees e s)) where
  unfoldable pub ordered : (a b : Commit ℕ) → Dec (a.core ≡ b.core → Earlier a b → Keeps a.op b.op → Before a b)
  ordered a b =
      dec_if (ℕ_discrete a.core b.core) (dec_if (dec_lt a.place.0 b.place.0) (dec_if (keeps a.op b.op) (before a b)))

  -- the store s is the last one to line l that the load e sees
  unfoldable pub last : (h : Log) (e : Commit ℕ) (l : ℕ) (s : Commit ℕ) → Dec ((s' : Commit ℕ) → In s' h → (y : ℕ) → Stores l s' y → Sees e s' → (s' ≡ s) ⊎ Before s' s)
  last h e l s = dec_every (λ s'. of_store l s'.op (dec_if (sees e s') (dec_or (same s' s) (before s' s)))) h

  -- what the load e of line l reads: the value of the last store that it sees, or 0 where it sees none
  unfoldable pub read : (h : Log) (e : Commit ℕ) (l x : ℕ) → Dec (LastWrite h (Stores l) (Sees e) 0 x)
  read h e l x =
      dec_or
      (reworded (λ t. (t.0, t.1, t.2.0, t.2.1.0, t.2.1.1)) (λ t. (t.0, t.1, (t.2, (t.3, t.4))))
      (dec_some (λ s. Dec.and (same_op s.op (store l x)) (Dec.and (sees e s) (last h e l s))) h))
      (Dec.and (dec_every (λ s. of_store l s.op (Dec.not (sees e s))) h) (ℕ_discrete x 0))

  unfoldable pub reading : (h : Log) (e : Commit ℕ) (o : Op ℕ) → Dec ((l x : ℕ) → o ≡ load l x → LastWrite h (Stores l) (Sees e) 0 x)
  reading h e (load m z) =
      reworded (λ w l x q. subst (λ (a : ℕ). LastWrite h (Stores l) (Sees e) 0 a) (cc) (subst (λ (a : ℕ). LastWrite h (Stores a) (Sees e) 0 z) (cc) w))
      (λ g. g m z refl) (read h e m z)
  reading h e (store m z) = yes (λ l x q. absurd (let z : ◌≡◌ {A = ℕ} 0 1 = cc in omega arith))
  reading h e fence = yes (λ l x q. absurd (let z : ◌≡◌ {A = ℕ} 0 1 = cc in omega arith))

  unfoldable pub obeys : (h : Log) → Dec (Obeys Keeps Sees Loads Stores 0 h)
  obeys h =
      reworded (λ t. record { order = λ a b i j. t.0 a i b j; reads = t.1 }) (λ o. (λ a i b j. o.order a b i j, o.reads))
      (Dec.and (dec_every (λ a. dec_every (ordered a) h) h) (dec_every (λ e. reading h e e.op) h))

-- the definitions that a decision computes by
unfoldable pub deciding : Unit {0}
unfolding Dec.and Dec.not ℕ_discrete dec_lt holds reworded dec_or dec_if dec_every dec_some apart same_numbers same_op same before ordered of_store last read
    reading obeys
deciding = tt
