-- Whether a log of numbers has the fences of Seven, and whether it is sequentially consistent, is decided, and antt computes the decision for each.
use Prim.Native.Nat.{ℕ}
use mathlib.Core.Logic.Dec
use mathlib.Core.{Path.{refl, subst}, Bool.{true, false}, Logic.{⊎_elim}, List.{[], ◌∷◌}}
use native.Mathlib.{Omega.arith, Decide.{ℕ_discrete, dec_lt}}
use Rattle.protocol.specs.{Step.{Op, load, store, fence}, Run.Commit, Order.{here, there}}
use Rattle.protocol.specs.Sequential.{StoreThenLoad, Later, Next, FenceBetween, Fenced, Sequential}
use Rattle.reference_points.specs.{Commits.committed, Logs.Log}
use Rattle.reference_points.specs.Fences.{fenced, unfenced, sequential, not_sequential, ReadsPreceding, FencedTheorem, UnfencedTheorem, SequentialLogsTheorem}
use Rattle.reference_points.specs.Fences.{own_store_unread, own_store_read, NotSequentialTheorem, PrecedingTheorem, FencesNeededTheorem}
use Rattle.reference_points.proofs.{Each.each, Decides.{holds, from_yes, from_no, reworded, dec_if, dec_every, dec_some}}
use Rattle.reference_points.proofs.{Deciding.{same_op, before, obeys, deciding}, Commits.first}

-- ---- the fences

swaps : (a b : Op ℕ) → Dec (StoreThenLoad a b)
swaps (load l x) b = no (λ h. h)
swaps fence b = no (λ h. h)
swaps (store l x) (load m y) = yes tt
swaps (store l x) (store m y) = no (λ h. h)
swaps (store l x) fence = no (λ h. h)

later : (a b : Commit ℕ) → Dec (Later StoreThenLoad a b)
later a b =
    reworded (λ t. record { core = t.0; after = t.1.0; swaps = t.1.1 }) (λ k. (k.core, (k.after, k.swaps)))
    (Dec.and (ℕ_discrete b.core a.core) (Dec.and (dec_lt a.place.0 b.place.0) (swaps a.op b.op)))

next : (h : Log) (a b : Commit ℕ) → Dec (Next StoreThenLoad h a b)
next h a b =
    reworded (λ t. record { later = t.0; first = t.1 }) (λ n. (n.later, n.first))
    (Dec.and (later a b) (dec_every (λ c. dec_if (later a c) (Dec.not (dec_lt c.place.0 b.place.0))) h))

between : (a b f : Commit ℕ) → Dec (FenceBetween a b f)
between a b f =
    reworded (λ t. record { core = t.0.0; fence = t.0.1; after = t.1.0; before = t.1.1 }) (λ w. ((w.core, w.fence), (w.after, w.before)))
    (Dec.and (Dec.and (ℕ_discrete f.core a.core) (same_op f.op fence)) (Dec.and (dec_lt a.place.0 f.place.0) (dec_lt f.place.0 b.place.0)))

has_fences : (h : Log) → Dec (Fenced StoreThenLoad h)
has_fences h =
    reworded (λ f a b i j. f a i b j) (λ f a i b j. f a b i j) (dec_every (λ a. dec_every (λ b. dec_if (next h a b) (dec_some (between a b) h)) h) h)

pub fenced_theorem : FencedTheorem
unfolding deciding swaps later next between has_fences
fenced_theorem = each (λ h. holds (has_fences h)) (λ h. true) (λ h. from_yes (has_fences h)) fenced refl

pub unfenced_theorem : UnfencedTheorem
unfolding deciding swaps later next between has_fences
unfenced_theorem = each (λ h. holds (has_fences h)) (λ h. false) (λ h. from_no (has_fences h)) unfenced refl

-- ---- the order

is_sequential : (h : Log) → Dec (Sequential 0 h)
is_sequential = obeys (λ a b. yes tt) (λ e s. before s e)

pub sequential_logs_theorem : SequentialLogsTheorem
unfolding deciding is_sequential
sequential_logs_theorem = each (λ h. holds (is_sequential h)) (λ h. true) (λ h. from_yes (is_sequential h)) sequential refl

pub not_sequential_theorem : NotSequentialTheorem
unfolding deciding is_sequential
not_sequential_theorem = each (λ h. holds (is_sequential h)) (λ h. false) (λ h. from_no (is_sequential h)) not_sequential refl

reads_preceding : (h : Log) → Dec (ReadsPreceding h)
reads_preceding = obeys (λ a b. no (λ p. p)) (λ e s. before s e)

pub preceding_theorem : PrecedingTheorem
unfolding deciding reads_preceding
preceding_theorem = (
  each (λ h. holds (reads_preceding h)) (λ h. true) (λ h. from_yes (reads_preceding h)) own_store_unread refl,
  each (λ h. holds (reads_preceding h)) (λ h. false) (λ h. from_no (reads_preceding h)) own_store_read refl,
)

-- ---- a run

-- the load at place 6 stands before the store at place 5
passes : Sequential (0 ∷ 0 ∷ []) committed → ⊥
passes s = ⊎_elim (λ p. omega arith) (λ p. omega arith) (s.order _ _ (here refl) (there (here refl)) refl (omega arith) tt)

pub fences_needed_theorem : FencesNeededTheorem
fences_needed_theorem s = passes (subst (Sequential (0 ∷ 0 ∷ [])) first.committed s)
