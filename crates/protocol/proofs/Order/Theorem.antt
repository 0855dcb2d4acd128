-- The order theorem: the sorted order of the commits of every list of calls on a fresh engine obeys TSO; that this order is one; and that
-- the test of keys decides it.
use Prim.Native.Nat.{ℕ, suc, ◌+◌, ◌*◌, ◌≤◌, ◌<◌}
use mathlib.Core.{Path.{◌≡◌, refl, sym, ◌∙◌, ap, subst}, Logic.{◌⊎◌, inl, inr, ⊎_elim}, Bool.{Bool, true, false}, List.{List, [], ◌∷◌, ◌++◌}}
use native.Mathlib.{Omega.arith, Decide.dec_lt}
use lib.Dec.{ltb, eqb}
use borrow.Author.Tests.{ltb-true, eqb-true, lt-ltb, le-ltb, eq-eqb}
use Rattle.protocol.specs.{Pick.pick, Stamps.{Precedes, precedes}, Limits.opening_fits, Refusals.open_refusal, Buffers.{Bytes, shared_length, manager_bytes}}
use Rattle.protocol.specs.{About.{about, named_core, named_line}, Given.bytes_given, Machine.{Machine, fresh_machine}, Step.{Op, Reply, refused, done, commit, step}}
use Rattle.protocol.specs.Run.{Entry, Record, place, run, Commit, act_commit, commit_of, commits}
use Rattle.protocol.specs.Order.{In, here, there, Before, Earlier, TsoKeeps, Loads, Stores, LastWrite, Obeys, OpenTheorem, OrderTheorem, SortTheorem}
use Rattle.protocol.specs.{Order.KeyTheorem, declared.{Opening.Opening, Act.{Act, TheVariants.{Transfer, Load, Store, Fence, Advance}}}}
use Rattle.protocol.proofs.{Own.{Own, step_own}, Tests.never, Bytes.{row_le, zeros, zeros_part}, Extents.inside, Refusals.opening_fit}
use Rattle.protocol.proofs.{Written.{arrays_fresh, core_fresh, line_fresh, copy_fresh}, Reached.{onto, reached, from_onto, to_onto}}
use Rattle.protocol.proofs.Order.Log.{All, none, more, all_map, all_at, in_nil, fresh, Lawful, start, log_obeys, step as log-step}
use Rattle.protocol.proofs.Order.Versions.{Spot, at_manager, at_writeback, at_copy, at_slot, Newest, version, here as at_here}
use Rattle.protocol.proofs.Order.{Look.{LineCell, Value, cells, look}, Invariant.{SpotOf, Inv}, Steps.{Good, commit_by, step_good}}

-- ---- the log of a run

-- the invariant before place p, on the commits so far, newest first
record Along (z : Value) (p : ℕ) (H : List (Commit Bytes)) (m : Machine) : Type 0 where
  inv : Inv z H m
  lawful : Lawful TsoKeeps Loads Stores z H
  old : All (λ a. a.place.0 < p) H

along_step : {z : Value} {p : ℕ} {m m' : Machine} {H : List (Commit Bytes)} (g : Entry) (r : Reply) → Along z p H m
    → Own (place p) g.call (bytes_given g.call g.given) r → Good z p H r m' → Along z (suc p) (commit_of (place p) g r ++ H) m'
along_step g (refused n) R w G = record { inv = G; lawful = R.lawful; old = all_map (λ a h. omega arith) R.old }
along_step g (done d) R w G = record { inv = G; lawful = R.lawful; old = all_map (λ a h. omega arith) R.old }
along_step {z} {p} {m' = m'} {H} g (commit c t o) R w G = subst (λ (cs : List (Commit Bytes)). Along z (suc p) (cs ++ H) m') (sym w) (record {
  inv = G.1;
  lawful = log-step R.old G.0 R.lawful;
  old = more {e = commit_by p c t o} (omega arith) (all_map (λ a h. omega arith) R.old);
})

-- a claim about a list of commits speaks of its members alone
module _ {A : Type 0} {H H' : List (Commit A)} (f : (a : Commit A) → In a H → In a H') (b : (a : Commit A) → In a H' → In a H) where
  last_members : {X : Type 0} {Writes : Commit A → X → Type 0} {K : Commit A → Type 0} {z x : X} → LastWrite H Writes K z x → LastWrite H' Writes K z x
  last_members (inl w) = inl (w.0, f w.0 w.1, w.2, w.3, λ s i. w.4 s (b s i))
  last_members (inr w) = inr (λ s i. w.0 s (b s i), w.1)

  obeys_members : {C X : Type 0} {Keeps : Op A → Op A → Type 0} {Sees : Commit A → Commit A → Type 0} {Reads Writes : C → Commit A → X → Type 0} {z : X}
      → Obeys Keeps Sees Reads Writes z H → Obeys Keeps Sees Reads Writes z H'
  obeys_members O = record {
    order = λ x y i j. O.order x y (b x i) (b y j);
    reads = λ e i c x q. last_members (O.reads e (b e i) c x q);
  }

-- ---- the fresh engine

module _ (o : Opening) (fit : opening_fits o ≡ true) where
  bytes_fresh : (l : ℕ) → l < o.lines → manager_bytes o (fresh_machine o).shared l ≡ zeros o.width
  bytes_fresh l h =
      zeros_part (shared_length o) (l * o.width) o.width (row_le o.width l (2 * o.lines + o.cores) (omega (arith, (inside o fit).some_cores)))

  -- every line's newest version is the manager's zeros, at time 0
  inv_fresh : Inv (zeros o.width) [] (fresh_machine o)
  unfolding look
  inv_fresh = record {
    arrays = arrays_fresh o;
    clocks = λ c. none;
    pairs = λ c l h. rw (core_fresh o c) (λ n. absurd n);
    lines = λ l h. (g, record { version = record { wr = omega arith; lr = omega arith; top = none; last = λ i. fresh refl }; spots = go l h });
  }
    where
      g : Newest LineCell Value
      g = version at_manager 0 0 0 (cells (zeros o.width))

      go : (l : ℕ) → l < o.lines → (S : Spot) → SpotOf (zeros o.width) l [] g S (look (fresh_machine o) l S)
      go l h at_manager = rw (line_fresh o l, bytes_fresh l h) (at_here, λ i. tt)
      go l h at_writeback = rw (line_fresh o l) tt
      go l h (at_copy c) = rw (copy_fresh o c l) tt
      go l h (at_slot c) = rw (core_fresh o c) tt

-- ---- demand 3

pub open_theorem : OpenTheorem
open_theorem o accepted = rw (eq-eqb (open_refusal o) 0 accepted) refl

pub order_theorem : OrderTheorem
unfolding commits
order_theorem o accepted gs =
    obeys_members (λ a i. ⊎_elim (λ j. j) (λ j. absurd (in_nil j)) (from_onto records [] i)) (λ a i. to_onto records [] (inl i))
    (log_obeys TsoKeeps Loads Stores z log.1.lawful)
  where
    z : Value
    z = zeros o.width

    records : List Record
    records = (run gs 1 (fresh_machine o)).records

    log : (p : ℕ) × Along z p (commits (onto records [])) (run gs 1 (fresh_machine o)).last
    log =
        reached (λ p rs m. Along z p (commits rs) m)
        (λ p rs m g R. along_step g (step m g.call g.given).reply R (step_own (place p) m g.call g.given) (step_good z p R.inv g.call g.given))
        gs 1 [] (fresh_machine o) (record { inv = inv_fresh o (opening_fit o accepted); lawful = start; old = none })

-- ---- the sorted order is one

-- no two commits of a log are at one place
data Apart {A : Type 0} : List (Commit A) → Type 0 where
  no_commits : Apart []
  one_more : {e : Commit A} {H : List (Commit A)} → All (λ a. Earlier a e) H → Apart H → Apart (e ∷ H)

apart_same : {A : Type 0} {H : List (Commit A)} → Apart H → (a b : Commit A) → In a H → In b H → a.place.0 ≡ b.place.0 → a ≡ b
apart_same no_commits a b i j e = elim i [ ]
apart_same (one_more o d) a b (here p) (here q) e = p ∙ sym q
apart_same (one_more o d) a b (here p) (there j) e = absurd (omega (arith, all_at o j, ap (λ x. x.place.0) p))
apart_same (one_more o d) a b (there i) (here q) e = absurd (omega (arith, all_at o i, ap (λ x. x.place.0) q))
apart_same (one_more o d) a b (there i) (there j) e = apart_same d a b i j e

-- a call makes one commit at its place, or none
data OneAtMost (p : ℕ) : List (Commit Bytes) → Type 0 where
  no_commit : OneAtMost p []
  one_commit : {e : Commit Bytes} → e.place.0 ≡ p → OneAtMost p (e ∷ [])

made_at : (p : ℕ) (g : Entry) (r : Reply) → OneAtMost p (commit_of (place p) g r)
made_at p g (refused n) = no_commit
made_at p g (done d) = no_commit
made_at p g (commit c t o) = go (about g.call).act
  where
    go : (a : Act) → OneAtMost p (act_commit a (place p) (named_core (about g.call).core) (named_line (about g.call).line) (bytes_given g.call g.given) t o)
    go Load = one_commit refl
    go (Store g) = one_commit refl
    go Fence = one_commit refl
    go (Advance by) = no_commit
    go Transfer = no_commit

-- the log before place p, with what is made at p
record Sequenced (p : ℕ) (H : List (Commit Bytes)) : Type 0 where
  apart : Apart H
  old : All (λ a. a.place.0 < p) H

sequenced_more : (p : ℕ) (H : List (Commit Bytes)) {cs : List (Commit Bytes)} → OneAtMost p cs → Sequenced p H → Sequenced (suc p) (cs ++ H)
sequenced_more p H no_commit P = record { apart = P.apart; old = all_map (λ a h. omega arith) P.old }
sequenced_more p H (one_commit {e = e} q) P = record {
  apart = one_more {e = e} (all_map (λ a h. omega arith) P.old) P.apart;
  old = more {e = e} (omega arith) (all_map (λ a h. omega arith) P.old);
}

compare : {A : Type 0} {H : List (Commit A)} → Apart H → (a b : Commit A) → In a H → In b H → (a ≡ b) ⊎ (Before a b ⊎ Before b a)
compare d a b i j = times (dec_lt a.ts.0 b.ts.0) (dec_lt b.ts.0 a.ts.0)
  where
    places : a.ts.0 ≡ b.ts.0 → Dec (Earlier a b) → Dec (Earlier b a) → (a ≡ b) ⊎ (Before a b ⊎ Before b a)
    places e (yes p) q = inr (inl (inr (e, p)))
    places e (no n) (yes q) = inr (inr (inr (sym e, q)))
    places e (no n) (no k) = inl (apart_same d a b i j (omega arith))

    times : Dec (a.ts.0 < b.ts.0) → Dec (b.ts.0 < a.ts.0) → (a ≡ b) ⊎ (Before a b ⊎ Before b a)
    times (yes p) q = inr (inl (inl p))
    times (no n) (yes q) = inr (inr (inl q))
    times (no n) (no k) = places (omega arith) (dec_lt a.place.0 b.place.0) (dec_lt b.place.0 a.place.0)

before_self : {A : Type 0} (a : Commit A) → Before a a → ⊥
before_self a (inl p) = omega arith
before_self a (inr p) = omega arith

pub before_trans : {A : Type 0} (a b c : Commit A) → Before a b → Before b c → Before a c
before_trans a b c (inl p) (inl q) = inl (omega arith)
before_trans a b c (inl p) (inr q) = inl (omega arith)
before_trans a b c (inr p) (inl q) = inl (omega arith)
before_trans a b c (inr p) (inr q) = inr (omega arith, omega arith)

pub sort_theorem : SortTheorem
unfolding commits
sort_theorem o gs = record {
  irreflexive = λ a i. before_self a;
  transitive = λ a b c i j k. before_trans a b c;
  total = λ a b i j. compare log.1.apart a b (to_onto records [] (inl i)) (to_onto records [] (inl j));
}
  where
    records : List Record
    records = (run gs 1 (fresh_machine o)).records

    log : (p : ℕ) × Sequenced p (commits (onto records []))
    log =
        reached (λ p rs m. Sequenced p (commits rs)) (λ p rs m g P. sequenced_more p (commits rs) (made_at p g (step m g.call g.given).reply) P)
        gs 1 [] (fresh_machine o) (record { apart = no_commits; old = none })

-- ---- the test of keys

pub key_theorem : KeyTheorem
key_theorem a b = (holds (ltb a.0.0 b.0.0) (eqb a.0.0 b.0.0) refl refl, tests)
  where
    holds : (x y : Bool) → ltb a.0.0 b.0.0 ≡ x → eqb a.0.0 b.0.0 ≡ y
        → pick x true (pick y (ltb a.1.0 b.1.0) false) ≡ true → Precedes a b
    holds true y e i h = inl (ltb-true a.0.0 b.0.0 e)
    holds false true e i h = inr (eqb-true a.0.0 b.0.0 i, ltb-true a.1.0 b.1.0 h)
    holds false false e i h = never (sym h)

    tests : Precedes a b → precedes a b ≡ true
    tests (inl p) = rw (lt-ltb a.0.0 b.0.0 p) refl
    tests (inr p) =
        let q : b.0.0 ≤ a.0.0 = omega arith in
        rw (le-ltb a.0.0 b.0.0 q, eq-eqb a.0.0 b.0.0 p.0, lt-ltb a.1.0 b.1.0 p.1) refl
