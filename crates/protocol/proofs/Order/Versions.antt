-- One line of cells, each with a value of its own (bytes): the spots where a version of it may be, what the order needs of them, and the changes
-- that keep it. The times and the leases are the line's, the values and the marks each cell's. Nothing here knows the machine, nor what a cell
-- or a value is: `Wr i e x`, the commit e writes the value x to the cell i; `Tch e`, it loads from or stores to the line.
use Prim.Native.Nat.{ℕ, ◌≤◌, ◌<◌}
use mathlib.Core.{Path.{◌≡◌, refl}, Logic.{◌⊎◌, inl, inr, ⊎_elim}, List.{List, ◌∷◌}}
use native.Mathlib.Omega.{arith}
use Rattle.protocol.specs.Run.{Commit}
use Rattle.protocol.proofs.Order.Log.{All, more, all_map, Last, found, past, last_map, last_same, Reading}

-- a spot where a version may be: the manager, the writeback, a core's copy, the answer in a core's slot
pub data Spot : Type 0 where
  at_manager : Spot
  at_writeback : Spot
  at_copy : ℕ → Spot
  at_slot : ℕ → Spot

-- the four kinds of spots
abbrev pub kind : Spot → ℕ
kind at_manager = 0
kind at_writeback = 1
kind (at_copy c) = 2
kind (at_slot c) = 3

-- a fact of the core that holds a spot; the manager's and the writeback's are no core's
abbrev pub HeldBy : Spot → (ℕ → Type 0) → Type 0
HeldBy at_manager F = ⊥
HeldBy at_writeback F = ⊥
HeldBy (at_copy c) F = F c
HeldBy (at_slot c) F = F c

-- a spot of another core than c
abbrev pub Elsewhere : ℕ → Spot → Type 0
Elsewhere c S = HeldBy S (λ b. b ≡ c → ⊥)

pub not_here : (c : ℕ) (S : Spot) → Elsewhere c S → HeldBy S (λ b. b ≡ c) → ⊥
not_here c (at_copy b) n e = n e
not_here c (at_slot b) n e = n e
not_here c at_manager n e = elim n [ ]
not_here c at_writeback n e = elim n [ ]

-- whether a cell of the newest version was last written by the core that holds it, which may then read it ahead of its time
pub data Mark : Type 0 where
  clean : Mark
  mine : ℕ → Mark

-- what is at a spot: nothing, a leased snapshot (w its wts, r its rts), the renewal of a snapshot, which has no value of its own, or the
-- newest version
pub data Content (C X : Type 0) : Type 0 where
  nothing : Content C X
  snapshot : ℕ → ℕ → (C → X) → Content C X
  renewal : ℕ → ℕ → Content C X
  newest : (C → Mark) → ℕ → ℕ → (C → X) → Content C X

-- the newest version: where it is or was last, its wts and rts, the greatest end of a lease handed out, its values
pub record Newest (C X : Type 0) : Type 0 where
  pub spot : Spot
  pub w : ℕ
  pub r : ℕ
  pub leased : ℕ
  pub x : C → X

abbrev pub version : {C X : Type 0} → Spot → ℕ → ℕ → ℕ → (C → X) → Newest C X
version S w r t x = record { spot = S; w = w; r = r; leased = t; x = x }

-- the newest version is at S with these values
pub record IsAt {C X : Type 0} (g : Newest C X) (S : Spot) (w r : ℕ) (x : C → X) : Type 0 where
  pub is_spot : g.spot ≡ S
  pub is_w : g.w ≡ w
  pub is_r : g.r ≡ r
  pub is_x : (i : C) → g.x i ≡ x i

pub here : {C X : Type 0} {S : Spot} {w r t : ℕ} {x : C → X} → IsAt (version S w r t x) S w r x
here = record { is_spot = refl; is_w = refl; is_r = refl; is_x = λ i. refl }

-- ---- the invariant of one line
module _ {A C X : Type 0} (z : X) (Wr : C → Commit A → X → Type 0) (Tch : Commit A → Type 0) where
  -- a snapshot that core c may read: its lease is among those handed out, and each write since is beyond the lease and another core's
  pub record Lease (H : List (Commit A)) (g : Newest C X) (c w r : ℕ) (x : C → X) : Type 0 where
    pub wr : w ≤ r
    pub top : r ≤ g.leased
    pub back : (i : C) → Last z (Wr i) (λ e. (r < e.ts.0) × (e.core ≡ c → ⊥)) (λ e. e.ts.0 ≤ w) H (x i)

  -- a marked cell: its newest write is the core's, and every lease handed out ends before the line's wts
  abbrev pub MarkAgrees : List (Commit A) → Newest C X → C → X → Mark → Type 0
  MarkAgrees H g i x clean = Unit {0}
  MarkAgrees H g i x (mine c) = Last z (Wr i) (λ e. ⊥) (λ e. e.core ≡ c) H x × (g.leased < g.w)

  abbrev pub MarksAgree : List (Commit A) → Newest C X → (C → X) → (C → Mark) → Type 0
  MarksAgree H g x m = (i : C) → MarkAgrees H g i (x i) (m i)

  abbrev pub ContentAgrees : List (Commit A) → Newest C X → Spot → Content C X → Type 0
  ContentAgrees H g S nothing = Unit {0}
  ContentAgrees H g S (snapshot w r x) = HeldBy S (λ c. Lease H g c w r x)
  ContentAgrees H g S (renewal w r) = HeldBy S (λ c. (x : C → X) × Lease H g c w r x)
  ContentAgrees H g S (newest m w r x) = IsAt g S w r x × MarksAgree H g x m

  -- no lease and no access is beyond the newest version's own lease, and its values are the newest writes
  pub record VersionAgrees (H : List (Commit A)) (g : Newest C X) : Type 0 where
    pub wr : g.w ≤ g.r
    pub lr : g.leased ≤ g.r
    pub top : All (λ a. Tch a → a.ts.0 ≤ g.r) H
    pub last : (i : C) → Last z (Wr i) (λ e. ⊥) (λ e. e.ts.0 ≤ g.w) H (g.x i)

  pub record LineAgrees (H : List (Commit A)) (M : Spot → Content C X) (g : Newest C X) : Type 0 where
    pub version : VersionAgrees H g
    pub spots : (S : Spot) → ContentAgrees H g S (M S)

  -- what keeps every lease and the newest version keeps what is at a spot
  content_map : (H H' : List (Commit A)) (g g' : Newest C X) (S : Spot) (v : Content C X)
      → ((c : ℕ) → HeldBy S (λ b. b ≡ c) → (w r : ℕ) (x : C → X) → Lease H g c w r x → Lease H' g' c w r x)
      → ((m : C → Mark) (w r : ℕ) (x : C → X) → IsAt g S w r x → MarksAgree H g x m → IsAt g' S w r x × MarksAgree H' g' x m)
      → ContentAgrees H g S v → ContentAgrees H' g' S v
  content_map H H' g g' S nothing f n k = tt
  content_map H H' g g' (at_copy c) (snapshot w r x) f n k = f c refl w r x k
  content_map H H' g g' (at_slot c) (snapshot w r x) f n k = f c refl w r x k
  content_map H H' g g' at_manager (snapshot w r x) f n k = elim k [ ]
  content_map H H' g g' at_writeback (snapshot w r x) f n k = elim k [ ]
  content_map H H' g g' (at_copy c) (renewal w r) f n k = (k.0, f c refl w r k.0 k.1)
  content_map H H' g g' (at_slot c) (renewal w r) f n k = (k.0, f c refl w r k.0 k.1)
  content_map H H' g g' at_manager (renewal w r) f n k = elim k [ ]
  content_map H H' g g' at_writeback (renewal w r) f n k = elim k [ ]
  content_map H H' g g' S (newest m w r x) f n k = n m w r x k.0 k.1

  -- what is not the newest version agrees as before once more is leased
  pub carry : (H : List (Commit A)) (g g' : Newest C X) → g.leased ≤ g'.leased → (S : Spot) (v : Content C X) → (g.spot ≡ S → ⊥)
      → ContentAgrees H g S v → ContentAgrees H g' S v
  carry H g g' h S v n =
      content_map H H g g' S v (λ c i w r x k. record { wr = k.wr; top = omega (arith, k.top); back = k.back }) (λ m w r x i k. absurd (n i.is_spot))

  -- the same spots, some of them perhaps with nothing now
  pub thin : {H : List (Commit A)} {M : Spot → Content C X} {g : Newest C X} → LineAgrees H M g → (M' : Spot → Content C X)
      → ((Y : Spot) → (M' Y ≡ M Y) ⊎ (M' Y ≡ nothing)) → LineAgrees H M' g
  thin I M' f = record { version = I.version; spots = λ Y. ⊎_elim (λ q. rw q (I.spots Y)) (λ q. rw q tt) (f Y) }

  -- the newest version goes to S, or stays there: its lease may grow, and leases be handed out up to its own
  pub goes_to : {H : List (Commit A)} {g : Newest C X} {Z : Spot} {w r : ℕ} {x : C → X} → VersionAgrees H g → IsAt g Z w r x
      → (S : Spot) (r' t : ℕ) → r ≤ r' → g.leased ≤ t → t ≤ r' → VersionAgrees H (version S w r' t x)
  goes_to ok i S r' t h₁ h₂ h₃ = record {
    wr = omega (arith, ok.wr, i.is_w, i.is_r);
    lr = h₃;
    top = all_map (λ a f k. omega (arith, f k, i.is_r)) ok.top;
    last = λ j. last_map (λ a n. n) (λ a k. omega (arith, i.is_w)) (rw (i.is_x j) at (ok.last j));
  }

  -- a commit that writes no cell, and is within the newest version's lease if it touches the line
  pub quiet : {H : List (Commit A)} {M : Spot → Content C X} {g : Newest C X} (e : Commit A) → ((i : C) (x : X) → Wr i e x → ⊥)
      → (Tch e → e.ts.0 ≤ g.r) → LineAgrees H M g → LineAgrees (e ∷ H) M g
  quiet {H} {M} {g} e n t I = record {
    version = record { wr = ok.wr; lr = ok.lr; top = more t ok.top; last = λ i. past (n i) (ok.last i) };
    spots = λ S. content_map H (e ∷ H) g g S (M S)
        (λ c i w r x k. record { wr = k.wr; top = k.top; back = λ j. past (λ y q. absurd (n j y q)) (k.back j) })
        (λ m w r x i k. (i, λ j. mark j (x j) (m j) (k j))) (I.spots S);
  }
    where
      ok : VersionAgrees H g
      ok = I.version

      mark : (i : C) (x : X) (m : Mark) → MarkAgrees H g i x m → MarkAgrees (e ∷ H) g i x m
      mark i x clean k = tt
      mark i x (mine c) k = (past (n i) k.0, k.1)

  -- what a write makes of a cell, with x and m its value and its mark after it: it writes the cell and marks it, or leaves it
  abbrev pub Written : List (Commit A) → Newest C X → Commit A → C → X → Mark → Type 0
  Written H g e i x m = (Wr i e x × (m ≡ mine e.core)) ⊎ (((y : X) → Wr i e y → ⊥) × (g.x i ≡ x) × MarkAgrees H g i x m)

  -- a write by e's core at its copy, of some of the cells: past every lease handed out
  module _ {H : List (Commit A)} {g : Newest C X} (ok : VersionAgrees H g) (e : Commit A) (x : C → X) (m : C → Mark)
      (cells : (i : C) → Written H g e i (x i) (m i)) (h : g.leased < e.ts.0) (h' : g.r ≤ e.ts.0) where
    abbrev pub wrote : Newest C X
    wrote = version (at_copy e.core) e.ts.0 e.ts.0 g.leased x

    pub write_version : VersionAgrees (e ∷ H) wrote
    write_version = record {
      wr = omega arith;
      lr = omega arith;
      top = more {e = e} (λ t. omega arith) (all_map (λ a f t. omega (arith, f t)) ok.top);
      last = λ i. newer i (cells i);
    }
      where
        newer : (i : C) → Written H g e i (x i) (m i) → Last z (Wr i) (λ a. ⊥) (λ a. a.ts.0 ≤ e.ts.0) (e ∷ H) (x i)
        newer i (inl k) = found {e = e} k.0 (omega arith)
        newer i (inr k) = past {e = e} k.0 (last_map (λ a n. n) (λ a q. omega (arith, ok.wr)) (rw k.1 at (ok.last i)))

    pub write_marks : MarksAgree (e ∷ H) wrote x m
    write_marks i = go (m i) (cells i)
      where
        stays : (u : Mark) → ((y : X) → Wr i e y → ⊥) → MarkAgrees H g i (x i) u → MarkAgrees (e ∷ H) wrote i (x i) u
        stays clean n k = tt
        stays (mine c) n k = (past {e = e} n k.0, h)

        go : (u : Mark) → Written H g e i (x i) u → MarkAgrees (e ∷ H) wrote i (x i) u
        go u (inl k) = rw k.1 (found {e = e} k.0 refl, h)
        go u (inr k) = stays u k.0 k.2

    -- what is at another core's spot, or at none's, and is not the newest version
    pub write_past : (S : Spot) (v : Content C X) → (g.spot ≡ S → ⊥) → (HeldBy S (λ c. c ≡ e.core) → ⊥) → ContentAgrees H g S v
        → ContentAgrees (e ∷ H) wrote S v
    write_past S v n b =
        content_map H (e ∷ H) g wrote S v
        (λ c i w r x k. record { wr = k.wr; top = k.top; back = λ j. past {e = e} (λ u p. (omega (arith, k.top), λ q. b (rw q i))) (k.back j) })
        (λ m w r x i k. absurd (n i.is_spot))

  -- marks agree as before while neither the leases handed out nor the wts changes
  pub marks_stay : (H : List (Commit A)) (g g' : Newest C X) (x : C → X) (m : C → Mark) → g'.leased ≡ g.leased → g'.w ≡ g.w
      → MarksAgree H g x m → MarksAgree H g' x m
  marks_stay H g g' x m p q k i = go (m i) (k i)
    where
      go : (u : Mark) → MarkAgrees H g i (x i) u → MarkAgrees H g' i (x i) u
      go clean k = tt
      go (mine c) k = (k.0, omega (arith, k.1))

  -- ---- what a load reads of a cell

  pub reads_snapshot : {H : List (Commit A)} {g : Newest C X} {c w r : ℕ} {x : C → X} (t : ℕ) → w ≤ t → t ≤ r → Lease H g c w r x
      → (i : C) → Reading z (Wr i) c t H (x i)
  reads_snapshot t h k lease i = last_map (λ e p. (omega arith, p.1)) (λ e p. inl (omega arith)) (lease.back i)

  pub reads_newest : {H : List (Commit A)} {g : Newest C X} (c t : ℕ) → g.w ≤ t → VersionAgrees H g → (i : C) → Reading z (Wr i) c t H (g.x i)
  reads_newest c t h ok i = last_map (λ e p. absurd p) (λ e p. inl (omega arith)) (ok.last i)

  pub reads_mine : {H : List (Commit A)} {i : C} {x : X} (c t : ℕ) → Last z (Wr i) (λ e. ⊥) (λ e. e.core ≡ c) H x → Reading z (Wr i) c t H x
  reads_mine c t k = last_map (λ e p. absurd p) (λ e p. inr p) k

  -- ---- leases

  -- a snapshot of the newest version as it is, where its whole lease is handed out
  pub lease_of : {H : List (Commit A)} {g : Newest C X} (c : ℕ) → g.r ≤ g.leased → VersionAgrees H g → Lease H g c g.w g.r g.x
  lease_of c h ok = record { wr = ok.wr; top = h; back = λ i. last_map (λ e p. absurd p) (λ e p. p) (ok.last i) }

  -- a renewal is of the copy's own version
  pub lease_renewed : {H : List (Commit A)} {g : Newest C X} {c w w' r r' : ℕ} {x x' : C → X} → ((i : C) (e : Commit A) (u v : X) → Wr i e u → Wr i e v → u ≡ v)
      → w' ≡ w → Lease H g c w r x → Lease H g c w' r' x' → Lease H g c w r' x
  lease_renewed {H} {c = c} {w} {w'} {r} {r'} {x = x} {x' = x'} u i k k' = record { wr = omega (arith, k'.wr); top = k'.top; back = λ j. go j }
    where
      go : (j : C) → Last z (Wr j) (λ e. (r' < e.ts.0) × (e.core ≡ c → ⊥)) (λ e. e.ts.0 ≤ w) H (x j)
      go j =
          let q : x j ≡ x' j = last_same H (u j) (λ e p q. omega (arith, k.wr, k'.wr)) (λ e p q. omega (arith, k.wr, k'.wr)) (k.back j) (k'.back j) in
          rw (← i, q) (k'.back j)
