-- Every call, with any numbers and any bytes, keeps the invariant, and what it commits extends the log: one function over the rows of the tables.
use Prim.Native.Nat.{ℕ, ◌≤◌, ◌<◌}
use mathlib.Core.{Path.{◌≡◌, refl, sym, ◌∙◌, ap}, Logic.{◌⊎◌, inl, inr}, Bool.{Bool, true, false}, List.{List, ◌∷◌}}
use native.Mathlib.Omega.{arith}
use lib.{Dec.eqb, ListN.length}
use borrow.Author.Tests.{eq-eqb}
use Rattle.protocol.specs.{Given.bytes_given, Stamps.later, Clock.store_time, Buffers.{Bytes, There, copy_bytes, manager_bytes, writeback_bytes, answer_bytes}}
use Rattle.protocol.specs.{Machine.{Machine, pieces_at, core_at, copy_at, line_at, applied}, Copies.is_owned}
use Rattle.protocol.specs.declared.Pieces.{Pieces}
use Rattle.protocol.specs.{Step.{Op, load, store, fence, Reply, refused, done, commit, meaning, Outcome, accepted, step}, Run.{place, Commit}}
use Rattle.protocol.specs.Order.{TsoKeeps, Loads, Stores}
use Rattle.protocol.specs.Tables.{row, slotted, held_of, load_owned, earliest, store_table, fence_table, advance_table, evict_table, leased_to, serve_load, serve_asked}
use Rattle.protocol.specs.Tables.{receive_renew, receive_grant, yielded, yield_table, take_table, victim_table, written_back}
use Rattle.protocol.specs.declared.{Stamp.Stamp, Clocks.Clocks, Copy.{Copy, TheVariants.{None as NoCopy, Shared as CopyShared, Owned as CopyOwned}}}
use Rattle.std.specs.Prelude.{Option, Some}
use Rattle.protocol.specs.declared.Want.{Want, TheVariants.{Load as WantLoad, Store as WantStore}}
use Rattle.protocol.specs.declared.{Grant.{Grant, TheVariants.{Share as GrantShare, Renew as GrantRenew, Own as GrantOwn}}, Core.Core}
use Rattle.protocol.specs.declared.{Manager.{Manager, TheVariants.Shared}, Recall.{Recall, TheVariants.{None as NoRecall, Downgrade, Flush}}}
use Rattle.protocol.specs.declared.{Flight.Flight, Opening.Opening, Call.Call}
use Rattle.protocol.specs.declared.{Answer.{Answer, TheVariants.Done}, Effect.Effect}
use Rattle.protocol.specs.declared.Move.{Move, TheVariants.{Receive as MoveReceive, Writeback as MoveWriteback}}
use Rattle.protocol.specs.declared.{Slot.TheVariants.{Empty, Asked, Answered}, Name.TheVariants.{Own, Yield as Yielded}}
use Rattle.protocol.proofs.{Tests.never, Refusals.{Fit, machine_fit}, Written.core_at_lem, Keep.{EffectFits, made_fits}}
use Rattle.protocol.proofs.Cases.{Row, asks_load, reads_shared, reads_dirty, reads_clean, asks_store, writes, fences, advances, evicts_shared}
use Rattle.protocol.proofs.Cases.{evicts_owned, recalls, renews, shares, grants, gets_share, gets_own, gets_renewal, drops_none, drops_owned, yields}
use Rattle.protocol.proofs.Cases.{takes, names_victim, Case, refuses, makes, case_of}
use Rattle.protocol.proofs.Order.Log.{more, all_map, Touches, Reading, Extends}
use Rattle.protocol.proofs.Order.Versions.{Spot, at_manager, at_writeback, at_copy, at_slot, kind, HeldBy, Elsewhere, not_here, mine, newest, Newest}
use Rattle.protocol.proofs.Order.Versions.{version, IsAt, here, carry, goes_to, quiet, write_version, write_marks, write_past, Written, marks_stay}
use Rattle.protocol.proofs.Order.Versions.{MarksAgree, lease_of, lease_renewed, reads_snapshot, reads_newest, reads_mine}
use Rattle.protocol.proofs.Order.Look.{LineCell, Value, cells, marks, look, view_copy, view_manager, view_writeback, granted, view_at, view_none, SpeaksOf}
use Rattle.protocol.proofs.Order.Look.{SlotStep}
use Rattle.protocol.proofs.Order.Rows.{time_of, read_within, lease_grows, read_after, read_clocked, read_version, shared_version, shared_within}
use Rattle.protocol.proofs.Order.Rows.{store_from_lem, store_past, store_after_loads, store_after_stores, same_version_lem, grant_within, manager_grows, evict_lease, yield_lease}
use Rattle.protocol.proofs.Order.Rows.{own_clean, evict_moves, yield_moves}
use Rattle.protocol.proofs.Order.Invariant.{Onward, Writes, On, Passed, Allowed, Beside, VersionOf, SpotOf, LineInv, Inv, clocks_applied, inv_applied}
use Rattle.protocol.proofs.Order.Invariant.{Leaves, line_applied}

-- the commit of core c at t
abbrev pub commit_by : ℕ → ℕ → Stamp → Op Bytes → Commit Bytes
commit_by p c t o = record { place = place p; core = c; ts = t; op = o }

-- a call's answer and the machine after it keep the invariant, and a commit extends the log
abbrev pub Good : Value → ℕ → List (Commit Bytes) → Reply → Machine → Type 0
Good z p H (refused n) m = Inv z H m
Good z p H (done d) m = Inv z H m
Good z p H (commit c t o) m = Extends TsoKeeps Loads Stores z (commit_by p c t o) H × Inv z (commit_by p c t o ∷ H) m

-- ---- a slot and a copy

-- what is asked beside a copy that is not owned
ask_beside : (a : Want) (l : ℕ) (t : Stamp) (v : Copy) → is_owned v ≡ false → Allowed (Asked a l t (held_of v)) v
ask_beside a l t NoCopy e = tt
ask_beside a l t (CopyShared w r) e = refl
ask_beside a l t (CopyOwned d w r) e = never e

-- beside a request, its answer may come: a renewal of its version, a share, the line itself
module _ (a : Want) (l : ℕ) (t : Stamp) (h : Option Stamp) (w r : Stamp) where
  renewal_beside : (v : Copy) → h ≡ Some w → Allowed (Asked a l t h) v → Allowed (Answered GrantRenew l w r) v
  renewal_beside NoCopy e k = tt
  renewal_beside (CopyShared w₁ r₁) e k = cc
  renewal_beside (CopyOwned d w₁ r₁) e k = k

  share_beside : (v : Copy) → Allowed (Asked a l t h) v → Allowed (Answered GrantShare l w r) v
  share_beside NoCopy k = tt
  share_beside (CopyShared w₁ r₁) k = tt
  share_beside (CopyOwned d w₁ r₁) k = k

  own_beside : (v : Copy) → Allowed (Asked a l t h) v → Allowed (Answered GrantOwn l w r) v
  own_beside NoCopy k = tt
  own_beside (CopyShared w₁ r₁) k = tt
  own_beside (CopyOwned d w₁ r₁) k = k

-- ---- the order of one core's commits

-- a load comes after its core's loads and fences
kept_load : (x : Op Bytes) (t' t : ℕ) (l : ℕ) (b : Bytes) (k : Clocks) → k.lts.0 ≤ t → Passed x t' k → TsoKeeps x (load l b) → t' ≤ t
kept_load (load n d) t' t l b k h f q = omega arith
kept_load (store n d) t' t l b k h f q = absurd q
kept_load fence t' t l b k h f q = omega arith

-- what is at or after both clocks comes after all its core's commits
kept_all : (x : Op Bytes) (t' t : ℕ) (k : Clocks) → k.lts.0 ≤ t → k.sts.0 ≤ t → Passed x t' k → t' ≤ t
kept_all (load n d) t' t k h h' f = omega arith
kept_all (store n d) t' t k h h' f = omega arith
kept_all fence t' t k h h' f = omega arith

-- ---- the rows of the table of a call about core c and line l
module _ (z : Value) (p : ℕ) {H : List (Commit Bytes)} (given : Bytes) {m : Machine} (I : Inv z H m) (f : Fit m) {c l : ℕ}
    (q : There m.state.opening c l) where
  abbrev o : Opening
  o = m.state.opening

  abbrev k : Core
  k = core_at m.state c

  abbrev ps : Pieces
  ps = pieces_at m.state c l

  abbrev bytes : Bytes
  bytes = copy_bytes o m.private c l

  abbrev line : Bytes
  line = manager_bytes o m.shared l

  abbrev g : Newest LineCell Value
  g = (I.lines l q.line).0

  ok : VersionOf z l H g
  ok = (I.lines l q.line).1.version

  -- the machine after a row
  abbrev next : Effect → Machine
  next d = applied m c l given d

  -- what the row makes fits the sizes
  abbrev Fitting : Effect → Type 0
  Fitting d = EffectFits o (length given) d

  -- the row is good: its answer and the machine after it
  abbrev GoodRow : Call → Effect → Type 0
  GoodRow call d = Good z p H (accepted m call given c l d).reply (accepted m call given c l d).machine

  -- ---- before the row: what is at the spots, and the slot beside the copy
  at : (S : Spot) → SpotOf z l H g S (look m l S)
  at S = (I.lines l q.line).1.spots S

  at_copy_lem : (v : Copy) → copy_at m.state c l ≡ v → SpotOf z l H g (at_copy c) (view_copy c v bytes)
  unfolding look
  at_copy_lem v e = rw e at (at (at_copy c))

  at_slot_lem : (y : Grant) (w r : Stamp) → k.slot ≡ Answered y l w r → SpotOf z l H g (at_slot c) (granted y w r (answer_bytes o m.shared c))
  unfolding look
  at_slot_lem y w r e = rw (e, view_at l y w r (answer_bytes o m.shared c)) at (at (at_slot c))

  at_manager_lem : (v : Manager) → (line_at m.state l).manager ≡ v → SpotOf z l H g at_manager (view_manager v line)
  unfolding look
  at_manager_lem v e = rw e at (at at_manager)

  at_writeback_lem : (v : Option Flight) → (line_at m.state l).writeback ≡ v → SpotOf z l H g at_writeback (view_writeback v (writeback_bytes o m.shared l))
  unfolding look
  at_writeback_lem v e = rw e at (at at_writeback)

  pair : Beside l k.slot (copy_at m.state c l)
  pair = I.pairs c l q.line

  asked : {a : Want} {t : Stamp} {h : Option Stamp} → k.slot ≡ Asked a l t h → Allowed (Asked a l t h) (copy_at m.state c l)
  asked e = (rw e at pair) refl

  -- an owner's slot does not speak of the line, so any copy may come beside it
  owner_silent : {b : Bool} {w r : Stamp} → copy_at m.state c l ≡ CopyOwned b w r → SpeaksOf l k.slot → ⊥
  owner_silent e = rw e at pair

  -- ---- the invariant after a row that commits nothing, and after one that commits
  module _ {d : Effect} (e : Fitting d) (st : SlotStep m c l d) (pr : Beside l d.core.slot d.copy)
      (a : Onward k.clocks d.core.clocks) where
    keeps : {g' : Newest LineCell Value} → LineInv z l H (look (next d) l) g' → Inv z H (next d)
    keeps this = inv_applied I f q given d e.bytes H st pr (clocks_applied I f q given d e.bytes a) (λ l' g n k. k) this

    commits_keeps : {g' : Newest LineCell Value} (t : Stamp) (x : Op Bytes) → Passed x t.0 d.core.clocks
        → ((l' : ℕ) → (l' ≡ l → ⊥) → (y : Bytes) → x ≡ store l' y → ⊥) → ((l' : ℕ) → (l' ≡ l → ⊥) → Touches l' x → ⊥)
        → LineInv z l (commit_by p c t x ∷ H) (look (next d) l) g' → Inv z (commit_by p c t x ∷ H) (next d)
    unfolding applied
    commits_keeps t x ck nw nt this =
        inv_applied I f q given d e.bytes (commit_by p c t x ∷ H) st pr
        (λ c'. more {e = commit_by p c t x} (λ i. own c' i) (clocks_applied I f q given d e.bytes a c'))
        (λ l' g' n k. quiet z (Writes l') (On l') (commit_by p c t x) (λ i. nw l' n) (λ i. absurd (nt l' n i)) k)
        this
      where
        own : (c' : ℕ) → c ≡ c' → Passed x t.0 (core_at (next d).state c').clocks
        own c' i = rw (← i, core_at_lem I.arrays q d) ck

  -- ---- the line after a row

  -- two spots of different kinds
  apart : {Z Y : Spot} → Z ≡ Y → eqb (kind Z) (kind Y) ≡ false → ⊥
  apart {Z} {Y} e n = never (sym (eq-eqb (kind Z) (kind Y) (ap kind e)) ∙ n)

  module _ {d : Effect} (e : Fitting d) where
    -- the newest version is where it was; what the row leaves at the four spots agrees with it
    as_was : Leaves I f q given d e.bytes H g → LineInv z l H (look (next d) l) g
    as_was x = line_applied I f q given d e.bytes ok (λ Y _. at Y) x

    -- it goes from Z, one of the four spots, to S, or stays there: its lease grows to r', and leases are handed out up to t. What is at spots of
    -- another kind than Z may stay
    goes : {Z : Spot} {w r : ℕ} {x : LineCell → Value} → IsAt g Z w r x → (Elsewhere c Z → ⊥) → (S : Spot) (r' t : ℕ)
        → r ≤ r' → g.leased ≤ t → t ≤ r'
        → (VersionOf z l H (version S w r' t x)
        → ((Y : Spot) → eqb (kind Z) (kind Y) ≡ false → SpotOf z l H (version S w r' t x) Y (look m l Y))
        → Leaves I f q given d e.bytes H (version S w r' t x))
        → LineInv z l H (look (next d) l) (version S w r' t x)
    goes {Z} {w} {r} {x} i near S r' t h₁ h₂ h₃ leaves =
        let ok' = goes_to z (Writes l) (On l) ok i S r' t h₁ h₂ h₃ in
        line_applied I f q given d e.bytes ok' (λ Y n. stays Y (λ j. near (rw j n))) (leaves ok' (λ Y n. stays Y (λ j. apart j n)))
      where
        stays : (Y : Spot) → (Z ≡ Y → ⊥) → SpotOf z l H (version S w r' t x) Y (look m l Y)
        stays Y n = carry z (Writes l) (On l) H g (version S w r' t x) h₂ Y (look m l Y) (λ j. n (sym i.is_spot ∙ j)) (at Y)

  -- ---- loads

  -- a load writes nothing
  load_still : (l' : ℕ) (x : Bytes) → load l bytes ≡ store l' x → ⊥
  load_still l' x e = let n : ◌≡◌ {A = ℕ} 0 1 = cc in omega arith

  -- a load by core c at t of the copy's bytes extends the log if they are those to be read, and keeps the invariant if t is within the lease
  -- that the newest version has after it
  loads : {g' : Newest LineCell Value} {d : Effect} → Fitting d → (t : Stamp) → k.clocks.lts.0 ≤ t.0
      → ((i : LineCell) → Reading z (Writes l i) c t.0 H (cells bytes i)) → SlotStep m c l d → Beside l d.core.slot d.copy
      → Onward k.clocks d.core.clocks → t.0 ≤ d.core.clocks.lts.0 → t.0 ≤ g'.r
      → LineInv z l H (look (next d) l) g' → Good z p H (commit c t (load l bytes)) (next d)
  loads fit t h s st pr a ck w this = (
    record {
      in_order = all_map (λ x i j e. kept_load x.op x.ts.0 t.0 l bytes k.clocks h (i j) e) (I.clocks c);
      sees = seen;
      above = λ l' x e. absurd (load_still l' x e);
    },
    commits_keeps fit st pr a t (load l bytes) ck (λ l' n x e. load_still l' x e) (λ l' n i. n (sym i))
        (quiet z (Writes l) (On l) (commit_by p c t (load l bytes)) (λ i x e. load_still l x e) (λ _. w) this),
  )
    where
      seen : (l' : ℕ) (x : Bytes) → load l bytes ≡ load l' x → Reading z (Stores l') c t.0 H x
      seen l' x e =
          let a : l' ≡ l = cc in
          let b : x ≡ bytes = cc in
          rw (a, b) (s tt)

  -- the marks of an owner's copy stay while its lease alone grows
  same_marks : (b : Bool) {w r : Stamp} (r' : ℕ) → SpotOf z l H g (at_copy c) (newest (marks c b) w.0 r.0 (cells bytes))
      → MarksAgree z (Writes l) (On l) H (version (at_copy c) w.0 r' g.leased (cells bytes)) (cells bytes) (marks c b)
  same_marks b r' v =
      marks_stay z (Writes l) (On l) H g (version (at_copy c) _ r' g.leased (cells bytes)) (cells bytes) (marks c b) refl (sym v.0.is_w) v.1

  -- ---- stores

  -- a store to an owned copy is past every lease handed out: they end before the copy's version was made if it is dirty, and within the copy's
  -- own lease if it is not
  past_leases : (b : Bool) (w r : Stamp) → copy_at m.state c l ≡ CopyOwned b w r
      → g.leased < time_of (store_table (CopyOwned b w r) c l ps).answer
  past_leases true w r e =
      let v = at_copy_lem (CopyOwned true w r) e in
      omega (arith, (v.1 tt).1, v.0.is_r, ok.wr, store_from_lem c l w r ps true)
  past_leases false w r e = let v = at_copy_lem (CopyOwned false w r) e in omega (arith, v.0.is_r, ok.lr, store_past c l w r ps)

  -- what loads from or stores to line l is on it
  on_line : (l' : ℕ) (a : Commit Bytes) (y : Bytes) → l' ≡ l → Loads l' a y ⊎ Stores l' a y → On l a
  on_line l' a y i (inl e) = rw e i
  on_line l' a y i (inr e) = rw e i

  -- ---- a line that was given

  -- its newest version, in the slot until now, is the copy's; v is that copy
  gets_line : (v : Copy) {w r : Stamp} → k.slot ≡ Answered GrantOwn l w r → v ≡ CopyOwned false w r
      → Fitting (row (Done Own) MoveReceive (slotted k Empty) (CopyOwned false w r) (line_at m.state l))
      → Inv z H (next (row (Done Own) MoveReceive (slotted k Empty) v (line_at m.state l)))
  unfolding look
  gets_line v {w} {r} e i fit =
      let u = (at_slot_lem GrantOwn w r e).0 in
      rw i
      (keeps fit (inr (λ l' n. absurd n)) (λ n. absurd n) (omega arith)
      (goes fit u (λ n. n refl) (at_copy c) r.0 g.leased (omega arith) (omega arith) (omega (arith, ok.lr, u.is_r))
      (λ ok' stay. (stay at_manager refl, stay at_writeback refl, (here, λ j. tt), tt))))

  -- ---- writebacks

  -- an owner's version goes to the writeback, with its bytes and its whole lease; u is what its copy becomes
  writes_back : (a : Answer) (v : Move) (w r r' : Stamp) (b : Bool) (u : Copy) (t : ℕ) → Fitting (row a MoveWriteback k u (written_back (line_at m.state l) w r'))
      → copy_at m.state c l ≡ CopyOwned b w r → v ≡ MoveWriteback → r.0 ≤ r'.0 → g.leased ≤ t → t ≤ r'.0
      → (VersionOf z l H (version at_writeback w.0 r'.0 t (cells bytes))
      → SpotOf z l H (version at_writeback w.0 r'.0 t (cells bytes)) (at_copy c) (view_copy c u bytes))
      → Inv z H (next (row a v k u (written_back (line_at m.state l) w r')))
  unfolding look
  writes_back a v w r r' b u t fit e i h₁ h₂ h₃ copy = rw i
      (keeps fit (inl (refl, tt)) (λ s. absurd (owner_silent e s)) (omega arith)
      (goes fit (at_copy_lem (CopyOwned b w r) e).0 (λ n. n refl) at_writeback r'.0 t h₁ h₂ h₃
      (λ ok' stay. (stay at_manager refl, (here, λ j. tt), copy ok', stay (at_slot c) refl))))

  -- ---- the rows

  row_good : {call : Call} {d : Effect} → Row c l ps o call d → Fitting d → GoodRow call d
  unfolding accepted meaning look load_owned store_table fence_table advance_table evict_table serve_asked serve_load receive_grant receive_renew yield_table take_table victim_table
  row_good (asks_load e i) fit =
      keeps fit (inr (λ l' n. sym n)) (λ _. ask_beside WantLoad l k.clocks.lts (copy_at m.state c l) i) (omega arith)
      (as_was fit (at at_manager, at at_writeback, at (at_copy c), tt))
  row_good (asks_store e i) fit =
      keeps fit (inr (λ l' n. sym n)) (λ _. ask_beside WantStore l k.clocks.lts (copy_at m.state c l) i) (omega arith)
      (as_was fit (at at_manager, at at_writeback, at (at_copy c), tt))
  row_good (reads_shared {w = w} {r = r} e h) fit =
      let lease = at_copy_lem (CopyShared w r) e in
      let t = shared_within c l w r ps lease.wr h in
      loads fit (later k.clocks.lts w) (omega arith)
      (reads_snapshot z (Writes l) (On l) (later k.clocks.lts w).0 (shared_version c l w r ps) t lease)
      (inl (refl, tt)) pair (omega arith) (omega arith) (omega (arith, t, lease.top, ok.lr))
      (as_was fit (at at_manager, at at_writeback, at (at_copy c), at (at_slot c)))
  row_good (reads_dirty {w = w} {r = r} e) fit =
      let t = k.clocks.lts in
      let v = at_copy_lem (CopyOwned true w r) e in
      let h = lease_grows c l w r ps true in
      loads fit t (read_after c l w r ps true) (λ i. reads_mine z (Writes l) (On l) c t.0 (v.1 i).0)
      (inl (refl, tt)) (λ s. absurd (owner_silent e s)) (omega arith) (read_clocked c l w r ps true) (read_within c l w r ps true)
      (goes fit v.0 (λ n. n refl) (at_copy c) (later r t).0 g.leased h (omega arith) (omega (arith, ok.lr, v.0.is_r, h))
      (λ ok' stay. (stay at_manager refl, stay at_writeback refl, (here, same_marks true (later r t).0 v), stay (at_slot c) refl)))
  row_good (reads_clean {w = w} {r = r} e) fit =
      let t = later k.clocks.lts w in
      let v = at_copy_lem (CopyOwned false w r) e in
      let h = lease_grows c l w r ps false in
      loads fit t (read_after c l w r ps false)
      (λ i. rw (v.0.is_x i) at (reads_newest z (Writes l) (On l) {H = H} {g = g} c t.0 (omega (arith, v.0.is_w, read_version c l w r ps)) ok i))
      (inl (refl, tt)) (λ s. absurd (owner_silent e s)) (omega arith) (read_clocked c l w r ps false) (read_within c l w r ps false)
      (goes fit v.0 (λ n. n refl) (at_copy c) (later r t).0 g.leased h (omega arith) (omega (arith, ok.lr, v.0.is_r, h))
      (λ ok' stay. (stay at_manager refl, stay at_writeback refl, (here, same_marks false (later r t).0 v), stay (at_slot c) refl)))
  row_good (writes {d = b} {w = w} {r = r} e h) fit = (
    record {
      in_order = all_map (λ a i j y. kept_all a.op a.ts.0 t.0 k.clocks (store_after_loads c l w r ps b) (store_after_stores c l w r ps b) (i j)) (I.clocks c);
      sees = λ l' y i. absurd (let n : ◌≡◌ {A = ℕ} 0 1 = cc in omega arith);
      above = λ l' y i. all_map (λ a j u n. omega (arith, j (on_line l' a u (cc) n), v.is_r, store_from_lem c l w r ps b)) ok.top;
    },
    commits_keeps fit (inl (refl, tt)) (λ s. absurd (owner_silent e s)) (omega arith, store_after_stores c l w r ps b) t (store l given) (omega arith)
        (λ l' n y i. n (cc)) (λ l' n i. n (sym i))
        (line_applied I f q given (store_table (CopyOwned b w r) c l ps) fit.bytes (write_version z (Writes l) (On l) ok x (cells given) (marks c true) all h₁ h₂)
        (λ Y n. stay Y (λ i. (rw (← i) at n) refl) (not_here c Y n)) (
          stay at_manager (λ i. apart i refl) (λ i. i),
          stay at_writeback (λ i. apart i refl) (λ i. i),
          (here, write_marks z (Writes l) (On l) ok x (cells given) (marks c true) all h₁ h₂),
          rw (view_none l k.slot (answer_bytes o m.shared c) (owner_silent e)) tt,
        )),
  )
    where
      t : Stamp
      t = store_time k.clocks (earliest b r)

      x : Commit Bytes
      x = commit_by p c t (store l given)

      v : IsAt g (at_copy c) w.0 r.0 (cells bytes)
      v = (at_copy_lem (CopyOwned b w r) e).0

      h₁ : g.leased < t.0
      h₁ = past_leases b w r e

      h₂ : g.r ≤ t.0
      h₂ = omega (arith, v.is_r, store_from_lem c l w r ps b)

      -- it writes every cell
      all : (i : LineCell) → Written z (Writes l) (On l) H g x i given (mine c)
      all i = inl (refl, refl)

      stay : (Y : Spot) → (at_copy c ≡ Y → ⊥) → (HeldBy Y (λ b. b ≡ c) → ⊥)
          → SpotOf z l (x ∷ H) (version (at_copy c) t.0 t.0 g.leased (cells given)) Y (look m l Y)
      stay Y n i =
          write_past z (Writes l) (On l) ok x (cells given) (marks c true) all h₁ h₂ Y (look m l Y) (λ e. n (sym v.is_spot ∙ e)) i (at Y)
  row_good fences fit = (
    record {
      in_order = all_map (λ x i j e. kept_all x.op x.ts.0 t.0 k.clocks (omega arith) (omega arith) (i j)) (I.clocks c);
      sees = λ l' x e. absurd (let n : ◌≡◌ {A = ℕ} 0 1 = cc in omega arith);
      above = λ l' x e. absurd (still l' x e);
    },
    commits_keeps fit (inl (refl, tt)) pair (omega arith) t fence (omega arith) (λ l' n x e. still l' x e) (λ l' n i. i)
        (quiet z (Writes l) (On l) (commit_by p c t fence) (λ i x e. still l x e) (λ i. absurd i)
        (as_was fit (at at_manager, at at_writeback, at (at_copy c), at (at_slot c)))),
  )
    where
      t : Stamp
      t = later k.clocks.lts k.clocks.sts

      still : (l' : ℕ) (x : Bytes) → fence ≡ store l' x → ⊥
      still l' x e = let n : ◌≡◌ {A = ℕ} 0 1 = cc in omega arith
  row_good (advances h) fit =
      keeps fit (inl (refl, tt)) pair (omega arith) (as_was fit (at at_manager, at at_writeback, at (at_copy c), at (at_slot c)))
  row_good (evicts_shared i e) fit =
      keeps fit (inl (refl, tt)) (λ _. tt) (omega arith) (as_was fit (at at_manager, at at_writeback, tt, at (at_slot c)))
  row_good (evicts_owned {n = n} {d = b} {w = w} {r = r} i e) fit =
      writes_back (Done n) (evict_table n (CopyOwned b w r) ps).moves w r r b NoCopy g.leased fit e (evict_moves w r b ps n) (evict_lease w r b ps n)
      (omega arith) (omega (arith, ok.lr, (at_copy_lem (CopyOwned b w r) e).0.is_r)) (λ _. tt)
  row_good (recalls e i) fit =
      keeps fit (inl (refl, tt)) pair (omega arith) (as_was fit (at at_manager, at at_writeback, at (at_copy c), at (at_slot c)))
  row_good (renews {t = t} {h = y} {w = w} {r = r} e i v h) fit =
      let r' = leased_to r t o.lease in
      let n = manager_grows l w r t o.lease ps true in
      let u = (at_manager_lem (Shared w r) i).0 in
      keeps fit (inr (λ l' n. sym n)) (λ _. renewal_beside WantLoad l t y w r' (copy_at m.state c l) (same_version_lem y w v) (asked e)) (omega arith)
      (goes fit u (λ n. n) at_manager r'.0 r'.0 n (omega (arith, ok.lr, u.is_r, n)) (omega arith)
      (λ ok' stay. (
        (here, λ j. tt),
        stay at_writeback refl,
        stay (at_copy c) refl,
        rw (view_at l GrantRenew w r' (answer_bytes o m.shared c)) (cells line, lease_of z (Writes l) (On l) c (grant_within l w r' ps true) ok'),
      )))
  row_good (shares {t = t} {h = y} {w = w} {r = r} e i v h) fit =
      let r' = leased_to r t o.lease in
      let n = manager_grows l w r t o.lease ps false in
      let u = (at_manager_lem (Shared w r) i).0 in
      keeps fit (inr (λ l' n. sym n)) (λ _. share_beside WantLoad l t y w r' (copy_at m.state c l) (asked e)) (omega arith)
      (goes fit u (λ n. n) at_manager r'.0 r'.0 n (omega (arith, ok.lr, u.is_r, n)) (omega arith)
      (λ ok' stay. (
        (here, λ j. tt),
        stay at_writeback refl,
        stay (at_copy c) refl,
        rw (view_at l GrantShare w r' line) (lease_of z (Writes l) (On l) c (grant_within l w r' ps false) ok'),
      )))
  row_good (grants {t = t} {h = y} {w = w} {r = r} e i) fit =
      let u = (at_manager_lem (Shared w r) i).0 in
      keeps fit (inr (λ l' n. sym n)) (λ _. own_beside WantStore l t y w r (copy_at m.state c l) (asked e)) (omega arith)
      (goes fit u (λ n. n) (at_slot c) r.0 g.leased (omega arith) (omega arith) (omega (arith, ok.lr, u.is_r))
      (λ ok' stay. (tt, stay at_writeback refl, stay (at_copy c) refl, rw (view_at l GrantOwn w r line) (here, λ j. tt))))
  row_good (gets_share {w = w} {r = r} e) fit =
      keeps fit (inr (λ l' n. absurd n)) (λ n. absurd n) (omega arith) (as_was fit (at at_manager, at at_writeback, at_slot_lem GrantShare w r e, tt))
  row_good (gets_own {w = w} {r = r} e) fit = gets_line (receive_grant GrantOwn w r ps).copy e (own_clean w r ps) fit
  row_good (gets_renewal {w = w} {r = r} {v = w₁} {q = r₁} e i) fit =
      let j : w ≡ w₁ = (rw (e, i) at pair) refl in
      let y = at_slot_lem GrantRenew w r e in
      keeps fit (inr (λ l' n. absurd n)) (λ n. absurd n) (omega arith)
      (as_was fit (
        at at_manager,
        at at_writeback,
        lease_renewed z (Writes l) (On l) (λ i e x y p q. cc) (ap (λ (s : Stamp). s.0) j) (at_copy_lem (CopyShared w₁ r₁) i) y.1,
        tt,
      ))
  row_good (drops_none e i) fit =
      keeps fit (inr (λ l' n. absurd n)) (λ n. absurd n) (omega arith) (as_was fit (at at_manager, at at_writeback, at (at_copy c), tt))
  row_good (drops_owned e i) fit =
      keeps fit (inr (λ l' n. absurd n)) (λ n. absurd n) (omega arith) (as_was fit (at at_manager, at at_writeback, at (at_copy c), tt))
  row_good (yields {d = b} {w = w} {r = r} e i h) fit = go (line_at m.state l).recall
    where
      v : IsAt g (at_copy c) w.0 r.0 (cells bytes)
      v = (at_copy_lem (CopyOwned b w r) e).0

      yields_to : (u : Copy) (t : ℕ) → g.leased ≤ t → t ≤ r.0
          → (VersionOf z l H (version at_writeback w.0 r.0 t (cells bytes))
          → SpotOf z l H (version at_writeback w.0 r.0 t (cells bytes)) (at_copy c) (view_copy c u bytes))
          → Inv z H (next (row (Done Yielded) MoveWriteback k u (written_back (line_at m.state l) w r)))
      yields_to u t h₁ h₂ copy =
          writes_back (Done Yielded) (yield_table (CopyOwned b w r) ps).moves w r r b u t (record { slot = fit.slot; owner = fit.owner; bytes = fit.bytes }) e (yield_moves w r b ps) (yield_lease w r b ps) h₁ h₂ copy

      go : (x : Recall) → Inv z H (next (row (Done Yielded) MoveWriteback k (yielded x w r) (written_back (line_at m.state l) w r)))
      go NoRecall = yields_to NoCopy g.leased (omega arith) (omega (arith, ok.lr, v.is_r)) (λ _. tt)
      go Flush = yields_to NoCopy g.leased (omega arith) (omega (arith, ok.lr, v.is_r)) (λ _. tt)
      go Downgrade = yields_to (CopyShared w r) r.0 (omega (arith, ok.lr, v.is_r)) (omega arith) (lease_of z (Writes l) (On l) c (omega arith))
  row_good (takes {f = f} e) fit =
      let u = (at_writeback_lem (Some f) e).0 in
      keeps fit (inl (refl, tt)) pair (omega arith)
      (goes fit u (λ n. n) at_manager f.rts.0 g.leased (omega arith) (omega arith) (omega (arith, ok.lr, u.is_r))
      (λ ok' stay. ((here, λ j. tt), tt, stay (at_copy c) refl, stay (at_slot c) refl)))
  row_good names_victim fit =
      keeps fit (inl (refl, tt)) pair (omega arith) (as_was fit (at at_manager, at at_writeback, at (at_copy c), at (at_slot c)))

pub step_good : (z : Value) (p : ℕ) {H : List (Commit Bytes)} {m : Machine} → Inv z H m → (call : Call) (given : Bytes)
    → Good z p H (step m call given).reply (step m call given).machine
step_good z p {H} {m} I call given = go (case_of m call given)
  where
    go : {r : Outcome} → Case m call given r → Good z p H r.reply r.machine
    go (refuses n) = I
    go (makes n q w) =
        let f = machine_fit m n.machine_ok in
        row_good z p (bytes_given call given) I f q w (made_fits f n q w)
