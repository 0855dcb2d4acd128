-- What a call does, case by case: it is refused, and the machine stays, or its table has one of the rows below, each with what is known of the
-- pieces where it is read. A law about every step goes by these cases. The rows are in the tables' own terms: what a row says of the pieces is
-- for each law to find.
use Prim.Native.Nat.{ℕ, ◌≤◌}
use mathlib.Core.{Path.{◌≡◌, refl, sym}, Bool.{Bool, true, false}, List.[]}
use native.Mathlib.Omega.{arith}
use lib.{Dec.{leb, eqb}, ListN.length}
use Rattle.std.specs.Prelude.{Option, Some, None}
use borrow.Author.Tests.{leb-true, leb-false, lt-ltb, eqb-true}
use Rattle.protocol.specs.{Pick.{pick, both, fails}, Stamps.can_add, Buffers.{Bytes, There}, Copies.{is_held, is_shared, is_owned}, Given.bytes_given}
use Rattle.protocol.specs.Machine.{Machine, pieces_at, core_at, copy_at, line_at, slot_line, owner_of, core_of, line_of, applied}
use Rattle.protocol.specs.declared.Pieces.{Pieces}
use Rattle.protocol.specs.Refusals.{is_empty, is_asked, is_answered, has_owner, stands, in_flight, load_asks, store_passes}
use Rattle.protocol.specs.Refusals.{serve_passes, state_rules, state_refusal, refusal}
use Rattle.protocol.specs.Tables.{refused_row, asking, load_owned, load_shared, load_table, store_table, fence_table, advance_table, evict_table, same_version}
use Rattle.protocol.specs.Tables.{leased_to, serve_load, serve_asked, serve_table, receive_renew, receive_grant, receive_table, yield_table, take_table, victim_table, table_of}
use Rattle.protocol.specs.{Tables.effect_of, Step.{refused, Outcome, accepted, step}}
use Rattle.protocol.specs.declared.{Stamp.Stamp, Copy.{Copy, TheVariants.{None as NoCopy, Shared as CopyShared, Owned as CopyOwned}}}
use Rattle.protocol.specs.declared.Want.{Want, TheVariants.{Load as WantLoad, Store as WantStore}}
use Rattle.protocol.specs.declared.{Slot.{Slot, TheVariants.{Empty, Asked, Answered}}, Manager.{Manager, TheVariants.{Shared, Owned}}}
use Rattle.protocol.specs.declared.{Flight.Flight, Opening.Opening, State.State}
use Rattle.protocol.specs.declared.Call.{Call, TheVariants.{Load, Store, Fence, Evict, Drop, Writeback as WriteBack, Advance}}
use Rattle.protocol.specs.declared.{Call.TheVariants.{Serve, Receive, Yield, Take, Victim}, Given.Given, Effect.Effect}
use Rattle.protocol.specs.declared.Name.{Name, TheVariants.{Drop as Dropped, Evict as Evicted, Writeback as WrittenBack}}
use Rattle.protocol.specs.declared.Grant.TheVariants.{Share as GrantShare, Renew as GrantRenew, Own as GrantOwn}
use Rattle.protocol.proofs.{Tests.{never, both_true, both_false}, Refusals.{not-true, passed, machine_fit, call_there, NotRefused, not_refused}}

-- the calls that give up a shared copy, and an owned one, each with the name that it answers
pub data Drops (c l : ℕ) : Call → Name → Type 0 where
  evict : Drops c l (Evict c l) Evicted
  drop : Drops c l (Drop c l) Dropped

pub data WritesBack (c l : ℕ) : Call → Name → Type 0 where
  evict : WritesBack c l (Evict c l) Evicted
  writeback : WritesBack c l (WriteBack c l) WrittenBack

-- a row of the table of a call about core c and line l, on the pieces p of these two
pub data Row (c l : ℕ) (p : Pieces) (o : Opening) : Call → Effect → Type 0 where
  asks_load : is_empty p.core.slot ≡ true → is_owned p.copy ≡ false → Row c l p o (Load c l) (asking WantLoad l p)
  reads_shared : {w r : Stamp} → p.copy ≡ CopyShared w r → p.core.clocks.lts.0 ≤ r.0 → Row c l p o (Load c l) (load_shared c l w p)
  reads_dirty : {w r : Stamp} → p.copy ≡ CopyOwned true w r → Row c l p o (Load c l) (load_owned true c l w r p)
  reads_clean : {w r : Stamp} → p.copy ≡ CopyOwned false w r → Row c l p o (Load c l) (load_owned false c l w r p)
  asks_store : {g : Given} → is_empty p.core.slot ≡ true → is_owned p.copy ≡ false → Row c l p o (Store g c l) (asking WantStore l p)
  writes : {g : Given} {d : Bool} {w r : Stamp} → p.copy ≡ CopyOwned d w r → store_passes p.copy ≡ false
      → Row c l p o (Store g c l) (store_table (CopyOwned d w r) c l p)
  fences : Row c l p o (Fence c) (fence_table c p)
  advances : {by : ℕ} → can_add p.core.clocks.lts by ≡ true → Row c l p o (Advance c by) (advance_table by p)
  evicts_shared : {call : Call} {n : Name} {w r : Stamp} → Drops c l call n → p.copy ≡ CopyShared w r
      → Row c l p o call (evict_table n (CopyShared w r) p)
  evicts_owned : {call : Call} {n : Name} {d : Bool} {w r : Stamp} → WritesBack c l call n → p.copy ≡ CopyOwned d w r
      → Row c l p o call (evict_table n (CopyOwned d w r) p)
  recalls : {a : Want} {t : Stamp} {h : Option Stamp} {k : ℕ} → p.core.slot ≡ Asked a l t h → p.line.manager ≡ Owned k
      → Row c l p o (Serve c) (serve_asked (Owned k) a c l t h p o)
  renews : {t : Stamp} {h : Option Stamp} {w r : Stamp} → p.core.slot ≡ Asked WantLoad l t h → p.line.manager ≡ Shared w r
      → same_version h w ≡ true → can_add t o.lease ≡ true → Row c l p o (Serve c) (serve_load true l w (leased_to r t o.lease) p)
  shares : {t : Stamp} {h : Option Stamp} {w r : Stamp} → p.core.slot ≡ Asked WantLoad l t h → p.line.manager ≡ Shared w r
      → same_version h w ≡ false → can_add t o.lease ≡ true → Row c l p o (Serve c) (serve_load false l w (leased_to r t o.lease) p)
  grants : {t : Stamp} {h : Option Stamp} {w r : Stamp} → p.core.slot ≡ Asked WantStore l t h → p.line.manager ≡ Shared w r
      → Row c l p o (Serve c) (serve_asked (Shared w r) WantStore c l t h p o)
  gets_share : {w r : Stamp} → p.core.slot ≡ Answered GrantShare l w r → Row c l p o (Receive c) (receive_grant GrantShare w r p)
  gets_own : {w r : Stamp} → p.core.slot ≡ Answered GrantOwn l w r → Row c l p o (Receive c) (receive_grant GrantOwn w r p)
  gets_renewal : {w r v q : Stamp} → p.core.slot ≡ Answered GrantRenew l w r → p.copy ≡ CopyShared v q
      → Row c l p o (Receive c) (receive_renew (CopyShared v q) r p)
  drops_none : {w r : Stamp} → p.core.slot ≡ Answered GrantRenew l w r → p.copy ≡ NoCopy → Row c l p o (Receive c) (receive_renew NoCopy r p)
  drops_owned : {w r : Stamp} {d : Bool} {v q : Stamp} → p.core.slot ≡ Answered GrantRenew l w r → p.copy ≡ CopyOwned d v q
      → Row c l p o (Receive c) (receive_renew (CopyOwned d v q) r p)
  yields : {d : Bool} {w r : Stamp} → p.copy ≡ CopyOwned d w r → p.line.manager ≡ Owned c → stands p.line.recall ≡ true
      → Row c l p o (Yield l) (yield_table (CopyOwned d w r) p)
  takes : {f : Flight} → p.line.writeback ≡ Some f → Row c l p o (Take l) (take_table (Some f) p)
  names_victim : Row c l p o (Victim c) (victim_table p)

-- the owner of an owned line
owner_is : (v : Manager) → has_owner v ≡ true → v ≡ Owned (owner_of v)
owner_is (Shared w r) h = never (sym h)
owner_is (Owned k) h = refl

module _ {p : Pieces} {o : Opening} where
  load_row : (c l : ℕ) (v : Copy) → p.copy ≡ v → both (load_asks v p.core.clocks.lts) (fails (is_empty p.core.slot)) ≡ false
      → Row c l p o (Load c l) (load_table v c l p)
  unfolding load_table load_owned
  load_row c l NoCopy e h = asks_load (not-true _ h) (rw e refl)
  load_row c l (CopyOwned true w r) e h = reads_dirty e
  load_row c l (CopyOwned false w r) e h = reads_clean e
  load_row c l (CopyShared w r) e h = go (leb p.core.clocks.lts.0 r.0) refl
    where
      go : (b : Bool) → leb p.core.clocks.lts.0 r.0 ≡ b → Row c l p o (Load c l) (pick b (load_shared c l w p) (asking WantLoad l p))
      go true q = reads_shared e (leb-true _ _ q)
      go false q = asks_load (not-true _ (both_false _ _ h (lt-ltb r.0 p.core.clocks.lts.0 (leb-false _ _ q)))) (rw e refl)

  store_row_lem : (g : Given) (c l : ℕ) (v : Copy) → p.copy ≡ v → both (fails (is_owned v)) (fails (is_empty p.core.slot)) ≡ false → store_passes v ≡ false
      → Row c l p o (Store g c l) (store_table v c l p)
  unfolding store_table
  store_row_lem g c l NoCopy e h k = asks_store (not-true _ h) (rw e refl)
  store_row_lem g c l (CopyShared w r) e h k = asks_store (not-true _ h) (rw e refl)
  store_row_lem g c l (CopyOwned d w r) e h k = writes e (rw e k)

  evict_row_lem : (c l : ℕ) (v : Copy) → p.copy ≡ v → is_held v ≡ true → Row c l p o (Evict c l) (evict_table Evicted v p)
  evict_row_lem c l NoCopy e h = never (sym h)
  evict_row_lem c l (CopyShared w r) e h = evicts_shared evict e
  evict_row_lem c l (CopyOwned d w r) e h = evicts_owned evict e

  drop_row_lem : (c l : ℕ) (v : Copy) → p.copy ≡ v → is_shared v ≡ true → Row c l p o (Drop c l) (evict_table Dropped v p)
  drop_row_lem c l NoCopy e h = never (sym h)
  drop_row_lem c l (CopyShared w r) e h = evicts_shared drop e
  drop_row_lem c l (CopyOwned d w r) e h = never (sym h)

  writeback_row_lem : (c l : ℕ) (v : Copy) → p.copy ≡ v → is_owned v ≡ true → Row c l p o (WriteBack c l) (evict_table WrittenBack v p)
  writeback_row_lem c l NoCopy e h = never (sym h)
  writeback_row_lem c l (CopyShared w r) e h = never (sym h)
  writeback_row_lem c l (CopyOwned d w r) e h = evicts_owned writeback e

  asked_row : (c l n : ℕ) (a : Want) (t : Stamp) (h : Option Stamp) (v : Manager) → p.core.slot ≡ Asked a l t h → p.line.manager ≡ v
      → serve_passes (Asked a n t h) v o ≡ false → Row c l p o (Serve c) (serve_asked v a c l t h p o)
  unfolding serve_asked
  asked_row c l n a t h (Owned k) e i f = recalls e i
  asked_row c l n WantStore t h (Shared w r) e i f = grants e i
  asked_row c l n WantLoad t h (Shared w r) e i f = go (same_version h w) refl
    where
      go : (b : Bool) → same_version h w ≡ b → Row c l p o (Serve c) (serve_load b l w (leased_to r t o.lease) p)
      go true q = renews e i q (not-true _ f)
      go false q = shares e i q (not-true _ f)

  serve_row_lem : (c l : ℕ) (v : Slot) → p.core.slot ≡ v → slot_line v ≡ l → is_asked v ≡ true → serve_passes v p.line.manager o ≡ false
      → Row c l p o (Serve c) (serve_table v c p o)
  unfolding serve_table
  serve_row_lem c l Empty e i h f = never (sym h)
  serve_row_lem c l (Answered g n w r) e i h f = never (sym h)
  serve_row_lem c l (Asked a n t d) e i h f = rw i (asked_row c l n a t d p.line.manager (rw i at e) refl f)

  renewal_row : (c l : ℕ) (w r : Stamp) (v : Copy) → p.core.slot ≡ Answered GrantRenew l w r → p.copy ≡ v
      → Row c l p o (Receive c) (receive_renew v r p)
  renewal_row c l w r NoCopy e i = drops_none e i
  renewal_row c l w r (CopyOwned d v q) e i = drops_owned e i
  renewal_row c l w r (CopyShared v q) e i = gets_renewal e i

  receive_row_lem : (c l : ℕ) (v : Slot) → p.core.slot ≡ v → slot_line v ≡ l → is_answered v ≡ true → Row c l p o (Receive c) (receive_table v p)
  unfolding receive_table receive_grant
  receive_row_lem c l Empty e i h = never (sym h)
  receive_row_lem c l (Asked a n t d) e i h = never (sym h)
  receive_row_lem c l (Answered GrantShare n w r) e i h = gets_share (rw i at e)
  receive_row_lem c l (Answered GrantOwn n w r) e i h = gets_own (rw i at e)
  receive_row_lem c l (Answered GrantRenew n w r) e i h = renewal_row c l w r p.copy (rw i at e) refl

  yield_row_lem : (c l : ℕ) (v : Copy) → p.copy ≡ v → is_owned v ≡ true → p.line.manager ≡ Owned c → stands p.line.recall ≡ true
      → Row c l p o (Yield l) (yield_table v p)
  yield_row_lem c l NoCopy e h i k = never (sym h)
  yield_row_lem c l (CopyShared w r) e h i k = never (sym h)
  yield_row_lem c l (CopyOwned d w r) e h i k = yields e i k

  take_row : (c l : ℕ) (v : Option Flight) → p.line.writeback ≡ v → in_flight v ≡ true → Row c l p o (Take l) (take_table v p)
  take_row c l None e h = never (sym h)
  take_row c l (Some f) e h = takes e

-- the pieces that a call is about
abbrev pub pieces_of : Call → State → Pieces
pieces_of call s = pieces_at s (core_of call s) (line_of call s)

-- a row on these
abbrev pub RowOn : State → Call → Effect → Type 0
RowOn s call d = Row (core_of call s) (line_of call s) (pieces_of call s) s.opening call d

-- a call that none of 20 and up refuses
pub row_of : (s : State) (call : Call) → state_refusal call (pieces_of call s) s.opening ≡ 0
    → RowOn s call (table_of call (pieces_of call s) s.opening)
unfolding table_of state_refusal state_rules
row_of s (Load c l) h = load_row c l (copy_at s c l) refl (passed _ 20 [] (omega arith) h).0
row_of s (Store g c l) h =
    let a = passed _ 20 _ (omega arith) h in
    store_row_lem g c l (copy_at s c l) refl a.0 (passed _ 27 [] (omega arith) a.1).0
row_of s (Fence c) h = fences
row_of s (Evict c l) h = evict_row_lem c l (copy_at s c l) refl (not-true _ (passed _ 26 [] (omega arith) h).0)
row_of s (Drop c l) h =
    let a = passed _ 26 _ (omega arith) h in
    drop_row_lem c l (copy_at s c l) refl (not-true _ (passed _ 30 [] (omega arith) a.1).0)
row_of s (WriteBack c l) h =
    let a = passed _ 26 _ (omega arith) h in
    writeback_row_lem c l (copy_at s c l) refl (not-true _ (passed _ 30 [] (omega arith) a.1).0)
row_of s (Advance c by) h = advances (not-true _ (passed _ 27 [] (omega arith) h).0)
row_of s (Serve c) h =
    let a = passed _ 21 _ (omega arith) h in
    serve_row_lem c _ (core_at s c).slot refl refl (not-true _ a.0) (passed _ 27 [] (omega arith) a.1).0
row_of s (Receive c) h = receive_row_lem c _ (core_at s c).slot refl refl (not-true _ (passed _ 22 _ (omega arith) h).0)
row_of s (Yield l) h =
    let a = passed _ 23 _ (omega arith) h in
    let b = both_true (has_owner (line_at s l).manager) (stands (line_at s l).recall) (not-true _ a.0) in
    yield_row_lem _ l (copy_at s (core_of (Yield l) s) l) refl (not-true _ (passed _ 24 [] (omega arith) a.1).0) (owner_is (line_at s l).manager b.0) b.1
row_of s (Take l) h = take_row _ l (line_at s l).writeback refl (not-true _ (passed _ 25 [] (omega arith) h).0)
row_of s (Victim c) h = names_victim

-- what a call makes of the pieces that it is about: a refusal of 20 and up, or a row
pub effect_case : (P : Effect → Type 0) (s : State) (call : Call) → ((n : ℕ) → P (refused_row n (pieces_of call s))) → ((d : Effect) → RowOn s call d → P d)
    → P (effect_of call (pieces_of call s) s.opening)
unfolding effect_of
effect_case P s call refuse row = go (eqb (state_refusal call (pieces_of call s) s.opening) 0) refl
  where
    go : (b : Bool) → eqb (state_refusal call (pieces_of call s) s.opening) 0 ≡ b
        → P (pick b (table_of call (pieces_of call s) s.opening) (refused_row (state_refusal call (pieces_of call s) s.opening) (pieces_of call s)))
    go true e = row _ (row_of s call (eqb-true _ 0 e))
    go false e = refuse _

-- the two cases of a call
pub data Case (m : Machine) (call : Call) (given : Bytes) : Outcome → Type 0 where
  refuses : (n : ℕ) → Case m call given (record { reply = refused n; machine = m })
  makes : {d : Effect} → NotRefused m call given → There m.state.opening (core_of call m.state) (line_of call m.state)
      → RowOn m.state call d → Case m call given (accepted m call (bytes_given call given) (core_of call m.state) (line_of call m.state) d)

pub case_of : (m : Machine) (call : Call) (given : Bytes) → Case m call given (step m call given)
unfolding step
case_of m call given = go (eqb (refusal m call given) 0) refl
  where
    go : (b : Bool) → eqb (refusal m call given) 0 ≡ b
        → Case m call given (pick b
        (accepted m call (bytes_given call given) (core_of call m.state) (line_of call m.state) (table_of call (pieces_of call m.state) m.state.opening))
        (record { reply = refused (refusal m call given); machine = m }))
    go false e = refuses (refusal m call given)
    go true e =
        let n = not_refused m call given (eqb-true (refusal m call given) 0 e) in
        makes n (call_there (machine_fit m n.machine_ok) call (length (bytes_given call given)) n.call_ok) (row_of m.state call n.state_ok)

-- what every row keeps, every step keeps
pub kept_by_rows : (P : Machine → Type 0) {m : Machine} (call : Call) (given : Bytes)
    → ((d : Effect) → NotRefused m call given → There m.state.opening (core_of call m.state) (line_of call m.state)
    → RowOn m.state call d → P (applied m (core_of call m.state) (line_of call m.state) (bytes_given call given) d))
    → P m → P (step m call given).machine
unfolding accepted
kept_by_rows P {m} call given row h = go (case_of m call given)
  where
    go : {r : Outcome} → Case m call given r → P r.machine
    go (refuses n) = h
    go (makes {d = d} n q w) = row d n q w
