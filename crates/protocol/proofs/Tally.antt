-- Each count is a number of records, and no request is lost: along every list of calls the requests asked are those granted and those that still
-- wait.
use Prim.Native.Nat.{ℕ, ◌+◌}
use mathlib.Core.{Path.{◌≡◌, refl, sym}, Bool.{Bool, true}, List.{List, [], ◌∷◌}}
use native.Mathlib.Omega.{arith}
use Rattle.protocol.specs.{Pick.{pick, how_many}, Fresh.fresh_core, Buffers.{Bytes, copy_bytes}, Given.bytes_given}
use Rattle.protocol.specs.Machine.{Machine, core_of, line_of, fresh_machine, applied}
use Rattle.protocol.specs.declared.Pieces.{Pieces}
use Rattle.protocol.specs.{Refusals.{is_empty, is_asked}, Step.{Outcome, meaning, commit_bytes, accepted, step}, Run.{Entry, Record, run}}
use Rattle.protocol.specs.{Counts.{class_of, same_class, is_of, number}, Tally.{NumberedTheorem, asked_cores, TallyTheorem}}
use Rattle.protocol.specs.declared.{Slot.{Slot, TheVariants.{Empty, Asked, Answered}}, Core.Core, Opening.Opening, Call.Call, Effect.Effect}
use Rattle.protocol.specs.declared.Class.{Class, TheVariants.{Ask as AnAsk, Share as AShare, Renew as ARenew, Own as AnOwn}}
use Rattle.protocol.specs.Tables.{load_owned, store_table, fence_table, advance_table, evict_table, serve_asked, serve_load, receive_grant, receive_renew}
use Rattle.protocol.specs.Tables.{yield_table, take_table, victim_table}
use Rattle.protocol.proofs.{Tests.never, Scan.{how_many_set, how_many_none}, Written.{Arrays, arrays_written, arrays_fresh}}
use Rattle.protocol.proofs.Reached.{recorded, onto, reached}
use Rattle.protocol.proofs.Cases.{Row, asks_load, reads_shared, reads_dirty, reads_clean, asks_store, writes, fences, advances, evicts_shared}
use Rattle.protocol.proofs.Cases.{evicts_owned, recalls, renews, shares, grants, gets_share, gets_own, gets_renewal, drops_none, drops_owned, yields}
use Rattle.protocol.proofs.Cases.{takes, names_victim, evict, drop, writeback, Case, refuses, makes, case_of}

pub numbered_theorem : NumberedTheorem
numbered_theorem rs = record { loads = refl; stores = refl; fences = refl; asks = refl; shares = refl; renews = refl; owns = refl }

-- ---- one row

-- 1 for a slot that is asked
abbrev waits : Slot → ℕ
waits v = pick (is_asked v) 1 0

-- 1 for a record of a class
abbrev is : Class → Class → ℕ
is k a = pick (same_class k a) 1 0

-- 1 for a grant
abbrev granted : Class → ℕ
granted k = is k AShare + is k ARenew + is k AnOwn

none_waits : (v : Slot) → is_empty v ≡ true → waits v ≡ 0
none_waits Empty e = refl
none_waits (Asked a l t h) e = never (sym e)
none_waits (Answered g l w r) e = refl

-- A ROW'S REQUESTS: a request comes to wait where one is asked, and waits no more where it is granted
flow : {c l : ℕ} {p : Pieces} {o : Opening} {call : Call} {d : Effect} (b : Bytes) → Row c l p o call d
    → let k = class_of call (meaning d.answer b) in waits d.core.slot + granted k ≡ waits p.core.slot + is k AnAsk
unfolding meaning load_owned store_table fence_table advance_table evict_table serve_asked serve_load receive_grant receive_renew yield_table take_table victim_table
flow {p = p} b (asks_load e i) = omega (arith, none_waits p.core.slot e)
flow b (reads_shared e h) = refl
flow b (reads_dirty e) = refl
flow b (reads_clean e) = refl
flow {p = p} b (asks_store e i) = omega (arith, none_waits p.core.slot e)
flow b (writes e h) = refl
flow b fences = refl
flow b (advances h) = refl
flow b (evicts_shared evict e) = refl
flow b (evicts_shared drop e) = refl
flow b (evicts_owned evict e) = refl
flow b (evicts_owned writeback e) = refl
flow b (recalls e i) = refl
flow b (renews e i v h) = rw e refl
flow b (shares e i v h) = rw e refl
flow b (grants e i) = rw e refl
flow b (gets_share e) = rw e refl
flow b (gets_own e) = rw e refl
flow b (gets_renewal e i) = rw e refl
flow b (drops_none e i) = rw e refl
flow b (drops_owned e i) = rw e refl
flow b (yields e i h) = refl
flow b (takes e) = refl
flow b names_victim = refl

-- ---- one call

-- the records so far and the machine after them
record Balance (rs : List Record) (m : Machine) : Type 0 where
  pub arrays : Arrays m.state
  pub asks : number AnAsk rs ≡ number AShare rs + number ARenew rs + number AnOwn rs + asked_cores m.state

module _ {m : Machine} (arrays : Arrays m.state) where
  flows : (call : Call) {given : Bytes} {r : Outcome} → Case m call given r
      → let k = class_of call r.reply in Arrays r.machine.state × (asked_cores r.machine.state + granted k ≡ asked_cores m.state + is k AnAsk)
  unfolding accepted applied asked_cores
  flows call (refuses n) = (arrays, refl)
  flows call {given} (makes {d = d} n q w) =
      let s = m.state in
      let c = core_of call s in
      let n = s.opening.cores in
      let cores = how_many_set (λ (k : Core). is_asked k.slot) fresh_core s.core n c d.core q.core (omega (arith, arrays.n_core, q.cores)) in
      (arrays_written arrays q d, omega (arith, flow (commit_bytes call (bytes_given call given) (copy_bytes s.opening m.private c (line_of call s))) w, cores))

-- a call more
balance_more : {p : ℕ} {rs : List Record} {m : Machine} {g : Entry} → Balance rs m → Balance (recorded p m g ∷ rs) (step m g.call g.given).machine
unfolding how_many
balance_more {m = m} {g} b =
    let f = flows b.arrays g.call (case_of m g.call g.given) in
    record { arrays = f.0; asks = omega (arith, b.asks, f.1) }

-- ---- a list of calls

-- the order of records does not matter
how_many_onto : (f : Record → Bool) (xs rs : List Record) → how_many f (onto xs rs) ≡ how_many f xs + how_many f rs
unfolding how_many onto
how_many_onto f [] rs = omega arith
how_many_onto f (x ∷ xs) rs = omega (arith, how_many_onto f xs (x ∷ rs))

-- a fresh engine has no request
balance_fresh : (o : Opening) → Balance [] (fresh_machine o)
unfolding how_many asked_cores
balance_fresh o = record { arrays = arrays_fresh o; asks = omega (arith, how_many_none (λ (k : Core). is_asked k.slot) fresh_core refl 16 o.cores) }

pub tally_theorem : TallyTheorem
unfolding how_many
tally_theorem o gs =
    let b = (reached (λ p rs m. Balance rs m) (λ p rs m g b. balance_more b) gs 1 [] (fresh_machine o) (balance_fresh o)).1 in
    let rs : List Record = (run gs 1 (fresh_machine o)).records in
    let same : (k : Class) → number k (onto rs []) ≡ number k rs + 0 = λ k. how_many_onto (is_of k) rs [] in
    omega (arith, b.asks, same AnAsk, same AShare, same ARenew, same AnOwn)
