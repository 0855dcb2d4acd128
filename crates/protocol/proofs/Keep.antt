-- Every step leaves a machine that fits if it got one: the line of its slot, the owner of its line and the bytes that it moves lie inside the
-- sizes. So what 1 and 2 say of a machine need be found only once.
use Prim.Native.Nat.{ℕ}
use mathlib.Core.{Path.{◌≡◌, refl, sym, ◌∙◌}, Bool.{true, false}}
use lib.ListN.{length}
use borrow.Author.Tests.{lt-ltb, eq-eqb}
use Rattle.protocol.specs.{Pick.first, Buffers.{Bytes, There, given_fits}, About.about, Given.bytes_given, Machine.{Machine, core_of, line_of, applied}}
use Rattle.protocol.specs.declared.Pieces.{Pieces}
use Rattle.protocol.specs.{Refusals.{owner_fits, slot_fits, owners_fit, slots_fit, state_fits, buffers_fit, machine_refusal, wrong_count}, Step.step}
use Rattle.protocol.specs.declared.{Core.Core, ManagerLine.ManagerLine, Opening.Opening, Call.Call, Effect.Effect}
use Rattle.protocol.specs.Tables.{load_owned, store_table, fence_table, advance_table, evict_table, serve_asked, serve_load, receive_grant, receive_renew}
use Rattle.protocol.specs.Tables.{yield_table, take_table, victim_table}
use Rattle.protocol.proofs.{Scan.every_set, Moves.{length_moved_private, length_moved_shared}}
use Rattle.protocol.proofs.Refusals.{Fit, machine_fit, slot_inside, owner_inside, store_width, named, NotRefused}
use Rattle.protocol.proofs.Cases.{Row, asks_load, reads_shared, reads_dirty, reads_clean, asks_store, writes, fences, advances, evicts_shared}
use Rattle.protocol.proofs.Cases.{evicts_owned, recalls, renews, shares, grants, gets_share, gets_own, gets_renewal, drops_none, drops_owned, yields}
use Rattle.protocol.proofs.Cases.{takes, names_victim, RowOn, kept_by_rows}

-- what a step makes fits an opening; n is the count of the store bytes
pub record EffectFits (o : Opening) (n : ℕ) (d : Effect) : Type 0 where
  pub slot : slot_fits o.lines d.core.slot ≡ true
  pub owner : owner_fits o.cores d.line.manager ≡ true
  pub bytes : given_fits d.moves o.width n ≡ true

module _ {o : Opening} {n c l : ℕ} {p : Pieces} (q : There o c l) (slot : slot_fits o.lines p.core.slot ≡ true)
    (owner : owner_fits o.cores p.line.manager ≡ true) where
  pub row_fits : {call : Call} {d : Effect} → wrong_count (about call).act o n ≡ false → Row c l p o call d → EffectFits o n d
  unfolding load_owned store_table fence_table advance_table evict_table serve_asked serve_load receive_grant receive_renew yield_table take_table victim_table
  row_fits w (asks_load e i) = record { slot = lt-ltb l o.lines q.line; owner = owner; bytes = refl }
  row_fits w (reads_shared e h) = record { slot = slot; owner = owner; bytes = refl }
  row_fits w (reads_dirty e) = record { slot = slot; owner = owner; bytes = refl }
  row_fits w (reads_clean e) = record { slot = slot; owner = owner; bytes = refl }
  row_fits w (asks_store e i) = record { slot = lt-ltb l o.lines q.line; owner = owner; bytes = refl }
  row_fits w (writes {g = g} e h) = record { slot = slot; owner = owner; bytes = eq-eqb _ _ (store_width g o n w) }
  row_fits w fences = record { slot = slot; owner = owner; bytes = refl }
  row_fits w (advances h) = record { slot = slot; owner = owner; bytes = refl }
  row_fits w (evicts_shared i e) = record { slot = slot; owner = owner; bytes = refl }
  row_fits w (evicts_owned i e) = record { slot = slot; owner = owner; bytes = refl }
  row_fits w (recalls e i) = record { slot = slot; owner = owner; bytes = refl }
  row_fits w (renews e i v h) = record { slot = lt-ltb l o.lines q.line; owner = cc; bytes = refl }
  row_fits w (shares e i v h) = record { slot = lt-ltb l o.lines q.line; owner = cc; bytes = refl }
  row_fits w (grants e i) = record { slot = lt-ltb l o.lines q.line; owner = lt-ltb c o.cores q.core; bytes = refl }
  row_fits w (gets_share e) = record { slot = refl; owner = owner; bytes = refl }
  row_fits w (gets_own e) = record { slot = refl; owner = owner; bytes = refl }
  row_fits w (gets_renewal e i) = record { slot = refl; owner = owner; bytes = refl }
  row_fits w (drops_none e i) = record { slot = refl; owner = owner; bytes = refl }
  row_fits w (drops_owned e i) = record { slot = refl; owner = owner; bytes = refl }
  row_fits w (yields e i h) = record { slot = slot; owner = owner; bytes = refl }
  row_fits w (takes e) = record { slot = slot; owner = refl; bytes = refl }
  row_fits w names_victim = record { slot = slot; owner = owner; bytes = refl }

-- the row of an accepted call on a machine that fits
pub made_fits : {m : Machine} {call : Call} {given : Bytes} {d : Effect} → Fit m → NotRefused m call given
    → (q : There m.state.opening (core_of call m.state) (line_of call m.state))
    → RowOn m.state call d → EffectFits m.state.opening (length (bytes_given call given)) d
made_fits {call = call} f k q w = row_fits q (slot_inside f _ q.core) (owner_inside f _ q.line) (named call _ _ k.call_ok).count w

-- and the machine after it
row_kept : {m : Machine} {call : Call} (given : Bytes) {d : Effect} → Fit m → NotRefused m call given
    → There m.state.opening (core_of call m.state) (line_of call m.state) → RowOn m.state call d
    → Fit (applied m (core_of call m.state) (line_of call m.state) (bytes_given call given) d)
unfolding applied owners_fit slots_fit
row_kept {m} {call} given {d} f k q w =
    let o = m.state.opening in
    let c = core_of call m.state in
    let l = line_of call m.state in
    let e = made_fits f k q w in
    record {
      opening = f.opening;
      owners = every_set (λ (x : ManagerLine). owner_fits o.cores x.manager) m.state.line o.lines l d.line f.owners e.owner;
      slots = every_set (λ (x : Core). slot_fits o.lines x.slot) m.state.core o.cores c d.core f.slots e.slot;
      n_private = length_moved_private m c l (bytes_given call given) f q d.moves e.bytes ∙ f.n_private;
      n_shared = length_moved_shared m c l (bytes_given call given) f q d.moves ∙ f.n_shared;
    }

-- neither 1 nor 2 refuses a machine that fits
pub fitted : {m : Machine} → Fit m → machine_refusal m ≡ 0
unfolding machine_refusal first state_fits buffers_fit
fitted f = rw (f.opening, f.owners, f.slots, eq-eqb _ _ f.n_private, eq-eqb _ _ f.n_shared)

-- 1 and 2 say of the machine after a call what they said of it before
pub still : (m : Machine) (call : Call) (given : Bytes) → machine_refusal m ≡ machine_refusal (step m call given).machine
still m call given = kept_by_rows (λ x. machine_refusal m ≡ machine_refusal x) call given
    (λ d k q w. k.machine_ok ∙ sym (fitted (row_kept given (machine_fit m k.machine_ok) k q w))) refl
