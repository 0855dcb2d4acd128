-- A commit is its call's own: what a call answers as its commit is the commit that is read off the call and its answer, whatever the machine.
use Prim.Native.Nat.{ℕ}
use mathlib.Core.{Path.{◌≡◌, refl}, List.{[], ◌∷◌}}
use Rattle.protocol.specs.{Buffers.{Bytes, copy_bytes}, Given.bytes_given, Machine.{Machine, core_of, line_of}}
use Rattle.protocol.specs.declared.Pieces.{Pieces}
use Rattle.protocol.specs.Step.{Reply, refused, done, commit, Outcome, meaning, commit_bytes, accepted, step}
use Rattle.protocol.specs.{Run.commit_at, declared.{Place.Place, Opening.Opening, Call.Call, Effect.Effect}}
use Rattle.protocol.specs.Tables.{load_owned, store_table, fence_table, advance_table, evict_table, serve_asked, serve_load, receive_grant, receive_renew}
use Rattle.protocol.specs.Tables.{yield_table, take_table, victim_table}
use Rattle.protocol.proofs.Cases.{Row, asks_load, reads_shared, reads_dirty, reads_clean, asks_store, writes, fences, advances, evicts_shared}
use Rattle.protocol.proofs.Cases.{evicts_owned, recalls, renews, shares, grants, gets_share, gets_own, gets_renewal, drops_none, drops_owned, yields}
use Rattle.protocol.proofs.Cases.{takes, names_victim, Case, refuses, makes, case_of}

-- a commit is its call's own, with the bytes given to the call
abbrev pub Own : Place → Call → Bytes → Reply → Type 0
Own p call given (refused n) = Unit {0}
Own p call given (done d) = Unit {0}
Own p call given (commit c t o) = commit_at p call given t o ≡ record { place = p; core = c; ts = t; op = o } ∷ []

row_own : (p : Place) {c l : ℕ} {ps : Pieces} {o : Opening} {call : Call} {d : Effect} (given copy : Bytes) → Row c l ps o call d
    → Own p call given (meaning d.answer (commit_bytes call given copy))
unfolding meaning load_owned store_table fence_table advance_table evict_table serve_asked serve_load receive_grant receive_renew yield_table take_table victim_table
row_own p given copy (asks_load e i) = tt
row_own p given copy (reads_shared e h) = refl
row_own p given copy (reads_dirty e) = refl
row_own p given copy (reads_clean e) = refl
row_own p given copy (asks_store e i) = tt
row_own p given copy (writes e h) = refl
row_own p given copy fences = refl
row_own p given copy (advances h) = tt
row_own p given copy (evicts_shared w e) = tt
row_own p given copy (evicts_owned w e) = tt
row_own p given copy (recalls e i) = tt
row_own p given copy (renews e i v h) = tt
row_own p given copy (shares e i v h) = tt
row_own p given copy (grants e i) = tt
row_own p given copy (gets_share e) = tt
row_own p given copy (gets_own e) = tt
row_own p given copy (gets_renewal e i) = tt
row_own p given copy (drops_none e i) = tt
row_own p given copy (drops_owned e i) = tt
row_own p given copy (yields e i h) = tt
row_own p given copy (takes e) = tt
row_own p given copy names_victim = tt

pub step_own : (p : Place) (m : Machine) (call : Call) (given : Bytes) → Own p call (bytes_given call given) (step m call given).reply
unfolding accepted
step_own p m call given = go (case_of m call given)
  where
    go : {r : Outcome} → Case m call given r → Own p call (bytes_given call given) r.reply
    go (refuses n) = tt
    go (makes n q w) = row_own p (bytes_given call given) (copy_bytes m.state.opening m.private (core_of call m.state) (line_of call m.state)) w
