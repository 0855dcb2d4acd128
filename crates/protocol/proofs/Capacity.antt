-- No core ever holds more copies than its capacity: a step brings one copy at most, a receive alone brings one, and 31 refuses it where there is
-- no room. And what the call victim does.
use Prim.Native.Nat.{ℕ, ◌+◌, ◌*◌, ◌≤◌, ◌<◌}
use mathlib.Core.{Path.{◌≡◌, refl, ap}, Bool.{Bool, true, false}, Logic.{◌⊎◌, inl, inr, ⊎_elim, by_cases}, List.{[]}}
use native.Mathlib.{Omega.arith, Decide.ℕ_discrete}
use lib.{Dec.{leb, eqb}, ListN.take, Seq.set-get_or}
use borrow.Author.Tests.{leb-false, eqb-false}
use Rattle.protocol.specs.{Pick.{pick, both, fails}, Fresh.{fresh_core, fresh_cell, fresh_line}, Buffers.{Bytes, There, moved_private, moved_shared}}
use Rattle.protocol.specs.{Copies.{is_held}, Given.bytes_given}
use Rattle.protocol.specs.Machine.{Machine, copy_at, copies_of, victim_of, core_of, line_of, fresh_machine, written, applied}
use Rattle.protocol.specs.declared.Pieces.{Pieces}
use Rattle.protocol.specs.Refusals.{brings_copy, no_room, state_rules, state_refusal, refusal}
use Rattle.protocol.specs.Tables.{yielded, load_owned, store_table, fence_table, advance_table, evict_table, serve_asked, serve_load, receive_grant, receive_renew}
use Rattle.protocol.specs.Tables.{yield_table, take_table, victim_table, table_of}
use Rattle.protocol.specs.{Step.{refused, done, meaning, Outcome, accepted, step}, Capacity.{CapacityTheorem, VictimCallTheorem}}
use Rattle.protocol.specs.declared.{Opening.Opening, State.State, Call.{Call, TheVariants.{Receive, Victim}}, Name.TheVariants.Victim as Chosen, Effect.Effect}
use Rattle.protocol.proofs.{Tests.both_false, Copies.{one, one_most, count_same, count_one, count_none, victim_theorem}, Refusals.{passed, NotRefused, not_refused}}
use Rattle.protocol.proofs.{Written.{Arrays, copy_at_lem, copy_off, arrays_written, arrays_fresh, copy_fresh}, Reached.reached}
use Rattle.protocol.proofs.Cases.{Row, asks_load, reads_shared, reads_dirty, reads_clean, asks_store, writes, fences, advances, evicts_shared}
use Rattle.protocol.proofs.Cases.{evicts_owned, recalls, renews, shares, grants, gets_share, gets_own, gets_renewal, drops_none, drops_owned, yields}
use Rattle.protocol.proofs.Cases.{takes, names_victim, pieces_of, RowOn, kept_by_rows}

-- ---- one row

-- a receive that brings a copy finds one of the line, or has room
roomy : (h : Bool) (cap n : ℕ) → both (fails h) (leb cap n) ≡ false → (1 ≤ one h) ⊎ (n < cap)
roomy true cap n e = inl (omega arith)
roomy false cap n e = inr (leb-false cap n e)

-- what 31 leaves of a receive that brings a copy
has_room : (c : ℕ) (p : Pieces) (o : Opening) → state_refusal (Receive c) p o ≡ 0 → brings_copy p.core.slot ≡ true
    → (1 ≤ one (is_held p.copy)) ⊎ (p.copies < o.cap)
unfolding state_refusal state_rules
has_room c p o e b =
    let a = passed _ 22 _ (omega arith) e in
    roomy (is_held p.copy) o.cap p.copies (both_false (brings_copy p.core.slot) (no_room p.copy p.copies o) (passed _ 31 [] (omega arith) a.1).0 b)

-- A ROW'S COPY is one more only where there is room
brought : {c l : ℕ} {p : Pieces} {o : Opening} {call : Call} {d : Effect} → state_refusal call p o ≡ 0 → Row c l p o call d
    → (one (is_held d.copy) ≤ one (is_held p.copy)) ⊎ (p.copies < o.cap)
unfolding load_owned store_table fence_table advance_table evict_table serve_asked serve_load receive_grant receive_renew yield_table take_table victim_table
brought z (asks_load e i) = inl (omega arith)
brought z (reads_shared e h) = inl (omega arith)
brought z (reads_dirty e) = inl (rw e (omega arith))
brought z (reads_clean e) = inl (rw e (omega arith))
brought z (asks_store e i) = inl (omega arith)
brought z (writes e h) = inl (rw e (omega arith))
brought z fences = inl (omega arith)
brought z (advances h) = inl (omega arith)
brought z (evicts_shared i e) = inl (omega arith)
brought z (evicts_owned i e) = inl (omega arith)
brought z (recalls e i) = inl (omega arith)
brought z (renews e i v h) = inl (omega arith)
brought z (shares e i v h) = inl (omega arith)
brought z (grants e i) = inl (omega arith)
brought {c = c} {p = p} {o = o} z (gets_share e) = has_room c p o z (rw e refl)
brought {c = c} {p = p} {o = o} z (gets_own e) = has_room c p o z (rw e refl)
brought z (gets_renewal e i) = inl (rw i (omega arith))
brought z (drops_none e i) = inl (omega arith)
brought z (drops_owned e i) = inl (omega arith)
brought {p = p} z (yields {w = w} {r = r} e i h) = inl (rw e (one_most (is_held (yielded p.line.recall w r))))
brought z (takes e) = inl (omega arith)
brought z names_victim = inl (omega arith)

-- ---- one call

-- the machine's opening is o, and no core holds more than its capacity
record Roomy (o : Opening) (m : Machine) : Type 0 where
  pub opening : m.state.opening ≡ o
  pub arrays : Arrays m.state
  pub within : (c : ℕ) → c < m.state.opening.cores → copies_of m.state c ≤ m.state.opening.cap

-- the copies of a core after an effect on core c and line l
module _ {s : State} (a : Arrays s) {c l : ℕ} (q : There s.opening c l) (d : Effect) where
  copies_off : (c' : ℕ) → (c' ≡ c → ⊥) → copies_of (written s c l d) c' ≡ copies_of s c'
  copies_off c' n = count_same (copy_at s c') (copy_at (written s c l d) c') s.opening.lines (λ k h. copy_off a q d c' k h (λ x _. n x))

  copies_at : copies_of (written s c l d) c + one (is_held (copy_at s c l)) ≡ copies_of s c + one (is_held d.copy)
  copies_at =
      let e = count_one (copy_at s c) (copy_at (written s c l d) c) s.opening.lines l q.line (λ k h n. copy_off a q d c k h (λ _ x. n x)) in
      let x : one (is_held (copy_at (written s c l d) c l)) ≡ one (is_held d.copy) = ap (λ x. one (is_held x)) (copy_at_lem a q d) in
      omega (arith, e, x)

-- a row leaves room
row_roomy : {o : Opening} {m : Machine} (call : Call) (given : Bytes) (d : Effect) → Roomy o m → NotRefused m call given
    → There m.state.opening (core_of call m.state) (line_of call m.state) → RowOn m.state call d
    → Roomy o (applied m (core_of call m.state) (line_of call m.state) (bytes_given call given) d)
unfolding applied
row_roomy {m = m} call given d y k q w =
    let s = m.state in
    let c = core_of call s in
    let e = copies_at y.arrays q d in
    record {
      opening = y.opening;
      arrays = arrays_written y.arrays q d;
      within = λ c' h. by_cases (ℕ_discrete c' c)
          (λ i. rw i (⊎_elim (λ x. omega (arith, e, x, y.within c q.core)) (λ x. omega (arith, e, x, one_most (is_held d.copy))) (brought k.state_ok w)))
          (λ n. let x = copies_off y.arrays q d c' n in omega (arith, x, y.within c' h));
    }

-- ---- a list of calls

-- a fresh engine holds no copy
roomy_fresh : (o : Opening) → Roomy o (fresh_machine o)
roomy_fresh o = record {
  opening = refl;
  arrays = arrays_fresh o;
  within = λ c h. let e = count_none (copy_at (fresh_machine o).state c) o.lines (λ k i. ap is_held (copy_fresh o c k)) in omega (arith, e);
}

pub capacity_theorem : CapacityTheorem
capacity_theorem o gs p c h =
    let y = (reached (λ p rs m. Roomy o m) (λ p rs m g y. kept_by_rows (Roomy o) g.call g.given (λ d k q w. row_roomy g.call g.given d y k q w) y)
    (take p gs) 1 [] (fresh_machine o) (roomy_fresh o)).1 in
    let cores = ap (λ (x : Opening). x.cores) y.opening in
    let cap = ap (λ (x : Opening). x.cap) y.opening in
    let w = y.within c (omega (arith, h, cores)) in
    omega (arith, w, cap)

-- ---- victim

-- the answer and the machine
victim_step : (m : Machine) (c : ℕ) (given : Bytes)
    → step m (Victim c) given
    ≡ record { reply = pick (eqb (refusal m (Victim c) given) 0) (done (Chosen (victim_of m.state c))) (refused (refusal m (Victim c) given)); machine = m }
unfolding step table_of victim_table accepted applied meaning moved_private moved_shared
victim_step m c given = go (eqb (refusal m (Victim c) given) 0)
  where
    go : (b : Bool) → pick b (accepted m (Victim c) given c (line_of (Victim c) m.state) (victim_table (pieces_of (Victim c) m.state))) (record { reply = refused (refusal m (Victim c) given); machine = m })
        ≡ record { reply = pick b (done (Chosen (victim_of m.state c))) (refused (refusal m (Victim c) given)); machine = m }
    go true = rw (set-get_or m.state.core c fresh_core, set-get_or m.state.cell (c * 64 + victim_of m.state c) fresh_cell, set-get_or m.state.line (victim_of m.state c) fresh_line)
    go false = refl

-- a core that 26 does not refuse holds a copy
some_copies : (m : Machine) (c : ℕ) (given : Bytes) → refusal m (Victim c) given ≡ 0 → copies_of m.state c ≡ 0 → ⊥
unfolding state_refusal state_rules
some_copies m c given e = eqb-false (copies_of m.state c) 0 (passed _ 26 [] (omega arith) (not_refused m (Victim c) given e).state_ok).0

pub victim_call_theorem : VictimCallTheorem
victim_call_theorem m c given = record {
  stays = ap (λ (x : Outcome). x.machine) (victim_step m c given);
  reply = ap (λ (x : Outcome). x.reply) (victim_step m c given);
  victim = λ e. (victim_theorem (copy_at m.state c) m.state.opening.lines).found (some_copies m c given e);
}
