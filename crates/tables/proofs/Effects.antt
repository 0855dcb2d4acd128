-- One call: what `step` is, by the effect on the pieces of the core and the line that the call is about; that the effect's move fits; and that
-- the bytes of a commit lie where `span_of` says.
use Prim.Native.Nat.{ℕ, ◌+◌, ◌*◌, ◌≤◌}
use mathlib.Core.{Path.{◌≡◌, refl, sym, ◌∙◌, ap}, Bool.{Bool, true, false}}
use lib.{Dec.eqb, ListN.length, Seq.set-get_or}
use borrow.Author.Tests.{lt-ltb, eq-eqb, ne_eqb}
use Rattle.protocol.specs.{Pick.pick, Fresh.{fresh_core, fresh_cell, fresh_line}}
use Rattle.protocol.specs.Buffers.{Bytes, part, copy_start, copy_bytes, There, given_fits, moved_private, moved_shared}
use Rattle.protocol.specs.{Given.{given_as, bytes_given}, Machine.{Machine, core_at, copy_at, line_at, core_of, line_of, applied}}
use Rattle.protocol.specs.declared.Pieces.{Pieces}
use Rattle.protocol.specs.Refusals.{given_refusal, wrong_count, buffers_fit, machine_refusal, call_refusal, state_refusal, refusal, or_else}
use Rattle.protocol.specs.Step.{refused, meaning, commit_bytes, accepted, step}
use Rattle.protocol.specs.{declared.{Opening.Opening, Call.Call, Effect.Effect, Answer.TheVariants.Refused, Move.TheVariants.Still}, About.about}
use Rattle.protocol.specs.Tables.{row, refused_row, load_owned, store_table, fence_table, advance_table, evict_table, serve_load, serve_asked, receive_renew, receive_grant}
use Rattle.protocol.specs.Tables.{yield_table, take_table, victim_table, effect_of}
use Rattle.protocol.proofs.{Extents.copy_ends, Refusals.{Fit, named, store_width, call_there}}
use Rattle.protocol.proofs.Cases.{Row, asks_load, reads_shared, reads_dirty, reads_clean, asks_store, writes, fences, advances, evicts_shared, evicts_owned}
use Rattle.protocol.proofs.Cases.{recalls, renews, shares, grants, gets_share, gets_own, gets_renewal, drops_none, drops_owned, yields, takes}
use Rattle.protocol.proofs.Cases.{names_victim, pieces_of, effect_case}
use Rattle.spelling.proofs.OverLaws.{over_part}
use Rattle.refusals.{specs.Input.input_refusal, proofs.Laws.or_assoc}
use Rattle.buffers.specs.Moves.{move_fits}
use Rattle.tables.specs.Spans.{span_of}

-- ---- step

-- 13 and 1 to 6, then 20 and up
input_first : (m : Machine) (call : Call) (given : Bytes)
    → refusal m call given ≡ or_else (input_refusal m call given) (state_refusal call (pieces_of call m.state) m.state.opening)
unfolding refusal
input_first m call given =
    ap (or_else (given_refusal (given_as (about call).act) given)) (or_assoc (machine_refusal m) (call_refusal call m.state.opening (length (bytes_given call given))) _)
    ∙ or_assoc (given_refusal (given_as (about call).act) given) _ _

-- a call that 13 or one of 1 to 6 refuses
pub step_refused : (m : Machine) (call : Call) (given : Bytes) → (input_refusal m call given ≡ 0 → ⊥) → step m call given ≡ record { reply = refused (input_refusal m call given); machine = m }
unfolding step
step_refused m call given h = let z = ne_eqb (input_refusal m call given) 0 h in rw (input_first m call given, z, z)

-- the row of a table's refusal leaves the machine as it is
pub row_refused : (m : Machine) (call : Call) (given : Bytes) (c l n : ℕ) → accepted m call given c l (row (Refused n) Still (core_at m.state c) (copy_at m.state c l) (line_at m.state l)) ≡ record { reply = refused n; machine = m }
unfolding accepted applied meaning moved_private moved_shared
row_refused m call given c l n =
    rw (set-get_or m.state.core c fresh_core, set-get_or m.state.cell (c * 64 + l) fresh_cell, set-get_or m.state.line l fresh_line)

-- a call that neither 13 nor one of 1 to 6 refuses: the effect of its table, a refusal of 20 and up among them
pub step_accepted : (m : Machine) (call : Call) (given : Bytes) → input_refusal m call given ≡ 0
    → step m call given ≡ accepted m call (bytes_given call given) (core_of call m.state) (line_of call m.state) (effect_of call (pieces_of call m.state) m.state.opening)
unfolding step effect_of
step_accepted m call given e = rw (input_first m call given, e) (alike (eqb (state_refusal call (pieces_of call m.state) m.state.opening) 0) _ _)
  where
    alike : (t : Bool) (d : Effect) (n : ℕ)
        → pick t (accepted m call (bytes_given call given) (core_of call m.state) (line_of call m.state) d) (record { reply = refused n; machine = m })
        ≡ accepted m call (bytes_given call given) (core_of call m.state) (line_of call m.state) (pick t d (refused_row n (pieces_of call m.state)))
    alike true d n = refl
    alike false d n = sym (row_refused m call (bytes_given call given) _ _ n)

-- ---- the bytes beside an answer

-- an effect whose move fits the bytes given, and beside whose answer, after the move, lie the bytes of the commit
pub record Sound (o : Opening) (c l : ℕ) (given p q : Bytes) (call : Call) (d : Effect) : Type 0 where
  pub fits : given_fits d.moves o.width (length given) ≡ true
  pub bytes :
      meaning d.answer
      (part (moved_private d.moves o c l given p q) (span_of d.answer (copy_start o c l) o.width).start
      (span_of d.answer (copy_start o c l) o.width).count)
      ≡ meaning d.answer (commit_bytes call given (copy_bytes o p c l))

module _ {o : Opening} {c l : ℕ} {given p q : Bytes} {k : Pieces} where
  row_sound : {call : Call} {d : Effect} → wrong_count (about call).act o (length given) ≡ false → copy_start o c l + o.width ≤ length p → Row c l k o call d
      → Sound o c l given p q call d
  unfolding meaning moved_private load_owned store_table fence_table advance_table evict_table serve_asked serve_load receive_grant receive_renew yield_table take_table victim_table
  row_sound n h (asks_load e i) = record { fits = refl; bytes = refl }
  row_sound n h (reads_shared e i) = record { fits = refl; bytes = refl }
  row_sound n h (reads_dirty e) = record { fits = refl; bytes = refl }
  row_sound n h (reads_clean e) = record { fits = refl; bytes = refl }
  row_sound n h (asks_store e i) = record { fits = refl; bytes = refl }
  row_sound n h (writes {g = g} e i) =
      let b = store_width g o (length given) n in
      record { fits = eq-eqb _ _ b; bytes = rw (over_part p (copy_start o c l) given (rw b h) o.width b) }
  row_sound n h fences = record { fits = refl; bytes = refl }
  row_sound n h (advances e) = record { fits = refl; bytes = refl }
  row_sound n h (evicts_shared i e) = record { fits = refl; bytes = refl }
  row_sound n h (evicts_owned i e) = record { fits = refl; bytes = refl }
  row_sound n h (recalls e i) = record { fits = refl; bytes = refl }
  row_sound n h (renews e i v t) = record { fits = refl; bytes = refl }
  row_sound n h (shares e i v t) = record { fits = refl; bytes = refl }
  row_sound n h (grants e i) = record { fits = refl; bytes = refl }
  row_sound n h (gets_share e) = record { fits = refl; bytes = refl }
  row_sound n h (gets_own e) = record { fits = refl; bytes = refl }
  row_sound n h (gets_renewal e i) = record { fits = refl; bytes = refl }
  row_sound n h (drops_none e i) = record { fits = refl; bytes = refl }
  row_sound n h (drops_owned e i) = record { fits = refl; bytes = refl }
  row_sound n h (yields e i t) = record { fits = refl; bytes = refl }
  row_sound n h (takes e) = record { fits = refl; bytes = refl }
  row_sound n h names_victim = record { fits = refl; bytes = refl }

-- the effect of a call that none of 1 to 6 refuses
pub effect_sound : (m : Machine) (call : Call) (given : Bytes) → Fit m → call_refusal call m.state.opening (length given) ≡ 0
    → Sound m.state.opening (core_of call m.state) (line_of call m.state) given m.private m.shared call (effect_of call (pieces_of call m.state) m.state.opening)
unfolding meaning
effect_sound m call given f e =
    effect_case (λ d. Sound m.state.opening (core_of call m.state) (line_of call m.state) given m.private m.shared call d) m.state call
    (λ n. record { fits = refl; bytes = refl })
    (λ d w. row_sound (named call _ _ e).count (rw f.n_private (copy_ends (call_there f call (length given) e))) w)

-- ---- the move

-- a machine and a call that none of 1 to 6 refuses: the effect's move fits
pub effect_moves : (m : Machine) (call : Call) (given : Bytes) (c l : ℕ) (d : Effect) → Fit m → There m.state.opening c l → Sound m.state.opening c l given m.private m.shared call d → move_fits d.moves m.state.opening (length m.private) (length m.shared) c l (length given) ≡ true
unfolding move_fits buffers_fit
effect_moves m call given c l d f a s =
    rw (f.opening, lt-ltb _ _ a.core, lt-ltb _ _ a.line, eq-eqb _ _ f.n_private, eq-eqb _ _ f.n_shared) s.fits
