-- One call made in place: whatever 13 and 1 to 6 say of it, the effect on the elements where the core and the line that it is about are found, written
-- back, with its bytes moved, is `step`. The engine's call and the driver's loop both go by it.
use Prim.Native.Nat.{ℕ, ◌+◌, ◌≤◌, ◌<◌}
use mathlib.Core.{Path.{◌≡◌, refl, sym, ◌∙◌, ap₂}, Bool.{Bool, true, false}, Logic.by_cases}
use lib.ListN.{length}
use native.Mathlib.{Omega.arith, Decide.ℕ_discrete}
use borrow.Author.Tests.{le-leb, lt-ltb}
use Rattle.protocol.proofs.{Copies.count_missing, Extents.{copy_ends, inside}, Refusals.{or_none, Fit, machine_fit, named, named_inside, call_there}}
use Rattle.protocol.specs.{Pick.pick, Buffers.{Bytes, part, copy_start, copy_bytes, There, moved_private, moved_shared}}
use Rattle.protocol.specs.{About.{about}, Given.{given_as, bytes_given}}
use Rattle.protocol.specs.Machine.{Machine, core_at, copy_at, line_at, copies_of, victim_of, pieces, pieces_at, the_line, core_of, line_of}
use Rattle.protocol.specs.{Refusals.{given_refusal, machine_refusal, call_refusal}, Tables.{refused_row, effect_of}, Step.{meaning, accepted, step}}
use Rattle.protocol.specs.declared.{Opening.Opening, Call.Call, Answer.{Answer, TheVariants.{Refused, Done, Commit}}, Effect.Effect, Move.TheVariants.Still}
use Rattle.protocol.specs.declared.Kind.TheVariants.{Load, Store, Fence}
use Rattle.refusals.{specs.Input.{input_refusal, applies}, proofs.Laws.applied}
use Rattle.buffers.{specs.Moves.{is_there, move_fits, Moves}, proofs.Laws.{from_there, start_there}}
use Rattle.tables.specs.{declared.copies.Look.Look, Found.{found_at, effect_with}, Look.looks_over, Seen.{named_seen, core_seen, copies_seen, line_seen, pieces_seen}, Spans.span_of}
use Rattle.tables.proofs.{Effects.{step_refused, row_refused, step_accepted, Sound, effect_sound, effect_moves}, Looking.{look_copies, look_victim, line_unseen, look_none, effect_unseen}}

-- what is there is found
pub found_there : (n count most : ℕ) → n < count → count ≤ most → found_at n count most ≡ n
found_there n count most h k = rw (le-leb _ _ k, lt-ltb _ _ h)

-- a commit's bytes lie in a buffer in which the line's do
span_inside : (a : Answer) (start width top : ℕ) → start + width ≤ top → (span_of a start width).start + (span_of a start width).count ≤ top
span_inside (Refused n) start width top h = omega arith
span_inside (Done d) start width top h = omega arith
span_inside (Commit c t (Load l)) start width top h = h
span_inside (Commit c t (Store l)) start width top h = h
span_inside (Commit c t Fence) start width top h = omega arith

-- a commit's bytes are the line's
span_bytes :
    (a : Answer) (p : Bytes) (start width : ℕ)
    → meaning a (part p (span_of a start width).start (span_of a start width).count) ≡ meaning a (part p start width)
unfolding meaning
span_bytes (Refused n) p start width = refl
span_bytes (Done d) p start width = refl
span_bytes (Commit c t (Load l)) p start width = refl
span_bytes (Commit c t (Store l)) p start width = refl
span_bytes (Commit c t Fence) p start width = refl

-- where nothing moves, the buffers stay whether the places fit or not
same_either : {x y : Bytes} (t : Bool) → x ≡ pick t y y → x ≡ y
same_either true h = h
same_either false h = h

-- n is the first of 13 and 1 to 6 that applies; `given` is what is given to a store
module _ (m : Machine) (call : Call) (given : Bytes) (n : ℕ) (e : n ≡ input_refusal m call given) where
  abbrev o : Opening
  o = m.state.opening

  -- the bytes that are given
  abbrev bytes : Bytes
  bytes = bytes_given call given

  -- the core and the line where the call looks, and what going through the core's copies found
  abbrev c : ℕ
  c = core_seen call m.state

  abbrev l : ℕ
  l = line_seen call m.state

  abbrev k : Look
  k = copies_seen call m.state

  abbrev pub made : Effect
  made = effect_with (applies n) call (pieces_seen call m.state) o

  -- ---- none of them applies

  module _ (z : n ≡ 0) where
    allowed : (machine_refusal m ≡ 0) × (call_refusal call o (length bytes) ≡ 0)
    allowed = or_none (machine_refusal m) _ (or_none (given_refusal (given_as (about call).act) given) _ (sym e ∙ z)).1

    fit : Fit m
    fit = machine_fit m allowed.0

    core_is : c ≡ core_of call m.state
    unfolding core_seen named_seen
    core_is =
        let i = inside o fit.opening in
        let h = named_inside o (about call).line i.some_lines (named call o (length bytes) allowed.1).line in
        let q = call_there fit call (length bytes) allowed.1 in
        rw (found_there _ _ _ h i.most_lines) (found_there _ _ _ q.core i.most_cores)

    -- the line by the core's victim, whether the call looks for it or not
    victim_is : the_line (about call).line (core_at m.state c).slot k.line ≡ the_line (about call).line (core_at m.state c).slot (victim_of m.state c)
    unfolding copies_seen
    victim_is = go (looks_over (about call).line o) refl
      where
        go : (b : Bool) → looks_over (about call).line o ≡ b
            → the_line (about call).line (core_at m.state c).slot k.line ≡ the_line (about call).line (core_at m.state c).slot (victim_of m.state c)
        go true t = rw (look_victim m.state c (about call).line (inside o fit.opening).most_lines t)
        go false t = line_unseen (about call).line o (core_at m.state c).slot k.line (victim_of m.state c) t

    line_is : l ≡ line_of call m.state
    unfolding line_seen
    line_is =
        let q = call_there fit call (length bytes) allowed.1 in
        rw victim_is (rw core_is (found_there _ _ _ q.line (inside o fit.opening).most_lines))

    there : There o c l
    there = rw (core_is, line_is) (call_there fit call (length bytes) allowed.1)

    accepted_effect : made ≡ effect_of call (pieces_at m.state c l) o
    unfolding effect_with pieces_seen copies_seen
    accepted_effect = rw z (go (looks_over (about call).line o) refl)
      where
        go : (b : Bool) → looks_over (about call).line o ≡ b
            → effect_of call (pieces l (core_at m.state c) (copy_at m.state c l) (line_at m.state l) k.copies) o ≡ effect_of call (pieces_at m.state c l) o
        go true t = rw (look_copies m.state c (about call).line (inside o fit.opening).most_lines t)
        go false t =
            let n = look_none (copy_at m.state c) (about call).line o t in
            effect_unseen l (core_at m.state c) (copy_at m.state c l) (line_at m.state l) k.copies (copies_of m.state c) o
            (rw n (omega (arith, (inside o fit.opening).some_cap)))
            (λ h e. let j = count_missing (copy_at m.state c) o.lines l there.line e in omega (arith, h, j)) call t

    sound : Sound o c l bytes m.private m.shared call made
    sound = rw (accepted_effect, core_is, line_is) (effect_sound m call bytes fit allowed.1)

  -- ---- one of them applies

  refused_effect : (n ≡ 0 → ⊥) → made ≡ refused_row n (pieces_at m.state c l)
  unfolding effect_with pieces_seen
  refused_effect h = rw (applied n h)

  -- ---- whatever applies

  -- the call is the effect written back
  pub is_step : step m call given ≡ accepted m call bytes c l made
  is_step =
      by_cases (ℕ_discrete n 0) (λ z. rw (accepted_effect z, core_is z, line_is z) (step_accepted m call given (sym e ∙ z)))
      (λ h. rw (refused_effect h, row_refused m call bytes c l n) (step_refused m call given (λ z. h (e ∙ z)) ∙ rw e refl))

  -- the buffers after the effect's move
  pub is_moved : (p' q' : Bytes) → Moves made.moves o c l bytes m.private m.shared p' q'
      → (p' ≡ moved_private made.moves o c l bytes m.private m.shared) × (q' ≡ moved_shared made.moves o c l m.private m.shared)
  unfolding moved_private moved_shared
  is_moved p' q' b =
      by_cases (ℕ_discrete n 0) (λ z. let r = effect_moves m call bytes c l made (fit z) (there z) (sound z) in (rw r at b.private, rw r at b.shared))
      (λ h. let y = refused_effect h in
      let t = move_fits Still o (length m.private) (length m.shared) c l (length bytes) in
      rw y (same_either t (rw y at b.private), same_either t (rw y at b.shared)))

  -- the bytes beside the answer, after the move
  module _ (start : ℕ) (a : start ≡ pick (is_there o c l) (copy_start o c l) 0) where
    started : n ≡ 0 → start ≡ copy_start o c l
    started z = start_there o c l (from_there (fit z).opening (there z)) _ start a

    -- they are the commit's
    pub is_reply :
        meaning made.answer
        (part (moved_private made.moves o c l bytes m.private m.shared) (span_of made.answer start o.width).start
        (span_of made.answer start o.width).count)
        ≡ (step m call given).reply
    unfolding accepted meaning
    is_reply =
        by_cases (ℕ_discrete n 0) (λ z. rw (is_step, started z) (sound z).bytes)
        (λ h. rw (is_step, refused_effect h))

    -- they lie where the copy of the core and the line that the call is about does
    pub is_span : span_of made.answer start o.width ≡ span_of made.answer (copy_start o (core_of call m.state) (line_of call m.state)) o.width
    is_span =
        by_cases (ℕ_discrete n 0) (λ z. rw (started z) (ap₂ (λ (x y : ℕ). span_of made.answer (copy_start o x y) o.width) (core_is z) (line_is z)))
        (λ h. rw (refused_effect h))

    -- they lie in the buffer
    pub is_inside : (span_of made.answer start o.width).start + (span_of made.answer start o.width).count ≤ length m.private
    is_inside =
        by_cases (ℕ_discrete n 0) (λ z. rw (started z) (span_inside made.answer _ _ _ (rw (fit z).n_private (copy_ends (there z)))))
        (λ h. rw (refused_effect h) (omega arith))

    -- before the move they are the copy's
    pub is_shown_lem :
        meaning made.answer (part m.private (span_of made.answer start o.width).start (span_of made.answer start o.width).count)
        ≡ meaning made.answer (copy_bytes o m.private c l)
    unfolding meaning
    is_shown_lem =
        by_cases (ℕ_discrete n 0) (λ z. rw (started z) (span_bytes made.answer m.private (copy_start o c l) o.width))
        (λ h. rw (refused_effect h))
