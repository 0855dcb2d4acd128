-- What `step` returns is the call of the definition `step`: the law of one call made in place, with the answer, the state, both buffers and the
-- place of a commit's bytes put together.
use Prim.Native.Nat.{ℕ}
use mathlib.Core.Path.{◌≡◌, refl, ap}
use lib.ListN.{length, length-replicate}
use Rattle.std.specs.Prelude.{Option}
use Rattle.protocol.specs.{Pick.pick, Buffers.{Bytes, copy_start}, Given.bytes_given, Machine.{machine, written, applied}, Refusals.machine_refusal}
use Rattle.protocol.specs.{Step.accepted, declared.{State.State, Call.Call, Effect.Effect, Pieces.Pieces}}
use Rattle.refusals.specs.Input.{machine_with, input_refusal, applies}
use Rattle.buffers.specs.Moves.{is_there, Moves}
use Rattle.tables.specs.{declared.{Span.Span, seen.Seen.Seen}, Found.effect_with, Seen.{line_seen, pieces_seen, Sees}, Spans.span_of}
use Rattle.tables.proofs.Making.{made, is_step, is_moved, is_reply, is_span}
use Rattle.engine.specs.{Calls.Performs}

module _ (s : State) (p q : Bytes) (call : Call) (given : Bytes) where
  -- the refusals because of the input look at the buffers' lengths alone
  here : input_refusal (machine_with s (length p) (length q)) call given ≡ input_refusal (machine s p q) call given
  unfolding machine_refusal
  here = simp length-replicate

  pub performs :
      {r : Option ℕ} {x : Seen} {d : Effect} {b : Span} {p' q' : Bytes}
      → r ≡ applies (input_refusal (machine_with s (length p) (length q)) call given) → Sees call s x → d ≡ effect_with r call x.pieces s.opening
      → b ≡ span_of d.answer (pick (is_there s.opening x.core x.pieces.number) (copy_start s.opening x.core x.pieces.number) 0) s.opening.width
      → Moves d.moves s.opening x.core x.pieces.number (bytes_given call given) p q p' q'
      → Performs (machine s p q) call given
      (record { answer = d.answer; start = b.start; count = b.count; state = written s x.core x.pieces.number d })
      p' q'
  unfolding accepted applied pieces_seen
  performs {r} {x} {d} {b} {p'} {q'} er f ed eb v =
      let m = machine s p q in
      let n = input_refusal m call given in
      let line : x.pieces.number ≡ line_seen call s = ap (λ (y : Pieces). y.number) f.pieces in
      let e : d ≡ made m call given n refl = rw (er, here, f.pieces) at ed in
      let w = is_moved m call given n refl p' q' (rw (e, f.core, line) at v) in
      let y = rw (e, f.core, line) at eb in
      record {
        reply = rw (e, w.0, y) (is_reply m call given n refl _ refl);
        machine = rw (is_step m call given n refl, w.0, w.1, e, f.core, line);
        span = rw (e, y) (is_span m call given n refl _ refl);
      }
