-- What `step`, `open`, `show` and `commit_bytes` promise, by equations with the definitions of `protocol`.
use Rattle.std.specs.Prelude.{ℕ, ◌+◌, ◌-◌, min, length}
use mathlib.Core.{Path.◌≡◌, List.[]}
use Rattle.std.specs.Borrow.{Bor}
use Rattle.protocol.specs.{Buffers.{Bytes, part, copy_start}, Machine.{Machine, machine, core_of, line_of}}
use Rattle.protocol.specs.{Step.{meaning, open_reply, opened, step, Buffer, in_private, in_shared, Shown, shown}, declared.Opening.Opening}
use Rattle.protocol.specs.declared.{State.State, Call.Call}
use Rattle.tables.specs.Spans.{span_of}
use Rattle.engine.specs.declared.{Opened.Opened, Returned.Returned}

-- a call on the machine m that returns r and leaves the buffers p and q: answer, commit's bytes, state and both buffers are those of `step`;
-- `given` is what is given to a store, its bytes or their digits
pub record Performs (m : Machine) (call : Call) (given : Bytes) (r : Returned) (p q : Bytes) : Type 0 where
  pub reply : meaning r.answer (part p r.start r.count) ≡ (step m call given).reply
  pub machine : machine r.state p q ≡ (step m call given).machine
  pub span :
      record { start = r.start; count = r.count }
      ≡ span_of r.answer (copy_start m.state.opening (core_of call m.state) (line_of call m.state)) m.state.opening.width

-- what each call promises: the same of the lent buffers, as they come and as they are left
abbrev pub Makes : Call → Bytes → State → Bytes → Bytes → Returned → Bytes → Bytes → Type 0
Makes call given s p q r p' q' = Performs (machine s p q) call given r p' q'

-- open: the answer in the scope document's terms, and the fresh state
pub record Opens (o : Opening) (r : Opened) : Type 0 where
  pub reply : meaning r.answer [] ≡ open_reply o
  pub state : r.state ≡ opened o

-- r is the part of the lent slice s that has `count` bytes from `start` on, as far as s has them. It points into the same memory, `start` bytes
-- past where s points, or to the end of s where s ends before that. `commit_bytes` promises it of the private buffer
pub record PartOf (s : Bor Bytes) (start count : ℕ) (r : Bor Bytes) : Type 0 where
  pub pointer : r.ref_ptr ≡ (s.ref_ptr.0, min start (length s.now) + s.ref_ptr.1)
  pub bytes : r.now ≡ part s.now start count

-- which of the two lent slices a buffer is, the private one p or the shared one q
abbrev pub lent_as : Buffer → Bor Bytes → Bor Bytes → Bor Bytes
lent_as in_private p q = p
lent_as in_shared p q = q

-- r is the part that x names of the lent slices p and q
abbrev pub IsPart : Shown → Bor Bytes → Bor Bytes → Bor Bytes → Type 0
IsPart x p q r = PartOf (lent_as x.buffer p q) x.start (x.end - x.start) r

-- show: r is the part of the lent slices p and q that `shown` names
abbrev pub Shows : State → Bor Bytes → Bor Bytes → ℕ → ℕ → Bor Bytes → Type 0
Shows s p q core line r = IsPart (shown (machine s p.now q.now) core line) p q r
