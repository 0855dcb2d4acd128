-- The part of a machine that the refusals 1 and 2 look at, and the refusals because of the input.
use Rattle.std.specs.Prelude.{ℕ, zero, suc}
use mathlib.Core.{Bool.Bool}
use Rattle.std.specs.Prelude.{Option, Some, None, length, replicate}
use Rattle.protocol.specs.{Pick.both, Limits.opening_fits, Buffers.Bytes, About.about, Given.{given_as, bytes_given}, Machine.{Machine, machine}}
use Rattle.protocol.specs.Refusals.{given_refusal, buffers_fit, machine_refusal, call_refusal, or_else}
use Rattle.protocol.specs.declared.{State.State, Opening.Opening, Call.Call}

-- a machine with this state and buffers of np and nq bytes. No refusal of 1 and 2 looks at a byte, so the bytes are 0
abbrev pub machine_with : State → ℕ → ℕ → Machine
machine_with s np nq = machine s (replicate np 0) (replicate nq 0)

-- the first of 13 and 1 to 6 that applies, or 0 where none does; `given` is what is given to a store
abbrev pub input_refusal : Machine → Call → Bytes → ℕ
input_refusal m call given =
    or_else (given_refusal (given_as (about call).act) given)
    (or_else (machine_refusal m) (call_refusal call m.state.opening (length (bytes_given call given))))

-- the refusal that applies, if one does: 0 stands for none
abbrev pub applies : ℕ → Option ℕ
applies zero = None
applies (suc n) = Some (suc n)

-- sizes, lease and capacity lie inside the limits, and buffers of np and nq bytes have their exact lengths
abbrev pub lengths_fit : Opening → ℕ → ℕ → Bool
lengths_fit o np nq = both (opening_fits o) (buffers_fit o np nq)
