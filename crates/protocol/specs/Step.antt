-- One call on the machine, for every machine, call and whatever is given to it: what it answers, in the scope document's numbers and values, and the
-- machine after it. And `show`.
use Rattle.std.specs.Prelude.{ℕ, ◌+◌, eqb}
use Rattle.protocol.specs.{Pick.pick, Fresh.{fresh_state, smallest}, Buffers.{Bytes, copy_start, manager_start, copy_bytes}, About.about, Copies.is_held, Given.bytes_given}
use Rattle.protocol.specs.Machine.{Machine, pieces_at, copy_at, core_of, line_of, applied}
use Rattle.protocol.specs.{Refusals.{open_refusal, machine_refusal, call_refusal, refusal, or_else}, Tables.table_of, declared.Stamp.Stamp}
use Rattle.protocol.specs.declared.{Opening.Opening, State.State, Call.{Call, TheVariants.Load}}
use Rattle.protocol.specs.declared.Act.{Act, TheVariants.{Load as Loads, Store as Stores, Fence as Fences, Advance as Advances, Transfer}}
use Rattle.protocol.specs.declared.Name.{Name, TheVariants.Open}
use Rattle.protocol.specs.declared.Kind.{Kind, TheVariants.{Load as OfLoad, Store as OfStore, Fence as OfFence}}
use Rattle.protocol.specs.declared.{Answer.{Answer, TheVariants.{Refused, Done, Commit}}, Effect.Effect}

-- ---- answers

-- what a commit did: its kind and, but for a fence, its line and value. The value of a line is its bytes
pub data Op (A : Type 0) : Type 0 where
  load : ℕ → A → Op A
  store : ℕ → A → Op A
  fence : Op A

-- an answer: the number of a refusal, a name, or a commit with core, timestamp and what it did
pub data Reply : Type 0 where
  refused : ℕ → Reply
  done : Name → Reply
  commit : ℕ → Stamp → Op Bytes → Reply

-- a commit's kind with its value
abbrev pub valued : Kind → Bytes → Op Bytes
valued (OfLoad l) bytes = load l bytes
valued (OfStore l) bytes = store l bytes
valued OfFence bytes = fence

-- the scope document's number and values for each case of an answer; a commit's bytes are beside it
unfoldable pub meaning : Answer → Bytes → Reply
meaning (Refused n) bytes = refused n
meaning (Done d) bytes = done d
meaning (Commit c t k) bytes = commit c t (valued k bytes)

-- ---- open

-- "7 opening sizes or lease outside the limits", or the capacity; a refused opening gives the fresh state of the smallest one
abbrev pub opened : Opening → State
opened o = pick (eqb (open_refusal o) 0) (fresh_state o) (fresh_state smallest)

abbrev pub open_reply : Opening → Reply
open_reply o = pick (eqb (open_refusal o) 0) (done Open) (refused (open_refusal o))

-- ---- step

-- what a call gives: its answer and the machine after it
pub record Outcome : Type 0 where
  pub reply : Reply
  pub machine : Machine

-- "a load's bytes are its copy's"; a store's are those that it was given
abbrev pub act_bytes : Act → Bytes → Bytes → Bytes
act_bytes (Stores g) given copy = given
act_bytes Loads given copy = copy
act_bytes Fences given copy = copy
act_bytes (Advances by) given copy = copy
act_bytes Transfer given copy = copy

abbrev pub commit_bytes : Call → Bytes → Bytes → Bytes
commit_bytes call given copy = act_bytes (about call).act given copy

-- an accepted call on core c and line l: the answer and the machine of its table's row; `given` are the bytes given to a store
unfoldable pub accepted : Machine → Call → Bytes → ℕ → ℕ → Effect → Outcome
accepted m call given c l d =
    record {
      reply = meaning d.answer (commit_bytes call given (copy_bytes m.state.opening m.private c l));
      machine = applied m c l given d;
    }

-- one call; `given` is what is given to a store, its bytes or their digits. "A refused call returns its number, the state it got, both buffers
-- byte for byte." 02, Three: in digits "it gives what store gives for the bytes spelt, both buffers included"
unfoldable pub step : Machine → Call → Bytes → Outcome
step m call given =
    pick (eqb (refusal m call given) 0)
    (accepted m call (bytes_given call given) (core_of call m.state) (line_of call m.state)
    (table_of call (pieces_at m.state (core_of call m.state) (line_of call m.state)) m.state.opening))
    (record { reply = refused (refusal m call given); machine = m })

-- ---- show

-- one of the two lent buffers
pub data Buffer : Type 0 where
  in_private in_shared : Buffer

-- a part of one of them, from start up to end
pub record Shown : Type 0 where
  pub buffer : Buffer
  pub start : ℕ
  pub end : ℕ

-- 1 to 4, as they apply to a core and a line
abbrev pub show_refusal : Machine → ℕ → ℕ → ℕ
show_refusal m c l = or_else (machine_refusal m) (call_refusal (Load c l) m.state.opening 0)

-- "the line's bytes as a part of the private buffer if that core holds a copy, else as a part of the shared buffer, the manager line's
-- place .. under 1 to 4 it gives the empty part at the start of the shared buffer"
unfoldable pub shown : Machine → ℕ → ℕ → Shown
shown m c l =
    pick (eqb (show_refusal m c l) 0)
    (pick (is_held (copy_at m.state c l))
    (record { buffer = in_private; start = copy_start m.state.opening c l; end = copy_start m.state.opening c l + m.state.opening.width })
    (record { buffer = in_shared; start = manager_start m.state.opening l; end = manager_start m.state.opening l + m.state.opening.width }))
    (record { buffer = in_shared; start = 0; end = 0 })
