-- The machine: the state and the two lent buffers; how many copies a core holds, and its victim; the pieces of it that a call looks at, and where
-- they are written back.
use Rattle.std.specs.Prelude.{ℕ, ◌+◌, ◌*◌, get_or, set, replicate}
use Rattle.protocol.specs.{Buffers.{Bytes, private_length, shared_length, moved_private, moved_shared}, Limits.most_lines, About.{about, named_line}, Copies.{held_below, victim_below}}
use Rattle.protocol.specs.{Fresh.{fresh_core, fresh_cell, fresh_line, fresh_state}, declared.Copy.Copy}
use Rattle.protocol.specs.declared.{Slot.{Slot, TheVariants.{Empty, Asked, Answered}}, Core.Core}
use Rattle.protocol.specs.declared.Pieces.{Pieces}
use Rattle.protocol.specs.declared.{Manager.{Manager, TheVariants.{Shared, Owned}}, ManagerLine.ManagerLine, Opening.Opening, State.State}
use Rattle.protocol.specs.declared.{Call.Call, Who.{Who, TheVariants.{Named as NamedCore, Owner, Nobody}}}
use Rattle.protocol.specs.declared.{Which.{Which, TheVariants.{Named as NamedLine, Asked as OfAsked, Answered as OfAnswered, Nothing, Victim as OfVictim}}, Effect.Effect}

-- a state and the two buffers
pub record Machine : Type 0 where
  pub state : State
  pub private : Bytes
  pub shared : Bytes

abbrev pub machine : State → Bytes → Bytes → Machine
machine s p q = record { state = s; private = p; shared = q }

-- "Fresh, for given sizes and lease: .. all bytes 0"
abbrev pub fresh_machine : Opening → Machine
fresh_machine o = machine (fresh_state o) (replicate (private_length o) 0) (replicate (shared_length o) 0)

-- core c, its copy of line l, and the manager's line l
abbrev pub core_at : State → ℕ → Core
core_at s c = get_or s.core c fresh_core

-- where the state keeps the copy of core c, line l
abbrev pub cell_of : ℕ → ℕ → ℕ
cell_of c l = c * most_lines + l

abbrev pub copy_at : State → ℕ → ℕ → Copy
copy_at s c l = (get_or s.cell (cell_of c l) fresh_cell).copy

abbrev pub line_at : State → ℕ → ManagerLine
line_at s l = get_or s.line l fresh_line

-- 02, Four: how many copies core c holds, of the lines that are there; and its victim, "the held line with the smallest rts"
abbrev pub copies_of : State → ℕ → ℕ
copies_of s c = held_below (copy_at s c) s.opening.lines

abbrev pub victim_of : State → ℕ → ℕ
victim_of s c = victim_below (copy_at s c) s.opening.lines

-- the pieces of the machine that a step looks at, beside the opening: a line's number, one core, its copy of that line, the manager's line,
-- and how many copies the core holds
abbrev pub pieces : ℕ → Core → Copy → ManagerLine → ℕ → Pieces
pieces l k x m n = record { number = l; core = k; copy = x; line = m; copies = n }

abbrev pub pieces_at : State → ℕ → ℕ → Pieces
pieces_at s c l = pieces l (core_at s c) (copy_at s c l) (line_at s l) (copies_of s c)

-- the line that a slot speaks of
abbrev pub slot_line : Slot → ℕ
slot_line Empty = 0
slot_line (Asked a l t h) = l
slot_line (Answered g l w r) = l

-- the core that owns a line
abbrev pub owner_of : Manager → ℕ
owner_of (Shared w r) = 0
owner_of (Owned c) = c

-- the core that a call is about: the one that it names, or the line's owner
abbrev pub the_core : Who → Manager → ℕ
the_core (NamedCore c) m = c
the_core Owner m = owner_of m
the_core Nobody m = 0

abbrev pub core_of : Call → State → ℕ
core_of call s = the_core (about call).core (line_at s (named_line (about call).line)).manager

-- the line that a call is about: the one that it names, the slot's, or the core's victim v
abbrev pub the_line : Which → Slot → ℕ → ℕ
the_line (NamedLine l) k v = l
the_line OfAsked k v = slot_line k
the_line OfAnswered k v = slot_line k
the_line Nothing k v = 0
the_line OfVictim k v = v

abbrev pub line_of : Call → State → ℕ
line_of call s = the_line (about call).line (core_at s (core_of call s)).slot (victim_of s (core_of call s))

-- the state with a step's effect on core c and line l written back; a step that has no core or no line of its own leaves those of number 0 as
-- they are
abbrev pub written : State → ℕ → ℕ → Effect → State
written s c l d =
    record {
      opening = s.opening;
      core = set s.core c d.core;
      cell = set s.cell (cell_of c l) (record { copy = d.copy });
      line = set s.line l d.line;
    }

-- the machine after a step's effect on core c and line l; `given` are the bytes given to a store
unfoldable pub applied : Machine → ℕ → ℕ → Bytes → Effect → Machine
applied m c l given d =
    machine (written m.state c l d)
    (moved_private d.moves m.state.opening c l given m.private m.shared)
    (moved_shared d.moves m.state.opening c l m.private m.shared)
