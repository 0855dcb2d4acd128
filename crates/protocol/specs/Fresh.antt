-- "Fresh, for given sizes and lease: every timestamp 0, slots empty, no copies, manager lines shared, no recall, no writeback, .. One fresh
-- core and one fresh line are fixed values that every opening uses." (`fresh_machine` adds "all bytes 0".)
use Rattle.std.specs.Prelude.{◌*◌, replicate, None}
use Rattle.protocol.specs.{Stamps.stamp, Limits.{most_cores, most_lines}, declared.{Copy.TheVariants.None as NoCopy, Slot.TheVariants.Empty}}
use Rattle.protocol.specs.declared.{Manager.TheVariants.Shared, Recall.TheVariants.None as NoRecall}
use Rattle.protocol.specs.declared.{Core.Core, Cell.Cell, ManagerLine.ManagerLine, Opening.Opening}
use Rattle.protocol.specs.declared.State.{State}

-- the fresh core: both clocks 0, the slot empty
abbrev pub fresh_core : Core
fresh_core = record { clocks = record { lts = stamp 0; sts = stamp 0 }; slot = Empty }

-- no copy
abbrev pub fresh_cell : Cell
fresh_cell = record { copy = NoCopy }

-- the fresh line: shared, no recall, no writeback
abbrev pub fresh_line : ManagerLine
fresh_line = record { manager = Shared (stamp 0) (stamp 0); recall = NoRecall; writeback = None }

-- the fresh state of an opening
abbrev pub fresh_state : Opening → State
fresh_state o =
    record {
      opening = o;
      core = replicate most_cores fresh_core;
      cell = replicate (most_cores * most_lines) fresh_cell;
      line = replicate most_lines fresh_line;
    }

-- "the fresh state of 1 core, 1 line, width 1, lease 1": its opening. 02, Four: its capacity, 1 to lines, is 1
abbrev pub smallest : Opening
smallest = record { cores = 1; lines = 1; width = 1; lease = 1; cap = 1 }
