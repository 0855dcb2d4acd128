-- Caches with a size, as worked examples (02, Four): 31, the victim, and 26 of a core without copies.
--
-- The machine is that of the rows, with another capacity. Core 1 holds line 0 up to 4, line 1 up to 12 and line 3, owned, up to 9; of line 2 it holds
-- what the pieces say. Its copy of line 4, which lies outside the sizes, counts for nothing.
use Rattle.std.specs.Prelude.{ℕ, ◌≤◌, Some as Version}
use mathlib.Core.{Path.◌≡◌, List.{List, [], ◌∷◌}}
use Rattle.std.specs.Prelude.{set, take}
use Rattle.protocol.specs.{Fresh.fresh_state, Machine.{Machine, machine, fresh_machine, copies_of}, Run.{Entry, run}, Stamps.stamp, Step.{Reply, refused, done, Outcome, step}}
use Rattle.protocol.specs.declared.Pieces.{Pieces}
use Rattle.protocol.specs.declared.{Call.{Call, TheVariants.{Receive, Victim}}, Copy.TheVariants.None as NoCopy, State.State}
use Rattle.protocol.specs.declared.Grant.TheVariants.{Share as GrantShare, Renew as GrantRenew, Own as GrantOwn}
use Rattle.protocol.specs.declared.{Want.TheVariants.Load as WantLoad, Slot.TheVariants.Empty, Recall.TheVariants.None as NoRecall}
use Rattle.protocol.specs.declared.Name.TheVariants.{Share as share, Renew as renew, Own as own, Drop as dropped, Victim as victim}
use Rattle.reference_points.specs.Rows.{core, asked, answered, asked_elsewhere, busy, greatest, shared_copy, clean_copy, dirty_copy, shared_line, owned_line, pieces, Places, places, unmoved}
use Rattle.reference_points.specs.Rows.{manager_bytes, writeback_bytes, answer_bytes, given, machine_of, cell, Agree}
use Rattle.reference_points.specs.{Numbers.{idle, waiting, granted}, Commits.{small, narrow}}

-- a state with another capacity
abbrev pub with_cap : ℕ → State → State
with_cap cap s =
    record {
      opening = record { cores = s.opening.cores; lines = s.opening.lines; width = s.opening.width; lease = s.opening.lease; cap = cap };
      core = s.core;
      cell = s.cell;
      line = s.line;
    }

abbrev pub capped : ℕ → Pieces → Places → Machine
capped cap p b = machine (with_cap cap (machine_of 10 p b).state) (machine_of 10 p b).private (machine_of 10 p b).shared

-- a row: the capacity and the pieces before the call; the call; its answer, the pieces and the bytes after it
pub data CapRow : Type 0 where
  row : (cap : ℕ) (before : Pieces) (call : Call) (reply : Reply) (after : Pieces) (bytes : Places) → CapRow

-- a call that changes nothing
abbrev pub still : ℕ → Pieces → Call → Reply → CapRow
still cap p call a = row cap p call a p unmoved

abbrev pub got : CapRow → Outcome
got (row cap before call reply after bytes) = step (capped cap before unmoved) call given

abbrev pub told : CapRow → Outcome
told (row cap before call reply after bytes) = record { reply = reply; machine = capped cap after bytes }

-- the copy of line 2 takes the answer's bytes
abbrev pub brought : Places
brought = places answer_bytes manager_bytes writeback_bytes answer_bytes

-- ---- 31

abbrev pub full_rows : List CapRow
full_rows =
    -- "31, receive of share or own for a line not held, while cap or more copies are held": with room for 3, 2 and 1, where 3 are held
    still 3 (pieces (core 7 9 (answered GrantShare 4 9)) NoCopy (shared_line 4 9)) (Receive 1) (refused 31)
    ∷ still 3 (pieces (core 7 9 (answered GrantOwn 4 9)) NoCopy (owned_line 1 NoRecall)) (Receive 1) (refused 31)
    ∷ still 2 (pieces (core 7 9 (answered GrantShare 4 9)) NoCopy (shared_line 4 9)) (Receive 1) (refused 31)
    ∷ still 1 (pieces (core 7 9 (answered GrantOwn 4 9)) NoCopy (owned_line 1 NoRecall)) (Receive 1) (refused 31)
    -- with room for 4
    ∷ row 4 (pieces (core 7 9 (answered GrantShare 4 9)) NoCopy (shared_line 4 9)) (Receive 1) (done share)
    (pieces (core 7 9 Empty) (shared_copy 4 9) (shared_line 4 9)) brought
    ∷ row 4 (pieces (core 7 9 (answered GrantOwn 4 9)) NoCopy (owned_line 1 NoRecall)) (Receive 1) (done own)
    (pieces (core 7 9 Empty) (clean_copy 4 9) (owned_line 1 NoRecall)) brought
    -- "for a line not held": a line that is held takes no room
    ∷ row 4 (pieces (core 7 9 (answered GrantOwn 4 9)) (shared_copy 2 3) (owned_line 1 NoRecall)) (Receive 1) (done own)
    (pieces (core 7 9 Empty) (clean_copy 4 9) (owned_line 1 NoRecall)) brought
    ∷ row 1 (pieces (core 7 9 (answered GrantShare 4 9)) (shared_copy 2 3) (shared_line 4 9)) (Receive 1) (done share)
    (pieces (core 7 9 Empty) (shared_copy 4 9) (shared_line 4 9)) brought
    ∷ row 2 (pieces (core 7 9 (answered GrantOwn 4 9)) (dirty_copy 2 3) (owned_line 1 NoRecall)) (Receive 1) (done own)
    (pieces (core 7 9 Empty) (clean_copy 4 9) (owned_line 1 NoRecall)) brought
    ∷ row 1 (pieces (core 7 9 (answered GrantOwn 4 9)) (clean_copy 2 3) (owned_line 1 NoRecall)) (Receive 1) (done own)
    (pieces (core 7 9 Empty) (clean_copy 4 9) (owned_line 1 NoRecall)) brought
    ∷ row 1 (pieces (core 7 9 (answered GrantShare 4 9)) (dirty_copy 2 3) (shared_line 4 9)) (Receive 1) (done share)
    (pieces (core 7 9 Empty) (shared_copy 4 9) (shared_line 4 9)) brought
    -- "of share or own": a renewal, whether it comes late or not
    ∷ row 1 (pieces (core 7 9 (answered GrantRenew 4 9)) (shared_copy 4 5) (shared_line 4 9)) (Receive 1) (done renew)
    (pieces (core 7 9 Empty) (shared_copy 4 9) (shared_line 4 9)) unmoved
    ∷ row 1 (pieces (core 7 9 (answered GrantRenew 4 9)) NoCopy (shared_line 4 9)) (Receive 1) (done dropped)
    (pieces (core 7 9 Empty) NoCopy (shared_line 4 9)) unmoved
    ∷ row 1 (pieces (core 7 9 (answered GrantRenew 4 9)) (dirty_copy 2 3) (shared_line 4 9)) (Receive 1) (done dropped)
    (pieces (core 7 9 Empty) (dirty_copy 2 3) (shared_line 4 9)) unmoved
    -- "after 22": they never meet, since only an answered slot brings a copy
    ∷ still 1 idle (Receive 1) (refused 22)
    ∷ still 1 waiting (Receive 1) (refused 22)
    -- 3 and 31: core 3 is answered for line 4, which it does not hold, and holds line 2; 1 and 31: a capacity of 0, or above lines
    ∷ still 1 idle (Receive 3) (refused 3)
    ∷ still 0 granted (Receive 1) (refused 1)
    ∷ still 5 granted (Receive 1) (refused 1)
    ∷ []

-- ---- victim

abbrev pub victim_rows : List CapRow
victim_rows =
    -- "the held line with the smallest rts": of lines 0, 1 and 3; of all four
    still 4 idle (Victim 1) (done (victim 0))
    ∷ still 4 (pieces (core 7 9 Empty) (shared_copy 4 5) (shared_line 4 9)) (Victim 1) (done (victim 0))
    ∷ still 4 (pieces (core 7 9 Empty) (shared_copy 1 3) (shared_line 4 9)) (Victim 1) (done (victim 2))
    ∷ still 4 (pieces (core 7 9 (answered GrantOwn 4 9)) (dirty_copy 2 3) (owned_line 1 NoRecall)) (Victim 1) (done (victim 2))
    ∷ still 4 (pieces (core 7 9 Empty) (clean_copy 0 0) (owned_line 1 NoRecall)) (Victim 1) (done (victim 2))
    -- whatever its wts is: later than its rts, or before line 0's
    ∷ still 4 (pieces (core 7 9 Empty) (shared_copy 9 3) (shared_line 4 9)) (Victim 1) (done (victim 2))
    ∷ still 4 (pieces (core 7 9 Empty) (clean_copy 9 3) (owned_line 1 NoRecall)) (Victim 1) (done (victim 2))
    ∷ still 4 (pieces (core 7 9 Empty) (dirty_copy 9 3) (owned_line 1 NoRecall)) (Victim 1) (done (victim 2))
    ∷ still 4 (pieces (core 7 9 Empty) (shared_copy 1 6) (shared_line 4 9)) (Victim 1) (done (victim 0))
    ∷ still 4 (pieces (core 7 9 Empty) (clean_copy 1 6) (owned_line 1 NoRecall)) (Victim 1) (done (victim 0))
    ∷ still 4 (pieces (core 7 9 Empty) (dirty_copy 1 greatest) (owned_line 1 NoRecall)) (Victim 1) (done (victim 0))
    -- whatever is asked for, recalled or written back
    ∷ still 4 (pieces (core 7 9 (asked WantLoad 7 (Version (stamp 1)))) (shared_copy 1 3) (busy (shared_line 4 9))) (Victim 1) (done (victim 2))
    ∷ still 4 (pieces (core 7 9 asked_elsewhere) (dirty_copy 1 3) (busy (owned_line 1 NoRecall))) (Victim 1) (done (victim 2))
    -- "ties to the smallest line number", whether shared or owned
    ∷ still 4 (pieces (core 7 9 Empty) (shared_copy 1 4) (shared_line 4 9)) (Victim 1) (done (victim 0))
    ∷ still 4 (pieces (core 7 9 Empty) (dirty_copy 4 4) (owned_line 1 NoRecall)) (Victim 1) (done (victim 0))
    -- with more copies than the capacity
    ∷ still 1 (pieces (core 7 9 Empty) (shared_copy 1 3) (shared_line 4 9)) (Victim 1) (done (victim 2))
    -- of the other cores: core 0 holds line 0 up to 8, line 1 up to 2 and line 2 up to 3; core 2 holds line 1 up to 9 and line 2 up to 3
    ∷ still 4 idle (Victim 0) (done (victim 1))
    ∷ still 4 idle (Victim 2) (done (victim 2))
    -- 3; 1
    ∷ still 4 idle (Victim 3) (refused 3)
    ∷ still 0 idle (Victim 1) (refused 1)
    ∷ still 5 idle (Victim 1) (refused 1)
    ∷ []

-- "a core without copies gets 26": a fresh engine; one whose core 0 has a copy of line 3 alone, which lies outside its sizes
abbrev pub outside_only : Machine
outside_only =
    machine (record { opening = small; core = (fresh_state small).core; cell = set (fresh_state small).cell 3 (cell (shared_copy 1 2)); line = (fresh_state small).line })
    (fresh_machine small).private (fresh_machine small).shared

abbrev pub stays : Machine → Reply → Outcome
stays m a = record { reply = a; machine = m }

-- a machine of which core 1 holds line 0 up to 5, line 1, owned, up to 5, and line 2 up to 4
abbrev pub three_held : Machine
three_held =
    machine (record { opening = small; core = (fresh_state small).core; cell = set (set (set (fresh_state small).cell 64 (cell (shared_copy 1 5))) 65 (cell (dirty_copy 5 5))) 66 (cell (shared_copy 1 4)); line = (fresh_state small).line })
    (fresh_machine small).private (fresh_machine small).shared

-- of equal rts: line 0, owned, with the later wts, and line 1
abbrev pub tied : Machine
tied =
    machine (record { opening = small; core = (fresh_state small).core; cell = set (set (fresh_state small).cell 64 (cell (dirty_copy 2 5))) 65 (cell (shared_copy 1 5)); line = (fresh_state small).line })
    (fresh_machine small).private (fresh_machine small).shared

-- room for one copy: core 1 holds line 1 alone; its copy of line 3, which ends sooner, lies outside the sizes
abbrev pub one_held : Machine
one_held =
    machine (record { opening = narrow; core = (fresh_state small).core; cell = set (set (fresh_state small).cell 65 (cell (dirty_copy 5 5))) 67 (cell (shared_copy 0 0)); line = (fresh_state small).line })
    (fresh_machine small).private (fresh_machine small).shared

pub record CapacityRowsTheorem : Type 0 where
  pub full : Agree got told full_rows
  pub victims : Agree got told victim_rows
  pub fresh : step (fresh_machine small) (Victim 1) [] ≡ stays (fresh_machine small) (refused 26)
  pub outside : step outside_only (Victim 0) [] ≡ stays outside_only (refused 26)
  pub of_three : step three_held (Victim 1) [] ≡ stays three_held (done (victim 2))
  pub of_none : step three_held (Victim 0) [] ≡ stays three_held (refused 26)
  pub tie : step tied (Victim 1) [] ≡ stays tied (done (victim 0))
  pub of_one : step one_held (Victim 1) [] ≡ stays one_held (done (victim 1))
  pub empty : step one_held (Receive 1) [] ≡ stays one_held (refused 22)
  -- CapacityTheorem, of core 1 of an engine with room for one copy
  pub most : (gs : List Entry) (p : ℕ) → copies_of (run (take p gs) 1 (fresh_machine narrow)).last.state 1 ≤ 1
