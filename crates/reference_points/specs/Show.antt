-- What `show` gives, by 01: "the line's bytes as a part of the private buffer if that core holds a copy, else as a part of the shared buffer, the
-- manager line's place. .. under 1 to 4 it gives the empty part at the start of the shared buffer."
use Rattle.std.specs.Prelude.{ℕ, List, [], ◌∷◌, drop}
use Rattle.protocol.specs.{Machine.{Machine, machine}, Step.{Buffer, in_private, in_shared, Shown, shown}}
use Rattle.protocol.specs.declared.{Copy.{Copy, TheVariants.None as NoCopy}, Slot.TheVariants.Empty}
use Rattle.reference_points.specs.Rows.{core, shared_copy, clean_copy, dirty_copy, shared_line, pieces, unmoved, private, shared, Agree}
use Rattle.reference_points.specs.Numbers.{usual, idle, shortened, misowned}

-- a machine, a core and a line, and the part that is shown: its buffer, start and end
pub data Look : Type 0 where
  look : (on : Machine) (core line : ℕ) (buffer : Buffer) (start end : ℕ) → Look

-- the machine of the rows, where core 1 has this copy of line 2
abbrev pub holding : Copy → Machine
holding x = usual (pieces (core 7 9 Empty) x (shared_line 4 9))

abbrev pub looks : List Look
looks =
    -- a copy is held: "the copy of core c, line l starts at (c × lines + l) × width"
    look (holding (shared_copy 4 9)) 1 2 in_private 30 35
    ∷ look (holding (clean_copy 4 9)) 1 2 in_private 30 35
    ∷ look (holding (dirty_copy 4 9)) 1 2 in_private 30 35
    ∷ look (holding NoCopy) 1 0 in_private 20 25
    ∷ look (holding NoCopy) 0 1 in_private 5 10
    ∷ look (holding NoCopy) 2 1 in_private 45 50
    -- none is held: "manager line l at l × width"
    ∷ look (holding NoCopy) 1 2 in_shared 10 15
    ∷ look (holding (shared_copy 4 9)) 2 0 in_shared 0 5
    ∷ look (holding (shared_copy 4 9)) 0 3 in_shared 15 20
    -- 3, 4, 2 and 1
    ∷ look (holding NoCopy) 3 2 in_shared 0 0
    ∷ look (holding NoCopy) 1 4 in_shared 0 0
    ∷ look (shortened (usual idle)) 1 2 in_shared 0 0
    ∷ look (machine (usual idle).state (private unmoved) (drop 1 (shared unmoved))) 0 1 in_shared 0 0
    ∷ look (misowned (usual idle)) 0 1 in_shared 0 0
    ∷ []

abbrev pub is_shown : Look → Shown
is_shown (look m c l b start end) = shown m c l

abbrev pub is_told : Look → Shown
is_told (look m c l b start end) = record { buffer = b; start = start; end = end }

abbrev pub ShowTheorem : Type 0
ShowTheorem = Agree is_shown is_told looks
