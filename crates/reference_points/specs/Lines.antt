-- Which call each line of the journal's grammar says, and lines that are refused with 10 to 13 (01, "Journal and driver"; 02, Two and Four).
use Rattle.std.specs.Prelude.{ℕ, Result, Ok, Err, List, [], ◌∷◌, ◌++◌, replicate}
use mathlib.Core.Path.{◌≡◌}
use Rattle.protocol.specs.declared.Call.TheVariants.{Load, Store, Fence, Evict, Drop, Writeback as WriteBack, Advance, Serve, Receive, Yield, Take, Victim}
use Rattle.protocol.specs.declared.Given.TheVariants.{Digits as AsDigits}
use Rattle.spelling.specs.Text.{text}
use Rattle.grammar.specs.{Table.rows_of, Line.LineOf, Refusal.number, declared.{Line.{Line, TheVariants.{Opening, Step}}, Refusal.Refusal}}
use Rattle.reference_points.specs.{Rows.Each, Numbers.opening}

-- a line of a journal, where the first line is due (form 0) or after `fabric=1` (form 1) or `fabric=2` (form 2), and what it says. A step's data
-- are from one offset of the line up to another; a step without data has none at the line's end. A line that is refused has the refusal's number
pub data Spoken : Type 0 where
  spoken : (form : ℕ) (line : List ℕ) (says : Result Line ℕ) → Spoken

-- the line says so, or is refused with this number
abbrev pub Says : Spoken → Type 0
Says (spoken form s (Ok a)) = LineOf (rows_of form) s (Ok a)
Says (spoken form s (Err n)) = (r : Refusal) × (number r ≡ n) × LineOf (rows_of form) s (Err r)

-- the steps of every form of journal: "`op=` load, ..: `core=N line=N`; store: `core=N line=N data=H`; fence, serve, receive: `core=N`; advance:
-- `core=N by=N`; yield, take: `line=N`"
abbrev pub step_lines : ℕ → List Spoken
step_lines form =
    spoken form (text "op=load core=3 line=4") (Ok (Step (Load 3 4) 21 21))
    ∷ spoken form (text "op=store core=3 line=4 data=07ff") (Ok (Step (Store AsDigits 3 4) 28 32))
    ∷ spoken form (text "op=fence core=3") (Ok (Step (Fence 3) 15 15))
    ∷ spoken form (text "op=serve core=3") (Ok (Step (Serve 3) 15 15))
    ∷ spoken form (text "op=receive core=3") (Ok (Step (Receive 3) 17 17))
    ∷ spoken form (text "op=advance core=3 by=4294967295") (Ok (Step (Advance 3 4294967295) 31 31))
    ∷ spoken form (text "op=yield line=3") (Ok (Step (Yield 3) 15 15))
    ∷ spoken form (text "op=take line=3") (Ok (Step (Take 3) 14 14))
    ∷ []

-- what each form has of its own, and what no form has
abbrev pub other_lines : List Spoken
other_lines =
    -- "First line `fabric=1 cores=N lines=N width=N lease=N`, then one step a line, single blanks: `op=` load, evict: `core=N line=N`"
    spoken 0 (text "fabric=1 cores=2 lines=3 width=4 lease=5") (Ok (Opening 1 (opening 2 3 4 5 3)))
    ∷ spoken 1 (text "op=evict core=3 line=4") (Ok (Step (Evict 3 4) 22 22))
    -- "A first line `fabric=2`, same keys, has these two steps in place of evict"
    ∷ spoken 0 (text "fabric=2 cores=2 lines=3 width=4 lease=5 cap=6") (Ok (Opening 2 (opening 2 3 4 5 6)))
    ∷ spoken 2 (text "op=drop core=3 line=4") (Ok (Step (Drop 3 4) 21 21))
    ∷ spoken 2 (text "op=writeback core=3 line=4") (Ok (Step (WriteBack 3 4) 26 26))
    ∷ spoken 2 (text "op=victim core=3") (Ok (Step (Victim 3) 16 16))
    -- 02, Four: "`fabric=2` gains `cap=N` after lease, is 11 without it from now on, and `fabric=1` means cap = lines"
    ∷ spoken 0 (text "fabric=2 cores=2 lines=3 width=4 lease=5") (Err 11)
    ∷ spoken 0 (text "fabric=2 cores=2 lines=3 width=4 cap=6 lease=5") (Err 11)
    ∷ spoken 0 (text "fabric=1 cores=2 lines=3 width=4 lease=5 cap=3") (Err 11)
    -- the other form's steps, its first line, and a first line again
    ∷ spoken 1 (text "op=drop core=3 line=4") (Err 11)
    ∷ spoken 1 (text "op=writeback core=3 line=4") (Err 11)
    ∷ spoken 1 (text "op=victim core=3") (Err 11)
    ∷ spoken 2 (text "op=victim core=3 line=4") (Err 11)
    ∷ spoken 2 (text "op=evict core=3 line=4") (Err 11)
    ∷ spoken 1 (text "fabric=2 cores=2 lines=3 width=4 lease=5 cap=6") (Err 11)
    ∷ spoken 2 (text "fabric=1 cores=2 lines=3 width=4 lease=5") (Err 11)
    ∷ spoken 2 (text "fabric=2 cores=2 lines=3 width=4 lease=5 cap=6") (Err 11)
    -- a wrong number in them
    ∷ spoken 2 (text "op=drop core=3 line=") (Err 12)
    ∷ spoken 2 (text "op=writeback core=03 line=4") (Err 12)
    ∷ spoken 2 (text "op=victim core=x") (Err 12)
    ∷ spoken 0 (text "fabric=2 cores=2 lines=3 width=4 lease=x cap=6") (Err 12)
    ∷ spoken 0 (text "fabric=2 cores=2 lines=3 width=4 lease=5 cap=06") (Err 12)
    -- "`fabric=1` and the step kind are fixed text, so anything else there is 11"; so are an empty line, another key and a step where the first
    -- line is due
    ∷ spoken 1 (text "op=jump core=3") (Err 11)
    ∷ spoken 1 (text "op=fetch core=3") (Err 11)
    ∷ spoken 1 (text "op= core=3") (Err 11)
    ∷ spoken 1 (text "op=yield core=3") (Err 11)
    ∷ spoken 1 (text "op=take") (Err 11)
    ∷ spoken 1 (text "fabric=1 cores=2 lines=3 width=4 lease=5") (Err 11)
    ∷ spoken 1 [] (Err 11)
    ∷ spoken 1 (replicate 200 97) (Err 11)
    ∷ spoken 0 (text "fabric=9 cores=2 lines=3 width=4 lease=5") (Err 11)
    ∷ spoken 0 (text "op=load core=3 line=4") (Err 11)
    -- "10 line over 200 bytes"
    ∷ spoken 1 (replicate 201 97) (Err 10)
    -- "12 number without digits, with another byte, with a leading zero (0 itself is fine) or above 4,294,967,295"; it goes before 13
    ∷ spoken 1 (text "op=load core= line=0") (Err 12)
    ∷ spoken 1 (text "op=load core=1x line=0") (Err 12)
    ∷ spoken 1 (text "op=load core=x1 line=0") (Err 12)
    ∷ spoken 1 (text "op=load core=01 line=0") (Err 12)
    ∷ spoken 1 (text "op=load core=0 line=00") (Err 12)
    ∷ spoken 1 (text "op=load core=4294967296 line=0") (Err 12)
    ∷ spoken 1 (text "op=advance core=0 by=10000000000") (Err 12)
    ∷ spoken 1 (text "op=store core=0 line=f data=0A") (Err 12)
    ∷ spoken 0 (text "fabric=1 cores=2 lines=3 width=4 lease=") (Err 12)
    -- "13 data empty, odd in count, or not 0-9 a-f"
    ∷ spoken 1 (text "op=store core=3 line=4 data=") (Err 13)
    ∷ spoken 1 (text "op=store core=3 line=4 data=0") (Err 13)
    ∷ spoken 1 (text "op=store core=3 line=4 data=000") (Err 13)
    ∷ spoken 1 (text "op=store core=3 line=4 data=0A") (Err 13)
    ∷ spoken 1 (text "op=store core=3 line=4 data=g0") (Err 13)
    ∷ spoken 1 (text "op=store core=3 line=4 data=0g") (Err 13)
    ∷ spoken 1 (text "op=store core=3 line=4 data=0/") (Err 13)
    ∷ []

abbrev pub spoken_lines : List Spoken
spoken_lines = step_lines 1 ++ step_lines 2 ++ other_lines

abbrev pub LinesTheorem : Type 0
LinesTheorem = Each Says spoken_lines
