-- A journal as its opening and its steps spell it: each line is the text of a row of the grammar, with the numbers in decimal and the data in
-- hex. Assumes nothing.
use Rattle.std.specs.Prelude.{ℕ, List, [], ◌∷◌, ◌++◌}
use Rattle.protocol.specs.{Buffers.Bytes, Run.Entry, declared.Opening.Opening as Sizes}
use Rattle.protocol.specs.declared.Call.{Call, TheVariants.{Load, Store, Fence, Evict, Drop, Writeback, Advance, Serve, Receive, Yield, Take, Victim}}
use Rattle.spelling.specs.Hex.{unhex}
use Rattle.grammar.specs.{Form.spell, Table.{Row, first_opening, second_opening, load_row, store_row, fence_row, evict_row, drop_row, writeback_row}}
use Rattle.grammar.specs.Table.{advance_row, serve_row, receive_row, yield_row, take_row, victim_row}
use Rattle.convert.specs.declared.To.{To, TheVariants.{First, Second}}

-- the row of the grammar that has a call
abbrev pub row_of : Call → Row
row_of (Load c l) = load_row
row_of (Store g c l) = store_row
row_of (Fence c) = fence_row
row_of (Evict c l) = evict_row
row_of (Drop c l) = drop_row
row_of (Writeback c l) = writeback_row
row_of (Advance c by) = advance_row
row_of (Serve c) = serve_row
row_of (Receive c) = receive_row
row_of (Yield l) = yield_row
row_of (Take l) = take_row
row_of (Victim c) = victim_row

-- the numbers of its line, in their order
abbrev pub numbers_of : Call → List ℕ
numbers_of (Load c l) = c ∷ l ∷ []
numbers_of (Store g c l) = c ∷ l ∷ []
numbers_of (Fence c) = c ∷ []
numbers_of (Evict c l) = c ∷ l ∷ []
numbers_of (Drop c l) = c ∷ l ∷ []
numbers_of (Writeback c l) = c ∷ l ∷ []
numbers_of (Advance c by) = c ∷ by ∷ []
numbers_of (Serve c) = c ∷ []
numbers_of (Receive c) = c ∷ []
numbers_of (Yield l) = l ∷ []
numbers_of (Take l) = l ∷ []
numbers_of (Victim c) = c ∷ []

-- the line of a step, newline not counted; ds are the digits of its data
abbrev pub step_line : Call → Bytes → Bytes
step_line call ds = spell (row_of call).form (numbers_of call) (unhex ds)

-- the first line of a journal of a form
abbrev pub opening_line : To → Sizes → Bytes
opening_line First o = spell first_opening.form (o.cores ∷ o.lines ∷ o.width ∷ o.lease ∷ []) []
opening_line Second o = spell second_opening.form (o.cores ∷ o.lines ∷ o.width ∷ o.lease ∷ o.cap ∷ []) []

-- the lines of steps, each with its newline (10)
unfoldable pub step_lines : List Entry → Bytes
step_lines [] = []
step_lines (g ∷ gs) = step_line g.call g.given ++ (10 ∷ step_lines gs)

-- THE JOURNAL of a form with this opening and these steps
abbrev pub journal_of : To → Sizes → List Entry → Bytes
journal_of to o gs = opening_line to o ++ (10 ∷ step_lines gs)
