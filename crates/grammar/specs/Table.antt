-- The grammar of 01, "Journal and driver": the first line and the step lines; and of 02, Two and Four, the form `fabric=2`. Assumes nothing.
use Prim.Native.{Nat.{ℕ, zero, suc, ◌+◌}, String.String}
use Rattle.std.specs.{Prelude.{List, [], ◌∷◌, ◌++◌, get_or}, declared.ops.Range.Range}
use Rattle.spelling.specs.Text.{text}
use Rattle.protocol.specs.declared.{Opening.Opening as Sizes, Given.TheVariants.Digits}
use Rattle.protocol.specs.declared.Call.{Call, TheVariants.{Load, Store, Fence, Evict, Drop, Writeback, Advance, Serve, Receive, Yield, Take, Victim}}
use Rattle.grammar.specs.Form.{Part, parts}

-- the numbers of a line, in their order: n 0 is the first
abbrev pub Numbered : Type 0
Numbered = ℕ → ℕ

-- what a line says: it opens an engine in a journal of some form, or it makes a call
pub data Says : Type 0 where
  opens : ℕ → Sizes → Says
  calls : Call → Says

-- a row of the grammar: a form, and what a line of that form says, given its numbers
pub record Row : Type 0 where
  pub form : List Part
  pub says : Numbered → Says

abbrev pub row : String → (Numbered → Says) → Row
row t f = record { form = parts (text t); says = f }

-- what the numbers of a first line say, with a capacity
abbrev pub sizes : Numbered → ℕ → Sizes
sizes n cap = record { cores = n 0; lines = n 1; width = n 2; lease = n 3; cap = cap }

-- THE FIRST LINES. "`fabric=2` gains `cap=N` after lease, is 11 without it from now on, and `fabric=1` means cap = lines"
abbrev pub first_opening : Row
first_opening = row "fabric=1 cores=N lines=N width=N lease=N" (λ n. opens 1 (sizes n (n 1)))

abbrev pub second_opening : Row
second_opening = row "fabric=2 cores=N lines=N width=N lease=N cap=N" (λ n. opens 2 (sizes n (n 4)))

abbrev pub openings : List Row
openings = first_opening ∷ second_opening ∷ []

-- THE STEPS of every form of journal. A store is given the digits of its `data=`
abbrev pub load_row : Row
load_row = row "op=load core=N line=N" (λ n. calls (Load (n 0) (n 1)))

abbrev pub store_row : Row
store_row = row "op=store core=N line=N data=H" (λ n. calls (Store Digits (n 0) (n 1)))

abbrev pub fence_row : Row
fence_row = row "op=fence core=N" (λ n. calls (Fence (n 0)))

abbrev pub serve_row : Row
serve_row = row "op=serve core=N" (λ n. calls (Serve (n 0)))

abbrev pub receive_row : Row
receive_row = row "op=receive core=N" (λ n. calls (Receive (n 0)))

abbrev pub advance_row : Row
advance_row = row "op=advance core=N by=N" (λ n. calls (Advance (n 0) (n 1)))

abbrev pub yield_row : Row
yield_row = row "op=yield line=N" (λ n. calls (Yield (n 0)))

abbrev pub take_row : Row
take_row = row "op=take line=N" (λ n. calls (Take (n 0)))

abbrev pub steps : List Row
steps = load_row ∷ store_row ∷ fence_row ∷ serve_row ∷ receive_row ∷ advance_row ∷ yield_row ∷ take_row ∷ []

-- the step of `fabric=1` alone
abbrev pub evict_row : Row
evict_row = row "op=evict core=N line=N" (λ n. calls (Evict (n 0) (n 1)))

abbrev pub evict_step : List Row
evict_step = evict_row ∷ []

-- "A first line `fabric=2`, same keys, has these two steps in place of evict"; "A new call and `fabric=2` step, `op=victim core=N`"
abbrev pub drop_row : Row
drop_row = row "op=drop core=N line=N" (λ n. calls (Drop (n 0) (n 1)))

abbrev pub writeback_row : Row
writeback_row = row "op=writeback core=N line=N" (λ n. calls (Writeback (n 0) (n 1)))

abbrev pub victim_row : Row
victim_row = row "op=victim core=N" (λ n. calls (Victim (n 0)))

abbrev pub second_steps : List Row
second_steps = drop_row ∷ writeback_row ∷ victim_row ∷ []

-- the rows that a line may have: in form 0 the first line is due; form 1 is `fabric=1`, form 2 `fabric=2`; there is no other yet
abbrev pub rows_of : ℕ → List Row
rows_of zero = openings
rows_of (suc zero) = evict_step ++ steps
rows_of (suc (suc zero)) = steps ++ second_steps
rows_of (suc (suc (suc f))) = []

-- what is past the rows; no definition looks there
abbrev pub no_row : Row
no_row = record { form = []; says = λ n. opens 0 (sizes (λ i. 0) 0) }

-- the row at an index of a table
abbrev pub row_at : List Row → ℕ → Row
row_at rows k = get_or rows k no_row

-- ---- the rows as the code has them: one table, and a part of it for each form of journal

-- all rows, in the order of the code's table: the rows of each form are one part of it, and the first lines are last, so that a new one moves
-- no other row
abbrev pub table : List Row
table = evict_step ++ steps ++ second_steps ++ openings

-- how many numbers a line has at most, where the steps of `fabric=2` alone start, and how many of the rows are steps and first lines
abbrev pub number_count : ℕ
number_count = 5

abbrev pub second_start : ℕ
second_start = 9

abbrev pub step_count : ℕ
step_count = 12

abbrev pub opening_count : ℕ
opening_count = 2

abbrev pub row_count : ℕ
row_count = step_count + opening_count

-- the rows of a form of journal are those from one up to another; no form is known beyond the last
abbrev pub range_of : ℕ → Range ℕ
range_of zero = record { start = step_count; end = row_count }
range_of (suc zero) = record { start = 0; end = second_start }
range_of (suc (suc zero)) = record { start = 1; end = step_count }
range_of (suc (suc (suc f))) = record { start = 0; end = 0 }
