-- The steps of a journal in the other form (02, Five).
use Rattle.std.specs.Prelude.{ℕ}
use mathlib.Core.{Bool.Bool, List.{List, [], ◌∷◌}}
use Rattle.std.specs.Prelude.{ltb}
use Rattle.protocol.specs.{Pick.{pick, both}, Copies.is_owned, Machine.{Machine, copy_at}, Step.step, Run.Entry, declared.State.State}
use Rattle.protocol.specs.declared.Call.{Call, TheVariants.{Load, Store, Fence, Evict, Drop, Writeback, Advance, Serve, Receive, Yield, Take, Victim}}
use Rattle.convert.specs.declared.To.{To, TheVariants.{First, Second}}

-- the core holds an owned copy of the line; a core or a line that is not there has none
abbrev pub owns_copy : State → ℕ → ℕ → Bool
owns_copy s c l = both (ltb c s.opening.cores) (both (ltb l s.opening.lines) (is_owned (copy_at s c l)))

-- "From 1 to 2: .. evict becomes writeback if the core then holds an owned copy, else drop"; every other step stays
abbrev pub in_second : State → Call → Call
in_second s (Load c l) = Load c l
in_second s (Store g c l) = Store g c l
in_second s (Fence c) = Fence c
in_second s (Evict c l) = pick (owns_copy s c l) (Writeback c l) (Drop c l)
in_second s (Drop c l) = Drop c l
in_second s (Writeback c l) = Writeback c l
in_second s (Advance c by) = Advance c by
in_second s (Serve c) = Serve c
in_second s (Receive c) = Receive c
in_second s (Yield l) = Yield l
in_second s (Take l) = Take l
in_second s (Victim c) = Victim c

-- "From 2 to 1: drop and writeback become evict"; every other step stays
abbrev pub in_first : Call → Call
in_first (Load c l) = Load c l
in_first (Store g c l) = Store g c l
in_first (Fence c) = Fence c
in_first (Evict c l) = Evict c l
in_first (Drop c l) = Evict c l
in_first (Writeback c l) = Evict c l
in_first (Advance c by) = Advance c by
in_first (Serve c) = Serve c
in_first (Receive c) = Receive c
in_first (Yield l) = Yield l
in_first (Take l) = Take l
in_first (Victim c) = Victim c

-- a step in a form, by the state that it meets
abbrev pub in_form : To → State → Call → Call
in_form First s call = in_first call
in_form Second s call = in_second s call

-- THE STEPS in the other form, each by the state that it meets in the run of the steps from the machine m
unfoldable pub converted : To → List Entry → Machine → List Entry
converted to [] m = []
converted to (g ∷ gs) m =
    record { call = in_form to m.state g.call; given = g.given } ∷ converted to gs (step m g.call g.given).machine
