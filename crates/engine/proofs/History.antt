-- The calls made on an engine are a run of `step`, so what holds of the commits of every run holds of theirs: demand 3, and 02's Seven.
use Prim.Native.Nat.{ℕ, suc}
use mathlib.Core.{Path.{◌≡◌, refl, sym, ◌∙◌, ap, ap₂}, Bool.{Bool, true, false}, List.{List, [], ◌∷◌}}
use native.Mathlib.Omega.{arith}
use lib.Dec.{eqb}
use borrow.Author.Tests.{eqb-true}
use Rattle.protocol.specs.{Pick.pick, Machine.{Machine, fresh_machine}, Refusals.open_refusal, Step.{Reply, refused, done, meaning}}
use Rattle.protocol.specs.{declared.Name.TheVariants.Open, Buffers.Bytes, Run.{Entry, Record, place, run, Commit}, Order.{OfEveryRun, OneTsoOrder}, Sequential.SequentialIfFenced}
use Rattle.protocol.proofs.Order.{Theorem.{open_theorem, order_theorem, sort_theorem}, Sequential.sequential_theorem}
use Rattle.engine.specs.History.{Made, MadeFrom, none, next, records_of, OfEveryHistory, HistoryTheorem, SequentialHistoryTheorem}

-- what the calls were given
entries : List Made → List Entry
entries [] = []
entries (e ∷ es) = e.entry ∷ entries es

-- the records of the calls are those of the run of what they were given
records_run : {m : Machine} (es : List Made) (p : ℕ) → MadeFrom m es → records_of es p ≡ (run (entries es) p m).records
unfolding records_of run entries
records_run [] p none = refl
records_run (e ∷ es) p (next h made) =
    ap₂ (λ (a : Reply) (rs : List Record). record { place = place p; entry = e.entry; reply = a } ∷ rs) h.reply
    (records_run es (suc p) made ∙ ap (λ (m : Machine). (run (entries es) (suc p) m).records) h.machine)

-- an opening that is answered by its name is not refused
accepted : (n : ℕ) (b : Bool) → eqb n 0 ≡ b → pick b (done Open) (refused n) ≡ done Open → n ≡ 0
accepted n true e h = eqb-true n 0 e
accepted n false e h = absurd (let z : ◌≡◌ {A = ℕ} 0 1 = cc in omega arith)

-- what holds of the commits of every run holds of those of every history
of_runs : (Claim : Bytes → List (Commit Bytes) → Type 0) → OfEveryRun Claim → OfEveryHistory Claim
unfolding meaning
of_runs Claim f o r w a es made =
    let z : open_refusal o ≡ 0 = accepted (open_refusal o) _ refl (sym w.reply ∙ ap (λ x. meaning x []) a) in
    let s : r.state ≡ (fresh_machine o).state = w.state ∙ open_theorem o z in
    let d : MadeFrom (fresh_machine o) es = rw s at made in
    rw (records_run es 1 d) (f o z (entries es))

pub history_theorem : HistoryTheorem
history_theorem = of_runs OneTsoOrder (λ o z gs. (sort_theorem o gs, order_theorem o z gs))

pub sequential_history_theorem : SequentialHistoryTheorem
sequential_history_theorem = of_runs SequentialIfFenced sequential_theorem
