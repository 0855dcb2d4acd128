-- Demand 3 of the engine's own functions, and 02's Seven, by what they promise alone: the answer of `open`, zeroed buffers, and calls made one
-- after the other. The commits are read off what the calls returned.
use Rattle.std.specs.Prelude.{ℕ, suc}
use mathlib.Core.{Path.◌≡◌, List.{List, [], ◌∷◌}}
use Rattle.std.specs.Prelude.{replicate}
use Rattle.protocol.specs.{Buffers.{Bytes, part, private_length, shared_length}, Machine.{Machine, machine}, Step.{Reply, meaning}}
use Rattle.protocol.specs.{Run.{Entry, Record, place, Commit, commits}, Order.OneTsoOrder, Sequential.SequentialIfFenced, declared.Opening.Opening}
use Rattle.protocol.specs.declared.{Answer.TheVariants.Done as Named, Name.TheVariants.Open}
use Rattle.engine.specs.{declared.{Returned.Returned, Opened.Opened}, Calls.{Opens, Performs}}

-- a call that was made: the call with what is given to it, what it returned, and both buffers as it left them
pub record Made : Type 0 where
  pub entry : Entry
  pub returned : Returned
  pub private : Bytes
  pub shared : Bytes

-- the state that it returned and the buffers that it left
abbrev pub left : Made → Machine
left e = machine e.returned.state e.private e.shared

-- calls made one after the other, the first on the machine m: "Each call gets the state and both buffers that the call before returned".
-- `Performs` is what `step` and the functions of the calls ensure: of the state and the buffers that it got, its call and what is given to it, what it
-- returned, and the buffers on its return
pub data MadeFrom : Machine → List Made → Type 0 where
  none : {m : Machine} → MadeFrom m []
  next :
      {m : Machine} {e : Made} {es : List Made}
      → Performs m e.entry.call e.entry.given e.returned e.private e.shared → MadeFrom (left e) es → MadeFrom m (e ∷ es)

-- what a call answered, in the scope document's terms; a commit's bytes are read where the call says that they lie, in the private buffer as
-- it left it
abbrev pub answered : Made → Reply
answered e = meaning e.returned.answer (part e.private e.returned.start e.returned.count)

-- the records of calls made one after the other; the first one's place is p
unfoldable pub records_of : List Made → ℕ → List Record
records_of [] p = []
records_of (e ∷ es) p = record { place = place p; entry = e.entry; reply = answered e } ∷ records_of es (suc p)

-- their commits; the first call's place is 1
abbrev pub history : List Made → List (Commit Bytes)
history es = commits (records_of es 1)

-- what the first call gets: the state that `open` returned, and zeroed buffers of the opening's lengths
abbrev pub zeroed : Opening → Opened → Machine
zeroed o r = machine r.state (replicate (private_length o) 0) (replicate (shared_length o) 0)

-- a claim about zeros of the width and a list of commits, for every opening that `open` answered with `Open` and all calls made on it
abbrev pub OfEveryHistory : (Bytes → List (Commit Bytes) → Type 0) → Type 0
OfEveryHistory Claim =
    (o : Opening) (r : Opened) → Opens o r → r.answer ≡ Named Open → (es : List Made) → MadeFrom (zeroed o r) es
    → Claim (replicate o.width 0) (history es)

-- demand 3: the commits have one sorted order, and it obeys TSO
abbrev pub HistoryTheorem : Type 0
HistoryTheorem = OfEveryHistory OneTsoOrder

-- Seven: with a fence between each store and its core's next load, the sorted order is sequentially consistent
abbrev pub SequentialHistoryTheorem : Type 0
SequentialHistoryTheorem = OfEveryHistory SequentialIfFenced
