-- Demand 3, the sorted order.
--
-- Sort the commits of a run by timestamp, ties by place in the list. This one order obeys total store order (TSO):
--
--   order  Of two commits of one core, the one made earlier is first, unless it is a store and the other a load.
--   reads  A load gives the bytes of the last store to its line, among the stores that precede the load in the sorted order and those that
--          its own core made earlier; zeros where there is none. Of several stores the last is the one that all the others precede.
--
-- `OrderTheorem` claims it for every opening that is accepted and every list of calls, with any numbers and any bytes, refused calls
-- included. `SortTheorem` claims that the order is one: of each two commits of a run one precedes the other.
--
-- `Obeys` is the one statement of a memory model, over which pairs of a core's commits keep their order, which writes a read may see, and what
-- a cell of memory is. TSO by line is its instance here; another pair, another cell or another value is another instance.
use Rattle.std.specs.Prelude.{ℕ, ◌<◌}
use mathlib.Core.{Path.◌≡◌, Bool.true, Logic.◌⊎◌, List.{List, ◌∷◌}}
use Rattle.std.specs.Prelude.{replicate}
use Rattle.protocol.specs.{Stamps.{Precedes, precedes}, Buffers.Bytes, Machine.fresh_machine, Refusals.open_refusal}
use Rattle.protocol.specs.{Step.{Op, load, store, fence, opened}, Run.{Entry, run, Commit, commits}, declared.{Key.Key, Opening.Opening}}

-- a is in the list
pub data In {A : Type 0} (a : A) : List A → Type 0 where
  here : {x : A} {xs : List A} → a ≡ x → In a (x ∷ xs)
  there : {x : A} {xs : List A} → In a xs → In a (x ∷ xs)

-- what a commit is sorted by: its timestamp, and its place
abbrev pub key : {A : Type 0} → Commit A → Key
key e = record { 0 = e.ts; 1 = e.place }

-- a is before b in the sorted order
abbrev pub Before : {A : Type 0} → Commit A → Commit A → Type 0
Before a b = Precedes (key a) (key b)

-- "Made earlier means at a smaller place."
abbrev pub Earlier : {A : Type 0} → Commit A → Commit A → Type 0
Earlier a b = a.place.0 < b.place.0

-- which commits of one core keep the order that they were made in: all but a store and then a load
abbrev pub TsoKeeps : {A : Type 0} → Op A → Op A → Type 0
TsoKeeps (load l x) b = Unit {0}
TsoKeeps fence b = Unit {0}
TsoKeeps (store l x) (load m y) = ⊥
TsoKeeps (store l x) (store m y) = Unit {0}
TsoKeeps (store l x) fence = Unit {0}

-- the commit stores x to line l
abbrev pub Stores : {A : Type 0} → ℕ → Commit A → A → Type 0
Stores l e x = e.op ≡ store l x

-- the commit loads x from line l
abbrev pub Loads : {A : Type 0} → ℕ → Commit A → A → Type 0
Loads l e x = e.op ≡ load l x

-- a store s that the load e may see: it precedes the load, or the load's core made it earlier
abbrev pub MaySee : {A : Type 0} → Commit A → Commit A → Type 0
MaySee e s = Before s e ⊎ ((s.core ≡ e.core) × Earlier s e)

-- x is what the last of the writes that meet K wrote, the one that all the others precede; `zero` where no write meets K.
-- `Writes s y`: the commit s writes y
abbrev pub LastWrite : {A X : Type 0} → List (Commit A) → (Commit A → X → Type 0) → (Commit A → Type 0) → X → X → Type 0
LastWrite {A} {X} H Writes K zero x =
    ((s : Commit A) × In s H × Writes s x × K s × ((s' : Commit A) → In s' H → (y : X) → Writes s' y → K s' → (s' ≡ s) ⊎ Before s' s))
    ⊎ (((s : Commit A) → In s H → (y : X) → Writes s y → K s → ⊥) × (x ≡ zero))

-- the sorted order of these commits obeys a memory model.
--   Keeps a b      of two commits of one core that did a and then b, the second is after the first
--   Sees e s       a read by e may see a write by s
--   Reads i e x    the commit e reads x at the cell i of memory; `Writes i e x`, it writes x there
--   zero           what a cell holds before the first write
pub record Obeys {A C X : Type 0} (Keeps : Op A → Op A → Type 0) (Sees : Commit A → Commit A → Type 0) (Reads Writes : C → Commit A → X → Type 0)
    (zero : X) (H : List (Commit A)) : Type 0 where
  pub order : (a b : Commit A) → In a H → In b H → a.core ≡ b.core → Earlier a b → Keeps a.op b.op → Before a b
  pub reads : (e : Commit A) → In e H → (i : C) (x : X) → Reads i e x → LastWrite H (Writes i) (Sees e) zero x

-- TSO: a cell is a line
abbrev pub TSO : {A : Type 0} → A → List (Commit A) → Type 0
TSO = Obeys TsoKeeps MaySee Loads Stores

-- the commits of a list of calls on the fresh engine of an opening; the first call's place is 1
abbrev pub commits_of : Opening → List Entry → List (Commit Bytes)
commits_of o gs = commits (run gs 1 (fresh_machine o)).records

-- an opening that is accepted gives the state that the runs start from
abbrev pub OpenTheorem : Type 0
OpenTheorem = (o : Opening) → open_refusal o ≡ 0 → opened o ≡ (fresh_machine o).state

-- a claim about zeros of the width and a list of commits, for every opening that `open` accepts and every list of calls on it
abbrev pub OfEveryRun : (Bytes → List (Commit Bytes) → Type 0) → Type 0
OfEveryRun Claim = (o : Opening) → open_refusal o ≡ 0 → (gs : List Entry) → Claim (replicate o.width 0) (commits_of o gs)

-- demand 3
abbrev pub OrderTheorem : Type 0
OrderTheorem = OfEveryRun TSO

-- a relation puts the elements of a list into one order
pub record StrictTotal {A : Type 0} (R : A → A → Type 0) (H : List A) : Type 0 where
  pub irreflexive : (a : A) → In a H → R a a → ⊥
  pub transitive : (a b c : A) → In a H → In b H → In c H → R a b → R b c → R a c
  pub total : (a b : A) → In a H → In b H → (a ≡ b) ⊎ (R a b ⊎ R b a)

-- the sort is well defined: of two commits of a run one precedes the other
abbrev pub SortTheorem : Type 0
SortTheorem = (o : Opening) (gs : List Entry) → StrictTotal Before (commits_of o gs)

-- both, of these commits: their sorted order is one, and it obeys TSO
abbrev pub OneTsoOrder : {A : Type 0} → A → List (Commit A) → Type 0
OneTsoOrder zero H = StrictTotal Before H × TSO zero H

-- the test `precedes`, which Key::precedes answers, decides whether one key precedes another
abbrev pub KeyTheorem : Type 0
KeyTheorem = (a b : Key) → (precedes a b ≡ true → Precedes a b) × (Precedes a b → precedes a b ≡ true)
