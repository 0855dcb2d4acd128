-- 02, Seven: fences give sequential consistency.
--
-- "For every list from a fresh engine in which each core, between a committed store and its next committed load, commits a fence: all commits
-- of a core stand in the sorted order as made, and each load gives the bytes of the last store to its line before it in that order, zeros if
-- none."
--
-- `Fenced` is the condition on the list's commits, `Sequential` what their sorted order then obeys, and `SequentialTheorem` the claim.
-- `FenceTheorem` is the same of any log of commits, whatever made it, and of any memory model in which fences hold (`FencesHold`): which pairs of
-- one core's commits need a fence between them is its parameter. `StrictestTheorem` is the other way round: what is sequentially consistent
-- obeys every such model.
use mathlib.Core.{Path.◌≡◌, List.List}
use Rattle.protocol.specs.{Step.{Op, load, store, fence}, Run.Commit, Order.{In, Before, Earlier, TsoKeeps, Loads, Stores, MaySee, Obeys, OfEveryRun}}

-- ---- the condition

-- the pairs of one core's commits that need a fence under TSO, since they may change places: a store and then a load
abbrev pub StoreThenLoad : {A : Type 0} → Op A → Op A → Type 0
StoreThenLoad (load l x) b = ⊥
StoreThenLoad fence b = ⊥
StoreThenLoad (store l x) (load m y) = Unit {0}
StoreThenLoad (store l x) (store m y) = ⊥
StoreThenLoad (store l x) fence = ⊥

-- b is of a's core, made after a, and the two need a fence between them: under TSO a is a store, and b a later load of its core.
-- `Swaps x y`: two commits of one core that did x and then y need a fence between them. The pairs that may change places are among these
pub record Later {A : Type 0} (Swaps : Op A → Op A → Type 0) (a b : Commit A) : Type 0 where
  pub core : b.core ≡ a.core
  pub after : Earlier a b
  pub swaps : Swaps a.op b.op

-- b is the first of these in the list: under TSO, the store's next load
pub record Next {A : Type 0} (Swaps : Op A → Op A → Type 0) (H : List (Commit A)) (a b : Commit A) : Type 0 where
  pub later : Later Swaps a b
  pub first : (c : Commit A) → In c H → Later Swaps a c → Earlier c b → ⊥

-- f is a fence that a's core committed between a and b
pub record FenceBetween {A : Type 0} (a b f : Commit A) : Type 0 where
  pub core : f.core ≡ a.core
  pub fence : f.op ≡ fence
  pub after : Earlier a f
  pub before : Earlier f b

-- "each core, between a committed store and its next committed load, commits a fence"
abbrev pub Fenced : {A : Type 0} → (Op A → Op A → Type 0) → List (Commit A) → Type 0
Fenced {A} Swaps H = (a b : Commit A) → In a H → In b H → Next Swaps H a b → (f : Commit A) × In f H × FenceBetween a b f

-- ---- the claim

-- "all commits of a core stand in the sorted order as made"
abbrev pub AllKeep : {A : Type 0} → Op A → Op A → Type 0
AllKeep a b = Unit {0}

-- a store s that the load e sees: it is "before it in that order", whichever core made it
abbrev pub Preceding : {A : Type 0} → Commit A → Commit A → Type 0
Preceding e s = Before s e

-- sequential consistency: "all commits of a core stand in the sorted order as made, and each load gives the bytes of the last store to its line
-- before it in that order, zeros if none"
abbrev pub Sequential : {A : Type 0} → A → List (Commit A) → Type 0
Sequential = Obeys AllKeep Preceding Loads Stores

-- Seven, of these commits
abbrev pub SequentialIfFenced : {A : Type 0} → A → List (Commit A) → Type 0
SequentialIfFenced zero H = Fenced StoreThenLoad H → Sequential zero H

-- Seven, for every opening that `open` accepts and every list of calls on it
abbrev pub SequentialTheorem : Type 0
SequentialTheorem = OfEveryRun SequentialIfFenced

-- ---- other memory models

-- fences hold in a memory model: which pairs of one core's commits need one can be told, all others keep their order, and a fence keeps its order
-- with whatever its core commits before it, and after it
pub record FencesHold {A : Type 0} (Keeps Swaps : Op A → Op A → Type 0) : Type 0 where
  pub told : (a b : Op A) → Dec (Swaps a b)
  pub kept : (a b : Op A) → (Swaps a b → ⊥) → Keeps a b
  pub before : (a : Op A) → Keeps a fence
  pub after : (b : Op A) → Keeps fence b

-- fences hold in TSO
abbrev pub TsoFencesTheorem : Type 1
TsoFencesTheorem = (A : Type 0) → FencesHold {A = A} TsoKeeps StoreThenLoad

-- a log that obeys such a model, and has a fence between each commit and its core's next that needs one, is sequentially consistent, whatever a
-- cell of memory is
abbrev pub FenceTheorem : Type 1
FenceTheorem =
    (A C X : Type 0) (Keeps Swaps : Op A → Op A → Type 0) (Reads Writes : C → Commit A → X → Type 0) (zero : X) (H : List (Commit A))
    → FencesHold Keeps Swaps → Obeys Keeps MaySee Reads Writes zero H → Fenced Swaps H → Obeys AllKeep Preceding Reads Writes zero H

-- the other way round, sequential consistency is the strictest of them: a log that is sequentially consistent obeys every such model
abbrev pub StrictestTheorem : Type 1
StrictestTheorem =
    (A C X : Type 0) (Keeps : Op A → Op A → Type 0) (Reads Writes : C → Commit A → X → Type 0) (zero : X) (H : List (Commit A))
    → Obeys AllKeep Preceding Reads Writes zero H → Obeys Keeps MaySee Reads Writes zero H
