-- 02's Seven, word by word, with nothing of Sequential (crates/protocol/specs/Sequential.antt): of every run, of the engine's own calls, and of
-- what a listing prints.
use Rattle.std.specs.Prelude.{ℕ}
use mathlib.Core.{Path.◌≡◌, Logic.◌⊎◌, List.List}
use Rattle.protocol.specs.{Step.{load, store, fence}, Run.Commit, Order.{In, Before, Earlier, OfEveryRun}}
use Rattle.engine.specs.History.{OfEveryHistory}
use Rattle.playing.specs.Printed.{OfEveryListing}

-- e is the next load of its core after the store s: no load of that core was made between them
pub record NextLoad {A : Type 0} (H : List (Commit A)) (s e : Commit A) : Type 0 where
  pub line : ℕ
  pub stored : A
  pub stores : s.op ≡ store line stored
  pub from : ℕ
  pub loaded : A
  pub loads : e.op ≡ load from loaded
  pub core : s.core ≡ e.core
  pub later : Earlier s e
  pub next : (k : Commit A) → In k H → s.core ≡ k.core → Earlier s k → Earlier k e → (l : ℕ) (x : A) → k.op ≡ load l x → ⊥

-- "each core, between a committed store and its next committed load, commits a fence"
abbrev pub HasFences : {A : Type 0} → List (Commit A) → Type 0
HasFences {A} H =
    (s e : Commit A) → In s H → In e H → NextLoad H s e
    → (f : Commit A) × In f H × (f.core ≡ s.core) × (f.op ≡ fence) × Earlier s f × Earlier f e

-- "all commits of a core stand in the sorted order as made"
abbrev pub StandAsMade : {A : Type 0} → List (Commit A) → Type 0
StandAsMade {A} H = (a b : Commit A) → In a H → In b H → a.core ≡ b.core → Earlier a b → Before a b

-- "each load gives the bytes of the last store to its line before it in that order, zeros if none"
abbrev pub GivesTheLast : {A : Type 0} → A → List (Commit A) → Type 0
GivesTheLast {A} zero H =
    (e : Commit A) → In e H → (l : ℕ) (x : A) → e.op ≡ load l x
    → ((s : Commit A) × In s H × (s.op ≡ store l x) × Before s e
    × ((t : Commit A) → In t H → (y : A) → t.op ≡ store l y → Before t e → (t ≡ s) ⊎ Before t s))
    ⊎ (((s : Commit A) → In s H → (y : A) → s.op ≡ store l y → Before s e → ⊥) × (x ≡ zero))

abbrev pub Seven : {A : Type 0} → A → List (Commit A) → Type 0
Seven zero H = HasFences H → StandAsMade H × GivesTheLast zero H

abbrev pub SevenTheorem : Type 0
SevenTheorem = OfEveryRun Seven × OfEveryHistory Seven × OfEveryListing Seven
