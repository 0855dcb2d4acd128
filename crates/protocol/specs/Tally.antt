-- What the tally says (02, One): each count "equals the number of such records", and over every list of calls from a fresh engine no request is
-- lost: "asks = shares + renews + owns + cores whose slot is still asked".
use Rattle.std.specs.Prelude.{ℕ, ◌+◌, take}
use mathlib.Core.{Path.◌≡◌, List.List}
use Rattle.protocol.specs.{Pick.how_many, Machine.fresh_machine, Refusals.is_asked, Run.{Entry, Record, Run, run}, Counts.{number, tally}}
use Rattle.protocol.specs.declared.Class.TheVariants.{Load as ALoad, Store as AStore, Fence as AFence, Ask as AnAsk, Share as AShare, Renew as ARenew}
use Rattle.protocol.specs.declared.Class.TheVariants.{Own as AnOwn}
use Rattle.protocol.specs.declared.{Core.Core, Opening.Opening, State.State}

-- "each equals the number of such records"
pub record Numbered (rs : List Record) : Type 0 where
  pub loads : (tally rs).loads ≡ number ALoad rs
  pub stores : (tally rs).stores ≡ number AStore rs
  pub fences : (tally rs).fences ≡ number AFence rs
  pub asks : (tally rs).asks ≡ number AnAsk rs
  pub shares : (tally rs).shares ≡ number AShare rs
  pub renews : (tally rs).renews ≡ number ARenew rs
  pub owns : (tally rs).owns ≡ number AnOwn rs

abbrev pub NumberedTheorem : Type 0
NumberedTheorem = (rs : List Record) → Numbered rs

-- "cores whose slot is still asked"
unfoldable pub asked_cores : State → ℕ
asked_cores s = how_many (λ (k : Core). is_asked k.slot) (take s.opening.cores s.core)

-- the asks of a run are its grants and the requests that it leaves
abbrev pub Balanced : Run → Type 0
Balanced r = (tally r.records).asks ≡ (tally r.records).shares + (tally r.records).renews + (tally r.records).owns + asked_cores r.last.state

abbrev pub TallyTheorem : Type 0
TallyTheorem = (o : Opening) (gs : List Entry) → Balanced (run gs 1 (fresh_machine o))
