-- Caches with a size (02, Four): "From a fresh engine no core ever holds more than cap copies." And what the call victim does.
use Rattle.std.specs.Prelude.{ℕ, ◌≤◌, ◌<◌}
use mathlib.Core.{Path.◌≡◌, List.List}
use lib.{Dec.eqb, ListN.take}
use Rattle.protocol.specs.{Pick.pick, Buffers.Bytes, Copies.IsVictim, Machine.{Machine, fresh_machine, copy_at, copies_of, victim_of}}
use Rattle.protocol.specs.{Refusals.refusal, Step.{refused, done, step}, Run.{Entry, run}, declared.{Opening.Opening, Call.TheVariants.Victim}}
use Rattle.protocol.specs.declared.Name.TheVariants.{Victim as Chosen}

-- at every place of every list of calls, after its first p calls
abbrev pub CapacityTheorem : Type 0
CapacityTheorem =
    (o : Opening) (gs : List Entry) (p c : ℕ) → c < o.cores → copies_of (run (take p gs) 1 (fresh_machine o)).last.state c ≤ o.cap

-- victim, whatever the machine: it changes nothing; where no refusal applies, it answers a line, and that line is the core's victim
pub record VictimCall (m : Machine) (c : ℕ) (given : Bytes) : Type 0 where
  pub stays : (step m (Victim c) given).machine ≡ m
  pub reply :
      (step m (Victim c) given).reply
      ≡ pick (eqb (refusal m (Victim c) given) 0) (done (Chosen (victim_of m.state c))) (refused (refusal m (Victim c) given))
  pub victim : refusal m (Victim c) given ≡ 0 → IsVictim (copy_at m.state c) m.state.opening.lines (victim_of m.state c)

abbrev pub VictimCallTheorem : Type 0
VictimCallTheorem = (m : Machine) (c : ℕ) (given : Bytes) → VictimCall m c given
