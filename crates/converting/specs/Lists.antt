-- A list of calls and the same in the other form (02, Five): "Both journals yield the same commits, timestamps and refusals at each place."
use Rattle.std.specs.Prelude.{ℕ}
use mathlib.Core.{Path.◌≡◌, Bool.false, List.{List, [], ◌∷◌}}
use Rattle.protocol.specs.{Buffers.Bytes, Machine.Machine, Step.{Op, Reply, refused, done, commit}, Run.{Entry, Record, run, commits}, declared.Stamp.Stamp}
use Rattle.convert.specs.{Forms.converted, Conversion.{answers, some}, declared.To.TheVariants.{First, Second}}

-- what a place yields: a refusal with its number, a commit with its core, timestamp, line and bytes, or neither, whatever the name of what was done
pub data Yielded : Type 0 where
  neither : Yielded
  a_refusal : ℕ → Yielded
  a_commit : ℕ → Stamp → Op Bytes → Yielded

abbrev pub yielded_by : Reply → Yielded
yielded_by (refused n) = a_refusal n
yielded_by (done d) = neither
yielded_by (commit c t o) = a_commit c t o

-- place by place
unfoldable pub yielded : List Record → List Yielded
yielded [] = []
yielded (r ∷ rs) = yielded_by r.reply ∷ yielded rs

-- two lists of calls from the machine m, the first call's place p: they yield the same at each place, make the same commits, and come to the
-- same machine
pub record Alike (gs hs : List Entry) (p : ℕ) (m : Machine) : Type 0 where
  pub yields : yielded (run gs p m).records ≡ yielded (run hs p m).records
  pub commits : commits (run gs p m).records ≡ commits (run hs p m).records
  pub last : (run gs p m).last ≡ (run hs p m).last

-- from 1 to 2, for every list and every machine
abbrev pub ToSecondTheorem : Type 0
ToSecondTheorem = (gs : List Entry) (p : ℕ) (m : Machine) → Alike gs (converted Second gs m) p m

-- from 2 to 1, where no step answers 30
abbrev pub ToFirstTheorem : Type 0
ToFirstTheorem =
    (gs : List Entry) (p : ℕ) (m : Machine) → some (λ (r : Record). answers 30 r.reply) (run gs p m).records ≡ false
    → Alike gs (converted First gs m) p m
