-- Evict and the two steps that it was split into (02, Two): "Under `fabric=1`, evict does whichever fits the copy".
use Rattle.std.specs.Prelude.{ℕ, ◌≡◌}
use Rattle.protocol.specs.{Buffers.Bytes, Machine.{Machine, copy_at}, Step.{Reply, refused, done, commit, Outcome, step}}
use Rattle.protocol.specs.declared.Copy.{Copy, TheVariants.{None as NoCopy, Shared as CopyShared, Owned as CopyOwned}}
use Rattle.protocol.specs.declared.Call.{Call, TheVariants.{Evict, Drop, Writeback as WriteBack}}
use Rattle.protocol.specs.declared.Name.{Name, TheVariants.Evict as Evicted}

-- the call that fits a copy: "drop (shared copies) and writeback (owned copies)"; drop where there is none, which is refused as evict is
abbrev pub fitting : Copy → ℕ → ℕ → Call
fitting (CopyShared w r) c l = Drop c l
fitting (CopyOwned d w r) c l = WriteBack c l
fitting NoCopy c l = Drop c l

-- an answer under the name a
abbrev pub renamed : Name → Reply → Reply
renamed a (done d) = done a
renamed a (refused n) = refused n
renamed a (commit c t o) = commit c t o

-- what a call gives, its answer under that name
abbrev pub answering : Name → Outcome → Outcome
answering a x = record { reply = renamed a x.reply; machine = x.machine }

-- for every machine, core, line and bytes, evict is the call that fits the copy, but for the answer's name
abbrev pub EvictTheorem : Type 0
EvictTheorem =
    (m : Machine) (c l : ℕ) (given : Bytes)
    → step m (Evict c l) given ≡ answering Evicted (step m (fitting (copy_at m.state c l) c l) given)
