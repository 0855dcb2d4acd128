-- Which part `show` gives, where a refusal applies and where none does.
use Prim.Native.Nat.{ℕ, ◌+◌, ◌-◌}
use mathlib.Core.{Path.{◌≡◌}, Bool.{true, false}, List.[]}
use native.Mathlib.Omega.{arith}
use lib.ListN.{length, length-replicate}
use borrow.Author.Tests.{ne_eqb}
use denote.Ref.{Bor}
use Rattle.protocol.specs.{Pick.pick, Buffers.{Bytes, copy_start, manager_start, There}, Copies.is_held, Machine.{machine, copy_at}}
use Rattle.protocol.specs.{Refusals.{machine_refusal}, Step.{shown, show_refusal}, declared.{State.State, Call.TheVariants.Load}}
use Rattle.protocol.proofs.Refusals.{Fit, or_none, machine_fit, call_there}
use Rattle.std.specs.Prelude.{Option, is_some}
use Rattle.refusals.{specs.Input.{machine_with, input_refusal, applies}, proofs.Laws.{none_applies, one_applies}}
use Rattle.buffers.{specs.Moves.is_there, proofs.Laws.{from_there, start_there}}
use Rattle.engine.specs.Calls.{PartOf, Shows}

-- the part of so many bytes is the part up to their end
counted : (s r : Bor Bytes) (start count : ℕ) → PartOf s start count r → PartOf s start (start + count - start) r
counted s r start count h = let e : start + count - start ≡ count = omega arith in rw e h

-- the refusals that apply, r, for core c and line l
module _ (s : State) (p q : Bor Bytes) (c l : ℕ) (r : Option ℕ) (e : r ≡ applies (input_refusal (machine_with s (length p.now) (length q.now)) (Load c l) [])) where
  abbrev n : ℕ
  n = show_refusal (machine s p.now q.now) c l

  here : r ≡ applies n
  unfolding machine_refusal
  here = simp length-replicate at e

  pub shows_nothing : is_some r ≡ true → (x : Bor Bytes) → PartOf q 0 0 x → Shows s p q c l x
  unfolding shown
  shows_nothing h x a = rw (ne_eqb n 0 (one_applies n (rw here at h))) a

  module _ (h : is_some r ≡ false) where
    z : n ≡ 0
    z = none_applies n (rw here at h)

    fit : Fit (machine s p.now q.now)
    fit = machine_fit (machine s p.now q.now) (or_none (machine_refusal (machine s p.now q.now)) _ z).0

    pub there : There s.opening c l
    there = call_there fit (Load c l) 0 (or_none (machine_refusal (machine s p.now q.now)) _ z).1

    -- a start as `buffers` gives it
    exact : (a start : ℕ) → start ≡ pick (is_there s.opening c l) a 0 → start ≡ a
    exact = start_there s.opening c l (from_there fit.opening there)

    pub shows_copy :
        is_held (copy_at s c l) ≡ true → (start : ℕ) → start ≡ pick (is_there s.opening c l) (copy_start s.opening c l) 0
        → (x : Bor Bytes) → PartOf p start s.opening.width x → Shows s p q c l x
    unfolding shown
    shows_copy h start a x b = rw (z, h, ← exact _ start a) (counted p x start s.opening.width b)

    pub shows_manager :
        is_held (copy_at s c l) ≡ false → (start : ℕ) → start ≡ pick (is_there s.opening c l) (manager_start s.opening l) 0
        → (x : Bor Bytes) → PartOf q start s.opening.width x → Shows s p q c l x
    unfolding shown
    shows_manager h start a x b = rw (z, h, ← exact _ start a) (counted q x start s.opening.width b)
