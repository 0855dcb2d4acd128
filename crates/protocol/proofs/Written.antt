-- The lists of the state: their lengths, and what a step's effect on one core and one line makes of each core, copy and line.
use Prim.Native.Nat.{ℕ, zero, suc, ◌+◌, ◌*◌, ◌<◌}
use mathlib.Core.Path.{◌≡◌, refl, ◌∙◌, ap}
use native.Mathlib.Omega.{arith}
use lib.{ListN.{length, get_or, length-set, replicate, length-replicate}, Seq.{get_or-set_same, get_or-set_other}}
use Rattle.protocol.specs.{Fresh.{fresh_core, fresh_cell, fresh_line, fresh_state}, Buffers.There, Machine.{core_at, copy_at, line_at, written}}
use Rattle.protocol.specs.declared.{Cell.Cell, Opening.Opening, State.State, Effect.Effect, Copy.TheVariants.None as NoCopy}
use Rattle.protocol.proofs.Bytes.{grid_row, grid_column}

-- the lists are as long as the code's arrays
pub record Arrays (s : State) : Type 0 where
  pub n_core : length s.core ≡ 16
  pub n_cell : length s.cell ≡ 1024
  pub n_line : length s.line ≡ 64

-- ---- after an effect d on core c and line l

module _ {s : State} (a : Arrays s) {c l : ℕ} (q : There s.opening c l) (d : Effect) where
  pub core_at_lem : core_at (written s c l d) c ≡ d.core
  core_at_lem = get_or-set_same s.core c d.core fresh_core (omega (arith, a.n_core, q.cores, q.core))

  pub core_off : (c' : ℕ) → (c' ≡ c → ⊥) → core_at (written s c l d) c' ≡ core_at s c'
  core_off c' n = get_or-set_other s.core c c' d.core fresh_core n

  pub line_at_lem : line_at (written s c l d) l ≡ d.line
  line_at_lem = get_or-set_same s.line l d.line fresh_line (omega (arith, a.n_line, q.lines, q.line))

  pub line_off : (l' : ℕ) → (l' ≡ l → ⊥) → line_at (written s c l d) l' ≡ line_at s l'
  line_off l' n = get_or-set_other s.line l l' d.line fresh_line n

  pub copy_at_lem : copy_at (written s c l d) c l ≡ d.copy
  copy_at_lem =
      ap (λ (x : Cell). x.copy) (get_or-set_same s.cell (c * 64 + l) (record { copy = d.copy }) fresh_cell
      (omega (arith, a.n_cell, q.cores, q.core, q.lines, q.line)))

  pub copy_off : (c' l' : ℕ) → l' < s.opening.lines → (c' ≡ c → l' ≡ l → ⊥) → copy_at (written s c l d) c' l' ≡ copy_at s c' l'
  copy_off c' l' h n =
      let i : l < 64 = omega (arith, q.lines, q.line) in
      let j : l' < 64 = omega (arith, q.lines, h) in
      ap (λ (x : Cell). x.copy) (get_or-set_other s.cell (c * 64 + l) (c' * 64 + l') (record { copy = d.copy }) fresh_cell
      (λ e. n (grid_row 64 c' l' c l j i e) (grid_column 64 c' l' c l j i e)))

  pub arrays_written : Arrays (written s c l d)
  arrays_written = record {
    n_core = length-set s.core c d.core ∙ a.n_core;
    n_cell = length-set s.cell (c * 64 + l) (record { copy = d.copy }) ∙ a.n_cell;
    n_line = length-set s.line l d.line ∙ a.n_line;
  }

-- ---- the fresh state

get_d_replicate {ℓ} : {A : Type ℓ} (n i : ℕ) (a : A) → get_or (replicate n a) i a ≡ a
get_d_replicate zero i a = refl
get_d_replicate (suc n) zero a = refl
get_d_replicate (suc n) (suc i) a = get_d_replicate n i a

module _ (o : Opening) where
  pub arrays_fresh : Arrays (fresh_state o)
  arrays_fresh = record { n_core = length-replicate 16 fresh_core; n_cell = length-replicate 1024 fresh_cell; n_line = length-replicate 64 fresh_line }

  pub core_fresh : (c : ℕ) → core_at (fresh_state o) c ≡ fresh_core
  core_fresh c = get_d_replicate 16 c fresh_core

  pub line_fresh : (l : ℕ) → line_at (fresh_state o) l ≡ fresh_line
  line_fresh l = get_d_replicate 64 l fresh_line

  pub copy_fresh : (c l : ℕ) → copy_at (fresh_state o) c l ≡ NoCopy
  copy_fresh c l = ap (λ (x : Cell). x.copy) (get_d_replicate 1024 (c * 64 + l) fresh_cell)
