-- Sizes inside the limits, and how far the places of lines reach in the two buffers.
use Prim.Native.Nat.{ℕ, ◌+◌, ◌*◌, ◌≤◌, ◌<◌}
use mathlib.Core.{Path.◌≡◌, Bool.true}
use native.Mathlib.{Omega.arith, Nat.mul-le-mul}
use lib.Dec.{leb}
use borrow.Author.Tests.{leb-true}
use Rattle.protocol.specs.{Pick.pick, Limits.{within, opening_fits}}
use Rattle.protocol.specs.{Buffers.{private_length, shared_length, copy_start, manager_start, writeback_start, answer_start, There}, declared.Opening.Opening}
use Rattle.protocol.proofs.{Tests.both_true, Bytes.row_le}

-- ---- the opening

-- sizes, lease and capacity inside the limits
pub record Inside (o : Opening) : Type 0 where
  pub some_cores : 1 ≤ o.cores
  pub most_cores : o.cores ≤ 16
  pub some_lines : 1 ≤ o.lines
  pub most_lines : o.lines ≤ 64
  pub some_width : 1 ≤ o.width
  pub most_width : o.width ≤ 64
  pub some_lease : 1 ≤ o.lease
  pub most_lease : o.lease ≤ 1000
  pub some_cap : 1 ≤ o.cap
  pub most_cap : o.cap ≤ o.lines

within_true : (n most : ℕ) → within n most ≡ true → (1 ≤ n) × (n ≤ most)
within_true n most e = let p = both_true (leb 1 n) (leb n most) e in (leb-true 1 n p.0, leb-true n most p.1)

pub inside : (o : Opening) → opening_fits o ≡ true → Inside o
unfolding opening_fits
inside o e =
    let a = both_true (within o.cores 16) _ e in
    let b = both_true (within o.lines 64) _ a.1 in
    let c = both_true (within o.width 64) _ b.1 in
    let d = both_true (within o.lease 1000) _ c.1 in
    let p = within_true o.cores 16 a.0 in
    let q = within_true o.lines 64 b.0 in
    let r = within_true o.width 64 c.0 in
    let s = within_true o.lease 1000 d.0 in
    let t = within_true o.cap o.lines d.1 in
    record {
      some_cores = p.0;
      most_cores = p.1;
      some_lines = q.0;
      most_lines = q.1;
      some_width = r.0;
      most_width = r.1;
      some_lease = s.0;
      most_lease = s.1;
      some_cap = t.0;
      most_cap = t.1;
    }

-- the lengths of the buffers
module _ {o : Opening} (i : Inside o) where
  pub copies_most : o.cores * o.lines ≤ 1024
  copies_most = mul-le-mul i.most_cores i.most_lines

  pub private_most : private_length o ≤ 65536
  private_most = mul-le-mul copies_most i.most_width

  pub rows_most : 2 * o.lines + o.cores ≤ 144
  rows_most = let a = i.most_lines in let b = i.most_cores in omega arith

  pub shared_most : shared_length o ≤ 9216
  shared_most = mul-le-mul rows_most i.most_width

-- a core and a line that are there
pub there_at : {o : Opening} {c l : ℕ} → Inside o → c < o.cores → l < o.lines → There o c l
there_at i h k = record { cores = i.most_cores; lines = i.most_lines; width = i.most_width; core = h; line = k }

-- ---- places in the buffers

module _ {o : Opening} {c l : ℕ} (a : There o c l) where
  pub indices : (c < 16) × (l < 64)
  indices = omega arith

  pub row_most : c * o.lines ≤ 1024
  row_most = let x = a.core in let y = a.cores in mul-le-mul {n₂ = 16} {m₂ = 64} (omega arith) a.lines

  pub copy_most : copy_start o c l ≤ 131072
  copy_most = let x = row_most in let y = a.line in let u = a.lines in mul-le-mul {n₂ = 2048} {m₂ = 64} (omega arith) a.width

  pub copy_ends : copy_start o c l + o.width ≤ private_length o
  copy_ends = let e = row_le o.lines c o.cores a.core in let h = a.line in row_le o.width _ _ (omega arith)

  pub manager_most : manager_start o l ≤ 4096
  manager_most = let x = a.line in let y = a.lines in mul-le-mul {n₂ = 64} {m₂ = 64} (omega arith) a.width

  pub manager_ends : manager_start o l + o.width ≤ shared_length o
  manager_ends = let x = a.line in row_le o.width l _ (omega arith)

  pub writeback_most : writeback_start o l ≤ 8192
  writeback_most = let x = a.line in let y = a.lines in mul-le-mul {n₂ = 128} {m₂ = 64} (omega arith) a.width

  pub writeback_ends : writeback_start o l + o.width ≤ shared_length o
  writeback_ends = let x = a.line in row_le o.width _ _ (omega arith)

  pub answer_most : answer_start o c ≤ 9216
  answer_most = let x = a.core in let y = a.cores in let u = a.lines in mul-le-mul {n₂ = 144} {m₂ = 64} (omega arith) a.width

  pub answer_ends : answer_start o c + o.width ≤ shared_length o
  answer_ends = let x = a.core in row_le o.width _ _ (omega arith)

-- a length that is 0 where the sizes lie outside the limits is the length inside them
pub length_inside : (o : Opening) (n r : ℕ) → opening_fits o ≡ true → r ≡ pick (opening_fits o) n 0 → r ≡ n
length_inside o n r f h = rw f at h
