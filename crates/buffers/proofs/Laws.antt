-- Laws for the proofs here and for callers: a part by its end, a text as long as the part that it is put into, cores and lines that are there.
use Prim.Native.Nat.{ℕ, ◌+◌, ◌-◌, ◌≤◌}
use mathlib.Core.{Path.{◌≡◌, ◌∙◌}, Bool.true, List.{[], append-nil}}
use native.Mathlib.{Omega.arith, Nat.add-sub_cancel_left}
use lib.{Dec.ltb, ListN.{length, take, drop, drop_of_length-le}}
use borrow.Author.Tests.{lt-ltb, ltb-true, le-leb}
use Rattle.spelling.specs.Over.{PutAt}
use Rattle.protocol.{specs.{Pick.pick, Limits.opening_fits, Buffers.{Bytes, part, There}, declared.Opening.Opening}, proofs.Tests.both_true}
use Rattle.protocol.proofs.Extents.{inside, there_at}
use Rattle.buffers.specs.Moves.{is_there}
use Rattle.std.specs.Prelude.{Option}

-- a part from a start to an end is the one from the start with the difference as its count
pub part_to : (xs : Bytes) (a n : ℕ) → take (a + n - a) (drop a xs) ≡ part xs a n
part_to xs a n = rw add-sub_cancel_left

-- a text as long as what it is put into is what is there then
pub put_whole : {old t new : Bytes} {r : Option ℕ} → PutAt old 0 t new r → length t ≡ length old → new ≡ t
put_whole {old} {t} p e =
    let room : 0 + length t ≤ length old = omega arith in
    let all : length old ≤ 0 + length t = omega arith in
    let none : drop (0 + length t) old ≡ [] = drop_of_length-le old all in
    (rw (le-leb _ _ room, none) at p.bytes) ∙ append-nil t

-- what the test says
pub to_there : (o : Opening) (c l : ℕ) → is_there o c l ≡ true → There o c l
to_there o c l e =
    let a = both_true (opening_fits o) _ e in
    let b = both_true (ltb c o.cores) _ a.1 in
    there_at (inside o a.0) (ltb-true _ _ b.0) (ltb-true _ _ b.1)

-- what it is, of a core and a line that are there
pub from_there : {o : Opening} {c l : ℕ} → opening_fits o ≡ true → There o c l → is_there o c l ≡ true
from_there e a = rw (e, lt-ltb _ _ a.core, lt-ltb _ _ a.line)

-- a start at a place that fits
pub start_there : (o : Opening) (c l : ℕ) → is_there o c l ≡ true → (n r : ℕ) → r ≡ pick (is_there o c l) n 0 → r ≡ n
start_there o c l e n r h = rw e at h
