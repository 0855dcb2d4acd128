-- Bytes laid over a part of a buffer that a caller lent: a text, or a line's bytes. Assumes nothing.
use Rattle.std.specs.Prelude.{ℕ, ◌+◌, ◌-◌}
use mathlib.Core.{Path.◌≡◌, Bool.{Bool, false, cond}, List.{List, ◌++◌}}
use lib.{Dec.leb, ListN.{length, take, drop}}
use Rattle.std.specs.Prelude.{Option, Some, None}

-- whether n bytes fit at an offset of a buffer of this size
abbrev pub has_room : ℕ → ℕ → ℕ → Bool
has_room size at n = leb (at + n) size

-- the buffer with the bytes t at an offset, and all else as it was: what a text that is put and a line that moves leave
abbrev pub over : List ℕ → ℕ → List ℕ → List ℕ
over old at t = take at old ++ (t ++ drop (at + length t) old)

-- the text t was put at an offset: if it fits, the buffer holds it there and the answer is the offset after it;
-- if it does not, the answer is None and the buffer is as it was
pub record PutAt (old : List ℕ) (at : ℕ) (t new : List ℕ) (r : Option ℕ) : Type 0 where
  pub answer : r ≡ cond (has_room (length old) at (length t)) (Some (at + length t)) None
  pub bytes : new ≡ cond (has_room (length old) at (length t)) (over old at t) old

-- whether twenty bytes, as many as a number has at most, lie before an offset of a buffer of this size
abbrev pub twenty_before : ℕ → ℕ → Bool
twenty_before size end = cond (leb 20 end) (leb end size) false

-- the text t of a number was put before an offset: if twenty bytes lie before it, the buffer holds the text there and the answer is
-- where it starts; if not, the answer is the offset itself and the buffer is as it was
pub record PutBefore (old : List ℕ) (end : ℕ) (t new : List ℕ) (r : ℕ) : Type 0 where
  pub answer : r ≡ cond (twenty_before (length old) end) (end - length t) end
  pub bytes : new ≡ cond (twenty_before (length old) end) (over old (end - length t) t) old
