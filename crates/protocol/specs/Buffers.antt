-- The two lent buffers: where each line of bytes lies, and what a move of one line makes of them.
use Rattle.std.specs.Prelude.{ℕ, ◌+◌, ◌*◌, ◌≤◌, ◌<◌}
use mathlib.Core.{Bool.{Bool, true}, List.List}
use lib.{Dec.eqb, ListN.{take, drop}}
use Rattle.spelling.specs.Over.{over}
use Rattle.protocol.specs.{Limits.{most_cores, most_lines, most_width}, declared.Opening.Opening}
use Rattle.protocol.specs.declared.Move.{Move, TheVariants.{Still, Store, Answer, Receive, Writeback, Take}}

abbrev pub Bytes : Type 0
Bytes = List ℕ

-- the n bytes from a
abbrev pub part : Bytes → ℕ → ℕ → Bytes
part xs a n = take n (drop a xs)

-- "Private buffer, length cores × lines × width"
abbrev pub private_length : Opening → ℕ
private_length o = o.cores * o.lines * o.width

-- "Shared buffer, length (2 × lines + cores) × width"
abbrev pub shared_length : Opening → ℕ
shared_length o = (2 * o.lines + o.cores) * o.width

-- "the copy of core c, line l starts at (c × lines + l) × width"
abbrev pub copy_start : Opening → ℕ → ℕ → ℕ
copy_start o c l = (c * o.lines + l) * o.width

-- "manager line l at l × width"
abbrev pub manager_start : Opening → ℕ → ℕ
manager_start o l = l * o.width

-- "its writeback at (lines + l) × width"
abbrev pub writeback_start : Opening → ℕ → ℕ
writeback_start o l = (o.lines + l) * o.width

-- "the answer to core c at (2 × lines + c) × width"
abbrev pub answer_start : Opening → ℕ → ℕ
answer_start o c = (2 * o.lines + c) * o.width

-- core c and line l are among those of an opening whose sizes lie inside the limits: their places lie in the buffers
pub record There (o : Opening) (c l : ℕ) : Type 0 where
  pub cores : o.cores ≤ most_cores
  pub lines : o.lines ≤ most_lines
  pub width : o.width ≤ most_width
  pub core : c < o.cores
  pub line : l < o.lines

-- the bytes of a line at each of these places
abbrev pub copy_bytes : Opening → Bytes → ℕ → ℕ → Bytes
copy_bytes o private c l = part private (copy_start o c l) o.width

abbrev pub manager_bytes : Opening → Bytes → ℕ → Bytes
manager_bytes o shared l = part shared (manager_start o l) o.width

abbrev pub writeback_bytes : Opening → Bytes → ℕ → Bytes
writeback_bytes o shared l = part shared (writeback_start o l) o.width

abbrev pub answer_bytes : Opening → Bytes → ℕ → Bytes
answer_bytes o shared c = part shared (answer_start o c) o.width

-- n bytes are one line's, if the move is a store's; no other move looks at them
abbrev pub given_fits : Move → ℕ → ℕ → Bool
given_fits Still width n = true
given_fits Store width n = eqb n width
given_fits Answer width n = true
given_fits Receive width n = true
given_fits Writeback width n = true
given_fits Take width n = true

-- "Every step that moves a line writes only that line's place in the buffer; all other bytes stay": the private buffer after a move for
-- core c and line l; `given` are the bytes given to a store
unfoldable pub moved_private : Move → Opening → ℕ → ℕ → Bytes → Bytes → Bytes → Bytes
moved_private Still o c l given private shared = private
moved_private Store o c l given private shared = over private (copy_start o c l) given
moved_private Answer o c l given private shared = private
moved_private Receive o c l given private shared = over private (copy_start o c l) (answer_bytes o shared c)
moved_private Writeback o c l given private shared = private
moved_private Take o c l given private shared = private

-- the shared buffer after the move
unfoldable pub moved_shared : Move → Opening → ℕ → ℕ → Bytes → Bytes → Bytes
moved_shared Still o c l private shared = shared
moved_shared Store o c l private shared = shared
moved_shared Answer o c l private shared = over shared (answer_start o c) (manager_bytes o shared l)
moved_shared Receive o c l private shared = shared
moved_shared Writeback o c l private shared = over shared (writeback_start o l) (copy_bytes o private c l)
moved_shared Take o c l private shared = over shared (manager_start o l) (writeback_bytes o shared l)
