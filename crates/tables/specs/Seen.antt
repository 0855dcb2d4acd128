-- What a call sees of a state: the core and the line that it is about, as indices of the state's arrays, and the pieces there.
use Rattle.std.specs.Prelude.{ℕ, ◌≡◌}
use Rattle.protocol.specs.{Limits.{most_cores, most_lines}, About.{about, named_line}, Machine.{core_at, copy_at, line_at, pieces, the_core, the_line}}
use Rattle.protocol.specs.declared.{Call.Call, Pieces.Pieces, State.State}
use Rattle.tables.specs.{Found.found_at, Look.{look_to, top_of}, declared.{copies.Look.Look, seen.Seen.Seen}}

-- the line that the call names
unfoldable pub named_seen : Call → State → ℕ
named_seen call s = found_at (named_line (about call).line) s.opening.lines most_lines

-- the core that it is about, by who has that line
unfoldable pub core_seen : Call → State → ℕ
core_seen call s = found_at (the_core (about call).core (line_at s (named_seen call s)).manager) s.opening.cores most_cores

-- what going through that core's copies finds, where the call looks them over
unfoldable pub copies_seen : Call → State → Look
copies_seen call s = look_to (copy_at s (core_seen call s)) (top_of (about call).line s.opening)

-- the line that it is about, by that core's slot and victim
unfoldable pub line_seen : Call → State → ℕ
line_seen call s =
    found_at (the_line (about call).line (core_at s (core_seen call s)).slot (copies_seen call s).line) s.opening.lines most_lines

-- the pieces there
unfoldable pub pieces_seen : Call → State → Pieces
pieces_seen call s =
    pieces (line_seen call s) (core_at s (core_seen call s)) (copy_at s (core_seen call s) (line_seen call s)) (line_at s (line_seen call s))
    (copies_seen call s).copies

-- a value is what the call sees
pub record Sees (call : Call) (s : State) (r : Seen) : Type 0 where
  pub core : r.core ≡ core_seen call s
  pub pieces : r.pieces ≡ pieces_seen call s
