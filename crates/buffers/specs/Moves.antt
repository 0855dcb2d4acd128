-- Moving one line of bytes between its places, for every opening, core, line and buffer.
use Rattle.std.specs.Prelude.{ℕ}
use mathlib.Core.{Path.◌≡◌, Bool.Bool}
use lib.{Dec.ltb, ListN.length}
use Rattle.protocol.specs.{Pick.{pick, both}, Limits.opening_fits, Buffers.{Bytes, given_fits, moved_private, moved_shared}, Given.bytes_as}
use Rattle.protocol.specs.declared.{Opening.Opening, Given.Given, Move.Move}
use Rattle.refusals.specs.Input.{lengths_fit}

-- the opening lies inside the limits, and core c and line l are there
abbrev pub is_there : Opening → ℕ → ℕ → Bool
is_there o c l = both (opening_fits o) (both (ltb c o.cores) (ltb l o.lines))

-- the places and lengths of a move fit: the core and the line are there, both buffers have their exact lengths, and a store's bytes are one
-- line's
unfoldable pub move_fits : Move → Opening → ℕ → ℕ → ℕ → ℕ → ℕ → Bool
move_fits v o private shared c l n = both (is_there o c l) (both (lengths_fit o private shared) (given_fits v o.width n))

-- the buffers p and q after a move: as the move leaves them if its places and lengths fit, else as they were
pub record Moves (v : Move) (o : Opening) (c l : ℕ) (given p q p' q' : Bytes) : Type 0 where
  pub private : p' ≡ pick (move_fits v o (length p) (length q) c l (length given)) (moved_private v o c l given p q) p
  pub shared : q' ≡ pick (move_fits v o (length p) (length q) c l (length given)) (moved_shared v o c l p q) q

-- the same of lent buffers, as they come and as they are left; what is given is read as bytes or as digits
abbrev pub Moved : Move → Given → Opening → ℕ → ℕ → Bytes → Bytes → Bytes → Bytes → Bytes → Type 0
Moved v g o c l given p q p' q' = Moves v o c l (bytes_as g given) p q p' q'
