-- Going through the copies of a core, line by line, as the code does (02, Four): how many are held, and the victim with its copy. And which calls
-- do.
use Rattle.std.specs.Prelude.{ℕ, zero, suc, ◌+◌, ◌≤◌}
use mathlib.Core.{Path.◌≡◌, Bool.{Bool, true, false}}
use Rattle.std.specs.Prelude.{ltb, leb}
use Rattle.protocol.specs.{Pick.{pick, both}, Limits.most_lines, Copies.{is_held, Copies, replaces}}
use Rattle.protocol.specs.declared.{Copy.{Copy, TheVariants.None as NoCopy}, Opening.Opening}
use Rattle.protocol.specs.declared.Which.{Which, TheVariants.{Named as NamedLine, Asked, Answered, Nothing, Victim as OfVictim}}
use Rattle.tables.specs.declared.copies.Look.{Look}

-- one more, up to the most lines that there may be; no core's count passes it
abbrev pub one_more : ℕ → ℕ
one_more n = pick (ltb n most_lines) (n + 1) n

-- what is found
abbrev pub found : ℕ → ℕ → Copy → Look
found n l x = record { copies = n; line = l; copy = x }

abbrev pub nothing_found : Look
nothing_found = found 0 0 NoCopy

-- with the copy x of line l
unfoldable pub with_copy : Look → ℕ → Copy → Look
with_copy k l x =
    pick (is_held x) (pick (replaces x l k.copy k.line) (found (one_more k.copies) l x) (found (one_more k.copies) k.line k.copy)) k

-- after the lines below n
unfoldable pub look_to : Copies → ℕ → Look
look_to f zero = nothing_found
look_to f (suc n) = with_copy (look_to f n) n (f n)

-- a call about this line looks over all copies of its core: victim does, and receive, which counts them; but not where a core may hold a copy of
-- each line, and so has room for any line that it does not hold
abbrev pub looks_over : Which → Opening → Bool
looks_over (NamedLine l) o = false
looks_over Asked o = false
looks_over Answered o = ltb o.cap o.lines
looks_over Nothing o = false
looks_over OfVictim o = true

-- how many lines it goes through: all of them, or none
abbrev pub top_of : Which → Opening → ℕ
top_of w o = pick (both (looks_over w o) (leb o.lines most_lines)) o.lines 0

-- the same of a value r, with what it means for an array of as many copies as there may be lines
pub record Top (w : Which) (o : Opening) (r : ℕ) : Type 0 where
  pub is : r ≡ top_of w o
  pub low : r ≤ most_lines
