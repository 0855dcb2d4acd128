-- How long the texts are at most, so that a caller can lend a buffer in which they fit. Assumes nothing.
use Prim.Native.Nat.{ℕ, ◌+◌, ◌*◌, ◌≤◌}
use mathlib.Core.List.{List, ◌++◌}
use native.Mathlib.Omega.{arith}
use lib.ListN.{length, length-append}
use Rattle.protocol.specs.declared.{Place.Place, Name.{Name, TheVariants.{Open, Ask, Recall, Share, Renew, Own, Drop, Evict, Writeback, Advance, Yield, Take, Victim}}}
use Rattle.protocol.specs.declared.{Counts.Counts, Answer.{Answer, TheVariants.{Refused, Done, Commit}}, Kind.TheVariants.{Load, Store, Fence}}
use Rattle.protocol.specs.Step.{meaning}
use Rattle.spelling.proofs.{DecimalLaws.decimal_short, HexLaws.hex_length}
use Rattle.spelling.specs.Text.{text}
use Rattle.listing.specs.{Record.{name_text, record_as, record_text, end_text, tally_text}}

name_length : (d : Name) → length (name_text d) ≤ 32
name_length Open = omega arith
name_length Ask = omega arith
name_length Recall = omega arith
name_length Share = omega arith
name_length Renew = omega arith
name_length Own = omega arith
name_length Drop = omega arith
name_length Evict = omega arith
name_length Writeback = omega arith
name_length Advance = omega arith
name_length Yield = omega arith
name_length Take = omega arith
name_length (Victim l) = omega (arith, decimal_short l)

-- what is behind the place in a record that names what was done
pub done_length : (d : Name) → length (text " done=" ++ name_text d ++ text "\n") ≤ 39
done_length d = simp length-append (omega (arith, name_length d))

-- a record has at most 118 bytes beside its data
pub record_length : (p : Place) (a : Answer) (bytes : List ℕ) → length (record_text p (meaning a bytes)) ≤ 118 + 2 * length bytes
unfolding record_as meaning
record_length p (Refused n) bytes = simp length-append (omega (arith, decimal_short p.0, decimal_short n))
record_length p (Done d) bytes = simp length-append (omega (arith, decimal_short p.0, name_length d))
record_length p (Commit c t (Load l)) bytes =
    simp length-append (omega (arith, decimal_short p.0, decimal_short c, decimal_short l, decimal_short t.0, hex_length bytes))
record_length p (Commit c t (Store l)) bytes =
    simp length-append (omega (arith, decimal_short p.0, decimal_short c, decimal_short l, decimal_short t.0, hex_length bytes))
record_length p (Commit c t Fence) bytes = simp length-append (omega (arith, decimal_short p.0, decimal_short c, decimal_short t.0))

-- the end line has at most 83 bytes
pub end_length : (k : Counts) → length (end_text k) ≤ 83
unfolding end_text
end_length k = simp length-append (omega (arith, decimal_short k.steps, decimal_short k.commits, decimal_short k.refusals))

-- the tally's line has at most 191 bytes
pub tally_length : (k : Counts) → length (tally_text k) ≤ 191
unfolding tally_text
tally_length k =
    simp length-append
    (omega (
      arith,
      decimal_short k.loads,
      decimal_short k.stores,
      decimal_short k.fences,
      decimal_short k.asks,
      decimal_short k.shares,
      decimal_short k.renews,
      decimal_short k.owns,
    ))
