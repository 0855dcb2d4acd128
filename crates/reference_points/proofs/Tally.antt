-- The classes and the tally's line are as the definitions give them: antt computes both.
use mathlib.Core.Path.{refl}
use Rattle.protocol.specs.Pick.{how_many}
use Rattle.spelling.specs.Decimal.{decimal, decimal_up_to}
use Rattle.listing.specs.Record.{end_text, tally_text}
use Rattle.reference_points.specs.Tally.{classed, expected, classes, CountsTheorem}
use Rattle.reference_points.proofs.Each.{agree}

pub counts_theorem : CountsTheorem
unfolding decimal decimal_up_to tally_text end_text how_many
counts_theorem = record { classes = agree classed expected classes refl; line = refl; end = refl }
