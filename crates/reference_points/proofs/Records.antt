-- The printed lines are as the definitions give them: antt computes both.
use mathlib.Core.Path.{refl}
use Rattle.spelling.specs.{Decimal.{decimal, decimal_up_to}, Hex.hex}
use Rattle.listing.specs.Record.{record_as, end_text}
use Rattle.reference_points.specs.Records.{recorded, printed_line, records, from_digits, digit_records, RecordsTheorem}
use Rattle.reference_points.proofs.Each.{agree}

pub records_theorem : RecordsTheorem
unfolding decimal decimal_up_to hex record_as end_text
records_theorem =
    record { bytes = refl; records = agree recorded printed_line records refl; digits = agree from_digits printed_line digit_records refl; end = refl; ended = refl; stopped = refl; not_opened = refl }
