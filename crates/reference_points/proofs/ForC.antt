-- What C gets for a whole journal: the sample's run in pieces, a journal that ends at its third line, and conversions.
use mathlib.Core.{Path.{refl, sym}, List.{[], ◌∷◌}}
use lib.Dec.{lit≤}
use Rattle.protocol.specs.{Pick.how_many, Run.run, declared.Call.TheVariants.Take}
use Rattle.spelling.specs.{Decimal.{decimal, decimal_up_to}, Hex.hex}
use Rattle.journal.specs.Journal.{empty}
use Rattle.listing.specs.Record.{record_as, end_text, tally_text}
use Rattle.grammar.specs.declared.Refusal.TheVariants.{NoForm}
use Rattle.driver.specs.Listing.{stopped, no_line, a_line, at_refusal, lines, refused_first}
use Rattle.playing.specs.{Listing.{Opens, counted}, Calls.joined, Pieces.{lines_of, Pieces.opens as in_pieces}}
use Rattle.whole.specs.Whole.{fitting, Checks.opens as reads-to, Checks.fails as fails-at}
use Rattle.reference_points.specs.{Numbers.opening, ForC.{wrong_journal, ForCTheorem}}
use Rattle.reference_points.proofs.{Rows.calling, Lines.answer, Reading.{line, call}, Sample.opened, Conversions.conversions_theorem}

-- the wrong journal opens an engine, and stops at its third line
stops : Opens wrong_journal (opening 1 1 1 10 1) (call (Take 0) [] ∷ []) (stopped NoForm)
unfolding calling answer
stops =
    record {
      form = 1;
      next = 42;
      first = line wrong_journal 0 0 refl refl;
      accepted = refl;
      reads = record { to = 57; steps = a_line (line wrong_journal 1 42 refl refl) no_line; ends = at_refusal (line wrong_journal 1 57 refl refl) };
    }

pub for_c_theorem : ForCTheorem
unfolding calling run decimal decimal_up_to hex record_as end_text tally_text lines how_many lines_of fitting joined
for_c_theorem =
    record {
      whole = record { refusal = _; checks = reads-to opened; number = refl };
      third = record { refusal = _; checks = reads-to stops; number = refl };
      none = record { refusal = _; checks = fails-at (refused_first (empty (lit≤ tt) (lit≤ tt) refl)); number = refl };
      listed = record { put = _; lists = record { texts = _; listing = in_pieces opened; put = record { answer = refl; bytes = refl } }; size = refl };
      just_listed = record { put = _; lists = record { texts = _; listing = in_pieces opened; put = record { answer = refl; bytes = refl } }; size = refl };
      not_listed = record { put = _; lists = record { texts = _; listing = in_pieces opened; put = record { answer = refl; bytes = refl } }; size = refl };
      together = record { put = _; lists = record { texts = _; listing = in_pieces stops; put = record { answer = refl; bytes = refl } }; size = refl };
      tallied = record { put = _; counts = _; tally = counted opened; text = record { answer = refl; bytes = refl }; number = refl };
      not_tallied = record { put = _; counts = _; tally = counted opened; text = record { answer = refl; bytes = refl }; number = refl };
      second = record { converted = _; converts = conversions_theorem.second; number = refl; length = refl };
      first = record { converted = _; converts = conversions_theorem.first; number = refl; length = refl };
      refused = record { converted = _; converts = conversions_theorem.second_short.2; number = sym conversions_theorem.second_short.1; length = refl };
    }
