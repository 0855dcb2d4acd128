-- The listing and the tally of 01's sample journal: what each line says, and what the engine answers.
use mathlib.Core.{Path.refl, List.{List, [], ◌∷◌}}
use native.Mathlib.Omega.{arith}
use lib.Dec.{lit≤}
use Rattle.protocol.specs.{Pick.how_many, Machine.fresh_machine, Run.{Entry, run}, Counts.{nothing_met, tally}}
use Rattle.protocol.specs.declared.Call.TheVariants.{Load, Store, Serve, Receive, Take}
use Rattle.protocol.specs.declared.Given.TheVariants.{Digits as AsDigits}
use Rattle.spelling.specs.{Decimal.{decimal, decimal_up_to}, Hex.hex, Text.text}
use Rattle.std.specs.Prelude.{Some, Ok}
use Rattle.journal.specs.{Journal.{NextOf, empty, ended as at_last}, Theorems.{Reached, start, on}, declared.Item.TheVariants.Opening}
use Rattle.listing.specs.Record.{record_as, end_text, tally_text}
use Rattle.driver.specs.Listing.{ended, no_line, a_line, at_end, lines, refused_first}
use Rattle.playing.specs.Listing.{ReadAs, Opens, opens, counted, nothing}
use Rattle.reference_points.specs.{Numbers.opening, Sample.{sample_journal, SampleTheorem}}
use Rattle.reference_points.proofs.{Rows.calling, Lines.answer, Reading.{line, call}}

-- the first line opens an engine
first : NextOf sample_journal 0 0 (Ok (Some (Opening 1 (opening 1 1 1 10 1) 42)))
unfolding answer
first = line sample_journal 0 0 refl refl

-- the other lines are these calls
abbrev pub calls : List Entry
calls = call (Store AsDigits 0 0) (text "07") ∷ call (Serve 0) [] ∷ call (Receive 0) [] ∷ call (Store AsDigits 0 0) (text "07") ∷ call (Load 0 0) [] ∷ call (Take 0) [] ∷ []

reads : ReadAs sample_journal 1 42 calls ended
unfolding answer
reads =
    record {
      to = 175;
      steps =
          a_line (line sample_journal 1 42 refl refl)
          (a_line (line sample_journal 1 73 refl refl)
          (a_line (line sample_journal 1 89 refl refl)
          (a_line (line sample_journal 1 107 refl refl)
          (a_line (line sample_journal 1 138 refl refl) (a_line (line sample_journal 1 160 refl refl) no_line)))));
      ends = at_end (at_last (lit≤ tt) (lit≤ tt) (λ e. omega arith));
    }

-- so it opens, and is read
pub opened : Opens sample_journal (opening 1 1 1 10 1) calls ended
unfolding calling
opened = record { form = 1; next = 42; first = first; accepted = refl; reads = reads }

-- a reader goes from line to line
passed : Reached sample_journal 7 175 1
unfolding answer
passed =
    on (on (on (on (on (on (on start first refl) (line sample_journal 1 42 refl refl) refl) (line sample_journal 1 73 refl refl) refl)
    (line sample_journal 1 89 refl refl) refl) (line sample_journal 1 107 refl refl) refl) (line sample_journal 1 138 refl refl) refl)
    (line sample_journal 1 160 refl refl) refl

pub sample_theorem : SampleTheorem
unfolding calling run decimal decimal_up_to hex record_as end_text tally_text lines how_many
sample_theorem =
    record {
      listing = opens opened;
      counts = tally (run calls 1 (fresh_machine (opening 1 1 1 10 1))).records;
      tally = counted opened;
      line = refl;
      reader = passed;
      digits = refl;
      none = nothing_met;
      empty = nothing (refused_first (empty (lit≤ tt) (lit≤ tt) refl));
      zeros = refl;
    }
