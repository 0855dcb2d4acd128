-- The listing and the tally of the short journal of `fabric=2`: what each line says, and what the engine answers.
use mathlib.Core.{Path.refl, List.{List, [], ◌∷◌}}
use Rattle.protocol.specs.{Pick.how_many, Machine.fresh_machine, Run.{Entry, run}, Counts.tally}
use Rattle.protocol.specs.declared.Call.TheVariants.{Load, Store, Drop, Writeback as WriteBack, Serve, Receive, Victim}
use Rattle.protocol.specs.declared.{Given.TheVariants.Digits as AsDigits, Opening.Opening as Sizes}
use Rattle.spelling.specs.{Decimal.{decimal, decimal_up_to}, Hex.hex, Text.text}
use Rattle.std.specs.Prelude.{Some, Ok}
use Rattle.grammar.specs.declared.Refusal.TheVariants.{NoForm}
use Rattle.journal.specs.{Journal.NextOf, Theorems.{Reached, start, on}, declared.Item.TheVariants.Opening}
use Rattle.listing.specs.Record.{record_as, end_text, tally_text}
use Rattle.driver.specs.Listing.{stopped, no_line, a_line, at_refusal, lines}
use Rattle.playing.specs.Listing.{ReadAs, Opens, opens, counted}
use Rattle.reference_points.specs.{Numbers.opening, SecondForm.{second_journal, SecondFormTheorem}}
use Rattle.reference_points.proofs.{Rows.calling, Lines.answer, Reading.{line, call}}

-- the first line opens an engine
abbrev sizes : Sizes
sizes = opening 1 2 1 10 1

first : NextOf second_journal 0 0 (Ok (Some (Opening 2 sizes 48)))
unfolding answer
first = line second_journal 0 0 refl refl

-- the other lines are these calls
abbrev calls : List Entry
calls =
    call (Store AsDigits 0 0) (text "07") ∷ call (Serve 0) [] ∷ call (Receive 0) [] ∷ call (Victim 0) [] ∷ call (Load 0 1) [] ∷ call (Serve 0) []
    ∷ call (Receive 0) [] ∷ call (Drop 0 0) [] ∷ call (WriteBack 0 0) [] ∷ call (Receive 0) [] ∷ []

reads : ReadAs second_journal 2 48 calls (stopped NoForm)
unfolding answer
reads =
    record {
      to = 253;
      steps = a_line (line second_journal 2 48 refl refl) (a_line (line second_journal 2 79 refl refl) (a_line (line second_journal 2 95 refl refl) (a_line (line second_journal 2 113 refl refl) (a_line (line second_journal 2 130 refl refl) (a_line (line second_journal 2 152 refl refl) (a_line (line second_journal 2 168 refl refl) (a_line (line second_journal 2 186 refl refl) (a_line (line second_journal 2 208 refl refl) (a_line (line second_journal 2 235 refl refl) no_line)))))))));
      ends = at_refusal (line second_journal 2 253 refl refl);
    }

-- so it opens, and is read
opened : Opens second_journal sizes calls (stopped NoForm)
unfolding calling
opened = record { form = 2; next = 48; first = first; accepted = refl; reads = reads }

-- a reader goes from line to line
passed : Reached second_journal 11 253 2
unfolding answer
passed = on (on (on (on (on (on (on (on (on (on (on start first refl) (line second_journal 2 48 refl refl) refl) (line second_journal 2 79 refl refl) refl) (line second_journal 2 95 refl refl) refl) (line second_journal 2 113 refl refl) refl) (line second_journal 2 130 refl refl) refl) (line second_journal 2 152 refl refl) refl) (line second_journal 2 168 refl refl) refl) (line second_journal 2 186 refl refl) refl) (line second_journal 2 208 refl refl) refl) (line second_journal 2 235 refl refl) refl

pub second_form_theorem : SecondFormTheorem
unfolding calling run decimal decimal_up_to hex record_as end_text tally_text lines how_many
second_form_theorem =
    record {
      listing = opens opened;
      counts = tally (run calls 1 (fresh_machine sizes)).records;
      tally = counted opened;
      line = refl;
      reader = passed;
    }
