-- The runs, the calls and the listing that the claims are used for are there: antt computes them.
use mathlib.Core.{Path.{◌≡◌, refl, subst}, List.{List, [], ◌∷◌, map}}
use native.Mathlib.Omega.{arith}
use lib.Dec.{lit≤}
use Rattle.protocol.specs.{Buffers.{part, copy_start}, Machine.{Machine, fresh_machine, core_of, line_of}, Step.{meaning, step}, Run.{Entry, run, commits}}
use Rattle.protocol.specs.declared.{Call.TheVariants.{Load, Store, Serve, Receive, Take}, Given.TheVariants.Digits as AsDigits}
use Rattle.protocol.specs.declared.{Answer.TheVariants.Done as Named, Name.TheVariants.Open}
use Rattle.spelling.specs.Text.{text}
use Rattle.tables.specs.Spans.{span_of}
use Rattle.engine.specs.History.{MadeFrom, none, next, records_of, history}
use Rattle.std.specs.Prelude.{Some, Ok}
use Rattle.journal.specs.{Journal.{NextOf, ended as at_last}, declared.Item.TheVariants.Opening}
use Rattle.driver.specs.Listing.{ended, no_line, a_line, at_end}
use Rattle.playing.{specs.Listing.{ReadAs, Opens, opens}, proofs.Printed.printed_theorem}
use Rattle.reference_points.specs.{Commits.{small, narrow, exchanges, given_up, spelled, filled, repeated, entry_of}, Chain.{Expected, expected, chain}}
use Rattle.reference_points.specs.Used.{pair, pair_calls, pair_commits, pair_journal, UsedTheorem}
use Rattle.reference_points.proofs.{Rows.calling, Lines.answer, Reading.{line, call}, Commits.commits_theorem}

-- ---- the calls

-- each call returns what is expected of it
Returns : Machine → List Expected → Type 0
Returns m [] = Unit {0}
Returns m (expected call bs a s n ∷ ks) =
    (meaning a (part (step m call bs).machine.private s n) ≡ (step m call bs).reply)
    × (record { start = s; count = n } ≡ span_of a (copy_start m.state.opening (core_of call m.state) (line_of call m.state)) m.state.opening.width)
    × Returns (step m call bs).machine ks

made : (m : Machine) (ks : List Expected) → Returns m ks → MadeFrom m (chain m ks)
unfolding Returns
made m [] f = none
made m (expected call bs a s n ∷ ks) f = next (record { reply = f.0; machine = refl; span = f.1 }) (made (step m call bs).machine ks f.2)

pair_returns : Returns (fresh_machine pair) pair_calls
unfolding calling Returns
pair_returns = (refl, refl, (refl, refl, (refl, refl, (refl, refl, (refl, refl, (refl, refl, (refl, refl, tt)))))))

pair_committed : history (chain (fresh_machine pair) pair_calls) ≡ pair_commits
unfolding calling commits records_of
pair_committed = refl

-- ---- the journal

first : NextOf pair_journal 0 0 (Ok (Some (Opening 1 pair 42)))
unfolding answer
first = line pair_journal 0 0 refl refl

abbrev steps : List Entry
steps = call (Store AsDigits 1 0) (text "07") ∷ call (Serve 1) [] ∷ call (Receive 1) [] ∷ call (Store AsDigits 1 0) (text "07") ∷ call (Load 1 0) [] ∷ call (Take 0) [] ∷ []

reads : ReadAs pair_journal 1 42 steps ended
unfolding answer
reads =
    record {
      to = 175;
      steps =
          a_line (line pair_journal 1 42 refl refl)
          (a_line (line pair_journal 1 73 refl refl)
          (a_line (line pair_journal 1 89 refl refl)
          (a_line (line pair_journal 1 107 refl refl)
          (a_line (line pair_journal 1 138 refl refl) (a_line (line pair_journal 1 160 refl refl) no_line)))));
      ends = at_end (at_last (lit≤ tt) (lit≤ tt) (λ e. omega arith));
    }

opened : Opens pair_journal pair steps ended
unfolding calling
opened = record { form = 1; next = 42; first = first; accepted = refl; reads = reads }

-- ---- the claims

pub used_theorem : UsedTheorem
unfolding calling run commits
used_theorem =
    record {
      runs = λ Claim f. (
        subst (Claim (0 ∷ 0 ∷ [])) commits_theorem.0.committed (f small refl (map entry_of exchanges)),
        subst (Claim (0 ∷ 0 ∷ [])) commits_theorem.1.committed (f small refl (map entry_of given_up)),
        subst (Claim (0 ∷ 0 ∷ [])) commits_theorem.2.committed (f small refl (map entry_of spelled)),
        subst (Claim (0 ∷ 0 ∷ [])) commits_theorem.3.committed (f narrow refl (map entry_of filled)),
        subst (Claim (0 ∷ 0 ∷ [])) commits_theorem.4.committed (f small refl (map entry_of repeated)),
      );
      histories = λ Claim f.
          subst (Claim (0 ∷ [])) pair_committed
          (f pair (record { answer = Named Open; state = (fresh_machine pair).state }) (record { reply = refl; state = refl }) refl _ (made (fresh_machine pair) pair_calls pair_returns));
      listings = λ Claim f. f _ _ _ _ _ opened (opens opened) _ (printed_theorem _ _ _ _ _ opened (opens opened));
    }
