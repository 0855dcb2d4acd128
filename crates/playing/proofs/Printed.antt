-- A text prints one list of commits at most, and the listing of a journal prints the commits of its run; so what holds of the commits of every
-- run holds of those that a listing prints.
use Prim.Native.Nat.{ℕ, suc}
use mathlib.Core.{Path.{◌≡◌, refl, sym, ap₂, subst}, List.{List, [], ◌∷◌, ◌++◌, append_assoc, append-nil}}
use lib.ListN.{replicate}
use borrow.Author.Tests.{eq-eqb}
use Rattle.protocol.specs.{Given.bytes_given, Buffers.Bytes, Refusals.open_refusal, Machine.{Machine, fresh_machine}}
use Rattle.protocol.specs.{Step.{Reply, refused, done, commit, step, open_reply}, Run.{Entry, place, run, Commit, commit_of, commits}}
use Rattle.protocol.specs.{Order.{commits_of, OfEveryRun, OneTsoOrder}, Sequential.SequentialIfFenced}
use Rattle.protocol.specs.declared.{Place.Place, Opening.Opening as Sizes, Counts.Counts, Name.TheVariants.Open}
use Rattle.protocol.proofs.{Own.{Own, step_own}, Order.{Theorem.{order_theorem, sort_theorem}, Sequential.sequential_theorem}}
use Rattle.spelling.proofs.Texts.{some_line, cut_line}
use Rattle.listing.specs.Record.{record_as, record_text, end_text}
use Rattle.grammar.specs.Refusal.{number}
use Rattle.driver.specs.Listing.{Ending, ended, stopped, lines, last_lines}
use Rattle.playing.specs.{Listing.opens, Printed.{a_done, a_refusal, an_end, Prints, no_line, a_commit, another}}
use Rattle.playing.specs.Printed.{OnePrintedTheorem, PrintedTheorem, OfEveryListing, ListingOrderTheorem, SequentialListingTheorem}
use Rattle.playing.proofs.{Lines.{other_line, commit_line_lem, commit_same, not_other}, OneListing.listing_same}

-- ---- a text prints one list of commits at most

-- two texts that are the same print the same
prints_same : {t u : Bytes} {H J : List (Commit Bytes)} → t ≡ u → Prints t H → Prints u J → H ≡ J
prints_same e no_line no_line = refl
prints_same e no_line (a_commit {e = y} {t = u} q) = absurd (some_line u (commit_line_lem y) (sym e))
prints_same e no_line (another {t = u} o q) = absurd (some_line u (other_line o) (sym e))
prints_same e (a_commit {e = x} {t = t} p) no_line = absurd (some_line t (commit_line_lem x) e)
prints_same e (a_commit {e = x} {t = t} p) (a_commit {e = y} {t = u} q) =
    let i = cut_line t u (commit_line_lem x) (commit_line_lem y) e in
    ap₂ (λ (a : Commit Bytes) (l : List (Commit Bytes)). a ∷ l) (commit_same x y i.0) (prints_same i.1 p q)
prints_same e (a_commit {e = x} {t = t} p) (another {t = u} o q) = absurd (not_other x o (cut_line t u (commit_line_lem x) (other_line o) e).0)
prints_same e (another {t = t} o p) no_line = absurd (some_line t (other_line o) e)
prints_same e (another {t = t} o p) (a_commit {e = y} {t = u} q) = absurd (not_other y o (sym (cut_line t u (other_line o) (commit_line_lem y) e).0))
prints_same e (another {t = t} o p) (another {t = u} o' q) = prints_same (cut_line t u (other_line o) (other_line o') e).1 p q

pub one_printed_theorem : OnePrintedTheorem
one_printed_theorem t H J p q = prints_same refl p q

-- ---- the listing of a journal prints the commits of its run

-- the record of a call prints the call's commit, or none
record_prints : (p : Place) (g : Entry) (r : Reply) {t : Bytes} {H : List (Commit Bytes)} → Own p g.call (bytes_given g.call g.given) r
    → Prints t H → Prints (record_text p r ++ t) (commit_of p g r ++ H)
unfolding record_as
record_prints p g (refused n) w x = another (a_refusal p.0 n) x
record_prints p g (done d) w x = another (a_done p.0 d) x
record_prints p g (commit c t o) w x = rw w (a_commit {e = record { place = p; core = c; ts = t; op = o }} x)

-- the records of a run, before lines that print no commit
run_prints : (gs : List Entry) (p : ℕ) (m : Machine) {t : Bytes} → Prints t [] → Prints (lines (run gs p m).records ++ t) (commits (run gs p m).records)
unfolding run lines commits
run_prints [] p m x = x
run_prints (g ∷ gs) p m {t} x =
    let r = step m g.call g.given in
    rw (append_assoc (record_text (place p) r.reply) (lines (run gs (suc p) r.machine).records) t)
    (record_prints (place p) g r.reply (step_own (place p) m g.call g.given) (run_prints gs (suc p) r.machine x))

-- the last lines print none
end_prints : (k : Counts) → Prints (end_text k) []
end_prints k = subst (λ (t : Bytes). Prints t []) (append-nil (end_text k)) (another (an_end k) no_line)

last_prints : (k : Counts) (e : Ending) → Prints (last_lines k e) []
unfolding record_as
last_prints k ended = end_prints k
last_prints k (stopped n) = another (a_refusal _ (number n)) (end_prints _)

-- nor does the first, of an opening that is accepted
opening_prints : (o : Sizes) {t : Bytes} {H : List (Commit Bytes)} → open_refusal o ≡ 0 → Prints t H → Prints (record_text (place 0) (open_reply o) ++ t) H
unfolding record_as
opening_prints o e x = rw (eq-eqb (open_refusal o) 0 e) (another (a_done 0 Open) x)

pub printed_theorem : PrintedTheorem
printed_theorem journal text o gs e w l =
    subst (λ (t : Bytes). Prints t (commits_of o gs)) (listing_same (opens w) l)
    (opening_prints o w.accepted (run_prints gs 1 (fresh_machine o) (last_prints _ e)))

-- ---- the sorted order

-- what holds of the commits of every run holds of those that a listing prints
of_runs : (Claim : Bytes → List (Commit Bytes) → Type 0) → OfEveryRun Claim → OfEveryListing Claim
of_runs Claim f journal text o gs e w l H p =
    let same = one_printed_theorem text (commits_of o gs) H (printed_theorem journal text o gs e w l) p in
    subst (λ (J : List (Commit Bytes)). Claim (replicate o.width 0) J) same (f o w.accepted gs)

pub listing_order_theorem : ListingOrderTheorem
listing_order_theorem = of_runs OneTsoOrder (λ o z gs. (sort_theorem o gs, order_theorem o z gs))

pub sequential_listing_theorem : SequentialListingTheorem
sequential_listing_theorem = of_runs SequentialIfFenced sequential_theorem
