-- The listing of a journal in pieces, from a checkpoint on: the pieces of the steps that lead to another checkpoint, and those from there on.
use Prim.Native.Nat.{ℕ, ◌+◌}
use mathlib.Core.{Path.{◌≡◌, refl, sym, ◌∙◌, ap, ap₂}, List.{List, [], ◌∷◌, ◌++◌, append-nil, append_assoc}}
use native.Mathlib.Omega.{arith}
use lib.ListN.{length}
use Rattle.protocol.specs.{Pick.how_many, Buffers.Bytes, Machine.{Machine, machine}, Counts.{sum, tally}, Run.{Entry, Record, run}}
use Rattle.protocol.specs.declared.Counts.{Counts}
use Rattle.listing.specs.Record.{record_text}
use Rattle.driver.specs.{Listing.{Ending, entry_at, no_line, a_line, EndsAt, lines, last_lines}, declared.Checkpoint.Checkpoint}
use Rattle.driver.specs.Play.{run_from, Leads, Piece, a_step, the_end}
use Rattle.driver.proofs.{Running.{steps_append, run_records, run_length}, Counting.{plus_assoc, plus_none, tally_append}}
use Rattle.playing.specs.{Listing.{ReadAs, opens as opens_listing, fails as fails_listing}, Calls.joined}
use Rattle.playing.specs.{Pieces.{lines_of, pieces_from, opens, fails}, Theorems.PiecesTheorem}
use Rattle.playing.proofs.OneReading.{one_reading_theorem}

-- ---- texts put together

pub joined_append : (ts us : List Bytes) → joined (ts ++ us) ≡ joined ts ++ joined us
unfolding joined
joined_append [] us = refl
joined_append (t ∷ ts) us = ap (λ (u : Bytes). t ++ u) (joined_append ts us) ∙ sym (append_assoc t (joined ts) (joined us))

pub joined_one : (t : Bytes) → joined (t ∷ []) ≡ t
unfolding joined
joined_one t = append-nil t

pub joined_lines : (rs : List Record) → joined (lines_of rs) ≡ lines rs
unfolding joined lines_of lines
joined_lines [] = refl
joined_lines (r ∷ rs) = ap (λ (u : Bytes). record_text r.place r.reply ++ u) (joined_lines rs)

lines_of_append : (rs ts : List Record) → lines_of (rs ++ ts) ≡ lines_of rs ++ lines_of ts
unfolding lines_of
lines_of_append [] ts = refl
lines_of_append (r ∷ rs) ts = ap (λ (u : List Bytes). record_text r.place r.reply ∷ u) (lines_of_append rs ts)

-- the records' lines and the last lines
pub joined_pieces : (rs : List Record) (u : Bytes) → joined (lines_of rs ++ (u ∷ [])) ≡ lines rs ++ u
joined_pieces rs u = joined_append (lines_of rs) (u ∷ []) ∙ ap₂ (λ (a b : Bytes). a ++ b) (joined_lines rs) (joined_one u)

-- THE PIECES of a journal's listing, put together, are its listing
pub pieces_theorem : PiecesTheorem
unfolding joined
pieces_theorem j ts (opens {o = o} {gs = gs} {e = e} x) =
    rw (joined_pieces _ _) (opens_listing x)
pieces_theorem j ts (fails {r = n} x) = rw (joined_one _) (fails_listing x)

-- ---- from a checkpoint on

-- the steps gs and then hs, after k was met, have the records of gs and then those of hs, after what was met with gs
records_append :
    (m : Machine) (k : Counts) (gs hs : List Entry) → let rs : List Record = (run gs (k.steps + 1) m).records in
    (run (gs ++ hs) (k.steps + 1) m).records ≡ rs ++ (run hs ((sum k (tally rs)).steps + 1) (run gs (k.steps + 1) m).last).records
records_append m k gs hs =
    let rs : List Record = (run gs (k.steps + 1) m).records in
    let n : k.steps + 1 + length gs ≡ k.steps + length rs + 1 = omega (arith, run_length gs (k.steps + 1) m) in
    run_records gs hs (k.steps + 1) m ∙ ap (λ (i : ℕ). rs ++ (run hs i (run gs (k.steps + 1) m).last).records) n

-- and are counted so
counts_append : (k : Counts) (rs ts : List Record) → sum k (tally (rs ++ ts)) ≡ sum (sum k (tally rs)) (tally ts)
counts_append k rs ts = ap (sum k) (tally_append rs ts) ∙ sym (plus_assoc k (tally rs) (tally ts))

-- the texts ts are the pieces of a journal's listing from a checkpoint on, with the buffers p and q, and k is what was counted at its end
pub record PiecesAt (j : Bytes) (from : Checkpoint) (p q : Bytes) (ts : List Bytes) (k : Counts) : Type 0 where
  pub steps : List Entry
  pub ending : Ending
  pub reads : ReadAs j from.form from.at steps ending
  pub texts : ts ≡ pieces_from (machine from.state p q) from.counts steps ending
  pub counts : k ≡ sum from.counts (tally (run_from from p q steps).records)

-- THE PIECES FROM HERE are the lines of the steps that lead there, and the pieces from there
pub onward :
    {j : Bytes} {a b : Checkpoint} {p q p' q' : Bytes} {gs : List Entry} → Leads j a p q gs b p' q' → {ts : List Bytes} {k : Counts}
    → PiecesAt j b p' q' ts k → PiecesAt j a p q (lines_of (run_from a p q gs).records ++ ts) k
onward {a = a} {b} {p} {q} {p'} {q'} {gs} l {ts} {k} x =
    let rs : List Record = (run_from a p q gs).records in
    let us : List Record = (run_from b p' q' x.steps).records in
    let all : (run_from a p q (gs ++ x.steps)).records ≡ rs ++ us =
    records_append (machine a.state p q) a.counts gs x.steps
    ∙ ap₂ (λ (c : Counts) (m : Machine). rs ++ (run x.steps (c.steps + 1) m).records) (sym l.counts) (sym l.machine) in
    let met : sum a.counts (tally (run_from a p q (gs ++ x.steps)).records) ≡ sum b.counts (tally us) =
    ap (λ (all : List Record). sum a.counts (tally all)) all ∙ counts_append a.counts rs us ∙ ap (λ (c : Counts). sum c (tally us)) (sym l.counts) in
    record {
      steps = gs ++ x.steps;
      ending = x.ending;
      reads =
          record {
            to = x.reads.to;
            steps = steps_append l.steps (rw l.form at x.reads.steps);
            ends = rw l.form at x.reads.ends;
          };
      texts =
          ap (λ (u : List Bytes). lines_of rs ++ u) x.texts
          ∙ sym (append_assoc (lines_of rs) (lines_of us) (last_lines (sum b.counts (tally us)) x.ending ∷ []))
          ∙ sym (ap₂ (λ (u : List Bytes) (c : Counts). u ++ (last_lines c x.ending ∷ [])) (ap lines_of all ∙ lines_of_append rs us) met);
      counts = x.counts ∙ sym met;
    }

-- where no step is left, the last lines are all
pub ended :
    {j : Bytes} {s : Checkpoint} {p q : Bytes} {e : Ending} → EndsAt j s.form s.at e → PiecesAt j s p q (last_lines s.counts e ∷ []) s.counts
unfolding run lines_of how_many
ended {s = s} {e = e} r =
    record {
      steps = [];
      ending = e;
      reads = record { to = s.at; steps = no_line; ends = r };
      texts = rw (plus_none s.counts);
      counts = sym (plus_none s.counts);
    }

-- the pieces from a checkpoint, the first of which is t
pub record PiecesAfter (j : Bytes) (s : Checkpoint) (p q t : Bytes) : Type 0 where
  pub rest : List Bytes
  pub counts : Counts
  pub at : PiecesAt j s p q (t ∷ rest) counts

-- what is written next from a checkpoint is the first piece from there
pub piece_first : {j : Bytes} {s : Checkpoint} {p q t : Bytes} → (s.form ≡ 0 → ⊥) → Piece j s p q t → PiecesAfter j s p q t
unfolding run lines_of
piece_first {j} {s} {p} {q} f (a_step {call = call} {start = start} {end = end} {next = next} x) =
    let r = one_reading_theorem j s.form next f in
    record {
      rest = _;
      counts = _;
      at =
          record {
            steps = entry_at j call start end ∷ r.steps;
            ending = r.ending;
            reads = record { to = r.holds.to; steps = a_line x r.holds.steps; ends = r.holds.ends };
            texts = refl;
            counts = refl;
          };
    }
piece_first f (the_end x) = record { rest = []; counts = _; at = ended x }
