-- The texts of the calls that play a journal, put together, are its listing, and what they counted is its tally.
use Prim.Native.Nat.{ℕ}
use mathlib.Core.{Path.{◌≡◌, sym, ◌∙◌, ap, ap₂, subst}, List.{List, ◌∷◌, ◌++◌, append-nil}}
use native.Mathlib.Omega.{arith}
use lib.ListN.{replicate}
use Rattle.protocol.specs.{Buffers.{Bytes, private_length, shared_length}, declared.Counts.Counts}
use Rattle.driver.specs.declared.{Checkpoint.Checkpoint, Progress.{Progress, TheVariants.{Finished, More}}}
use Rattle.driver.specs.Play.{run_from, Tells, finished, more, unfit, first_checkpoint, Begins, opens, fails, no_room, no_room_to_end}
use Rattle.driver.proofs.Counting.{none_plus}
use Rattle.playing.specs.Listing.{Opens, Listing, fails as fails_listing, Tally, counted, nothing}
use Rattle.playing.specs.{Calls.{joined, PlaysOn, last, next, over, begun}, Pieces.{lines_of, Pieces, opens as opens_pieces}, Theorems.WholeTheorem}
use Rattle.playing.proofs.Pieces.{joined_append, joined_lines, joined_pieces, pieces_theorem, PiecesAt, onward, ended}

-- ---- from a checkpoint on

-- the text t is the listing of a journal from a checkpoint on, with the buffers p and q, and k is what was counted at its end
record ListingAt (j : Bytes) (from : Checkpoint) (p q t : Bytes) (k : Counts) : Type 0 where
  pub pieces : List Bytes
  pub at : PiecesAt j from p q pieces k
  pub text : t ≡ joined pieces

-- what a call of `play` that is finished wrote is the listing from its checkpoint
told_finished :
    {j : Bytes} {from : Checkpoint} {p q : Bytes} {there : Checkpoint} {p' q' text : Bytes} {room : ℕ} {g : Progress} → Tells j from p q there p' q' text room g
    → g ≡ Finished → ListingAt j from p q text there.counts
told_finished {from = from} {p} {q} (finished {gs = gs} s l r t) e =
    record {
      pieces = _;
      at = onward l (ended r);
      text = t ∙ sym (joined_pieces (run_from from p q gs).records _);
    }
told_finished (more s l t x h) e = absurd (let z : ◌≡◌ {A = ℕ} 0 1 = cc in omega arith)
told_finished (unfit s a b d t) e = absurd (let z : ◌≡◌ {A = ℕ} 0 1 = cc in omega arith)

-- and what one that goes on wrote is before the listing from where it got to
told_more :
    {j : Bytes} {from : Checkpoint} {p q : Bytes} {there : Checkpoint} {p' q' text : Bytes} {room : ℕ} {g : Progress} → Tells j from p q there p' q' text room g
    → g ≡ More → {u : Bytes} {k : Counts} → ListingAt j there p' q' u k → ListingAt j from p q (text ++ u) k
told_more (finished s l r t) e x = absurd (let z : ◌≡◌ {A = ℕ} 0 1 = cc in omega arith)
told_more {from = from} {p} {q} (more {gs = gs} s l t y h) e x =
    record {
      pieces = _;
      at = onward l x.at;
      text =
          ap₂ (λ (a b : Bytes). a ++ b) t x.text
          ∙ sym (joined_append (lines_of (run_from from p q gs).records) x.pieces ∙ ap (λ (a : Bytes). a ++ joined x.pieces) (joined_lines (run_from from p q gs).records));
    }
told_more (unfit s a b d t) e x = absurd (let z : ◌≡◌ {A = ℕ} 0 1 = cc in omega arith)

-- ---- the calls

plays_on : {j : Bytes} {from : Checkpoint} {p q : Bytes} {ts : List Bytes} {k : Counts} → PlaysOn j from p q ts k → ListingAt j from p q (joined ts) k
unfolding joined
plays_on {j} {from} {p} {q} {k = k} (last x e) = subst (λ (t : Bytes). ListingAt j from p q t k) (sym (append-nil _)) (told_finished x.tells e)
plays_on (next x e c) = told_more x.tells e (plays_on c)

-- the text is a journal's listing, and the counts are its tally
abbrev Whole : Bytes → Bytes → Counts → Type 0
Whole j t k = Listing j t × Tally j k

begins_finished :
    {j : Bytes} {there : Checkpoint} {text : Bytes} {room : ℕ} {g : Progress} → Begins j there text room g → g ≡ Finished → Whole j text there.counts
begins_finished (opens x h t u) e = absurd (let z : ◌≡◌ {A = ℕ} 0 1 = cc in omega arith)
begins_finished {j} (fails n t u) e =
    (subst (Listing j) (sym u) (fails_listing n), subst (λ (s : Checkpoint). Tally j s.counts) (sym t) (nothing n))
begins_finished (no_room x h t u r) e = absurd (let z : ◌≡◌ {A = ℕ} 0 1 = cc in omega arith)
begins_finished (no_room_to_end n t u r) e = absurd (let z : ◌≡◌ {A = ℕ} 0 1 = cc in omega arith)

-- a first line that opens an engine, and the pieces from there on, are the pieces of the journal's listing, and the counts are its tally
pub begins_pieces :
    {j : Bytes} {there : Checkpoint} {text : Bytes} {room : ℕ} {g : Progress} → Begins j there text room g → g ≡ More → {ts : List Bytes} {k : Counts}
    → PiecesAt j there (replicate (private_length there.state.opening) 0) (replicate (shared_length there.state.opening) 0) ts k
    → Pieces j (text ∷ ts) × Tally j k
begins_pieces {j} (opens {form = f} {o = o} {next = n} x h t v) e {ts} {k} y =
    let w : PiecesAt j (first_checkpoint n f o) (replicate (private_length o) 0) (replicate (shared_length o) 0) ts k =
    subst (λ (s : Checkpoint). PiecesAt j s (replicate (private_length s.state.opening) 0) (replicate (shared_length s.state.opening) 0) ts k) t y in
    let r : Opens j o w.steps w.ending = record { form = f; next = n; first = x; accepted = h; reads = w.reads } in
    (subst (Pieces j) (sym (ap₂ (λ (a : Bytes) (b : List Bytes). a ∷ b) v w.texts)) (opens_pieces r), subst (Tally j) (sym (w.counts ∙ none_plus _)) (counted r))
begins_pieces (fails n t v) e y = absurd (let z : ◌≡◌ {A = ℕ} 0 1 = cc in omega arith)
begins_pieces (no_room x h t v r) e y = absurd (let z : ◌≡◌ {A = ℕ} 0 1 = cc in omega arith)
begins_pieces (no_room_to_end n t v r) e y = absurd (let z : ◌≡◌ {A = ℕ} 0 1 = cc in omega arith)

begins_more :
    {j : Bytes} {there : Checkpoint} {text : Bytes} {room : ℕ} {g : Progress} → Begins j there text room g → g ≡ More → {u : Bytes} {k : Counts}
    → ListingAt j there (replicate (private_length there.state.opening) 0) (replicate (shared_length there.state.opening) 0) u k → Whole j (text ++ u) k
unfolding joined
begins_more {j} {text = text} b e y =
    let w = begins_pieces b e y.at in
    (subst (λ (u : Bytes). Listing j (text ++ u)) (sym y.text) (pieces_theorem j _ w.0), w.1)

pub whole_theorem : WholeTheorem
unfolding joined
whole_theorem j ts k (over x e) = subst (λ (t : Bytes). Whole j t k) (sym (append-nil _)) (begins_finished x.begins e)
whole_theorem j ts k (begun x e c) = begins_more x.begins e (plays_on c)
