-- The listing of a journal in a lent buffer: what `start` alone writes, or `start` and then `play` in what is left.
use Prim.Native.Nat.{ℕ, ◌+◌, ◌-◌, ◌≤◌}
use mathlib.Core.{Path.{◌≡◌, refl, sym, ◌∙◌, ap, subst, subst₂}, Bool.{true, false}, List.{List, [], ◌∷◌, ◌++◌}}
use native.Mathlib.Omega.{arith}
use lib.ListN.{length, take, drop, replicate, length-append, length-drop, take-append-drop}
use lib.Seq.{length-take-le, take-append-le, drop-append-le, take-append-add, drop-append-add, drop-drop}
use borrow.Rule.Slice.PartMut.{mid_of, put_mid, post_of}
use Rattle.protocol.specs.{Buffers.{Bytes, private_length, shared_length}, Step.open_reply, Run.place, declared.Counts.Counts}
use Rattle.protocol.proofs.Tests.{never}
use Rattle.listing.specs.Record.{record_text}
use Rattle.driver.specs.{Listing.not_opened, declared.{Checkpoint.Checkpoint, Progress.{Progress, TheVariants.More}, Played.Played}}
use Rattle.driver.specs.Play.{run_from, resumable, Fills, Tells, finished, more, unfit, Plays, Begins, opens, fails, no_room, no_room_to_end, Starts}
use Rattle.driver.proofs.{Reading.known, Resuming.leads_on}
use Rattle.playing.specs.{Calls.{joined, more_to_play}, Pieces.{lines_of, Pieces, opens as opens_pieces, fails as fails_pieces}}
use Rattle.playing.proofs.{OneReading.one_reading_theorem, Writing.text_and_room, Whole.begins_pieces}
use Rattle.playing.proofs.Pieces.{joined_one, joined_lines, joined_pieces, PiecesAt, onward, ended, piece_first}
use Rattle.whole.specs.Whole.{end_of, Lists}
use Rattle.whole.proofs.Fitting.{Fits, fits_all, fits_some, fits_after, put_texts}

-- ---- the first call alone

-- the pieces of a journal's listing, of which those that have room in n bytes are t
record ListedIn (j : Bytes) (n : ℕ) (t : Bytes) (g : Progress) : Type 0 where
  pub pieces : List Bytes
  pub listing : Pieces j pieces
  pub fits : Fits pieces n t g

begins_listed :
    {j : Bytes} {there : Checkpoint} {text : Bytes} {room : ℕ} {g : Progress} → Begins j there text room g → more_to_play g ≡ false
    → ListedIn j (length text + room) text g
unfolding joined
begins_listed (opens x h t u) e = never e
begins_listed (fails {r = n} x t u) e =
    record { pieces = not_opened n ∷ []; listing = fails_pieces x; fits = fits_all _ (u ∙ sym (joined_one (not_opened n))) (omega arith) }
begins_listed {j} (no_room {form = f} {o = o} {next = n} x h t u r) e =
    let i = one_reading_theorem j f n (known x).1 in
    record {
      pieces = _;
      listing = opens_pieces (record { form = f; next = n; first = x; accepted = h; reads = i.holds });
      fits = fits_some [] (record_text (place 0) (open_reply o)) _ u (omega arith) (omega (arith, r)) refl;
    }
begins_listed (no_room_to_end {r = n} x t u r) e =
    record { pieces = not_opened n ∷ []; listing = fails_pieces x; fits = fits_some [] (not_opened n) [] u (omega arith) (omega (arith, r)) refl }

pub start_lists : {j old new : Bytes} {r : Played} → Starts j old new r → more_to_play r.progress ≡ false → Lists j old new (end_of r.progress r.written)
start_lists {j} {old} {new} {r} x e =
    let b = begins_listed x.begins e in
    record {
      texts = b.pieces;
      listing = b.listing;
      put = put_texts x.fills (subst (λ (n : ℕ). Fits b.pieces n (take r.written new) r.progress) (text_and_room x.fills) b.fits);
    }

-- ---- the call that plays on

-- the pieces of a journal's listing from a checkpoint on, of which those that have room in n bytes are t
record ListedFrom (j : Bytes) (from : Checkpoint) (p q : Bytes) (n : ℕ) (t : Bytes) (g : Progress) : Type 0 where
  pub pieces : List Bytes
  pub counts : Counts
  pub at : PiecesAt j from p q pieces counts
  pub fits : Fits pieces n t g

told_listed :
    {j : Bytes} {from : Checkpoint} {p q : Bytes} {there : Checkpoint} {p' q' text : Bytes} {room : ℕ} {g : Progress} → Tells j from p q there p' q' text room g
    → resumable (length j) from ≡ true → ListedFrom j from p q (length text + room) text g
told_listed {from = from} {p} {q} (finished {gs = gs} s l r t) k =
    record {
      pieces = _;
      counts = _;
      at = onward l (ended r);
      fits = fits_all _ (t ∙ sym (joined_pieces (run_from from p q gs).records _)) (omega arith);
    }
told_listed {j} {from = from} {p} {q} (more {gs = gs} {t = u} s l w y h) k =
    let i = piece_first (leads_on s l).named y in
    record {
      pieces = _;
      counts = _;
      at = onward l i.at;
      fits = fits_some (lines_of (run_from from p q gs).records) u i.rest (w ∙ sym (joined_lines (run_from from p q gs).records)) (omega arith) (omega (arith, h)) refl;
    }
told_listed (unfit s a b d t) k = never (sym k ∙ s)

-- the output after both calls: what the first wrote, and in the part that was left what the second did
module _ {j old mid : Bytes} {r : Played} (x : Starts j old mid r) {p q p' q' part : Bytes} {s : Played}
    (y : Plays j r.checkpoint p q (mid_of r.written (length mid - r.written) mid) p' q' part s) where
  abbrev k : ℕ
  k = length mid - r.written

  abbrev new : Bytes
  new = put_mid r.written k mid part

  -- the part that was left
  left : length (mid_of r.written k mid) ≡ k
  left = length-take-le k (drop r.written mid) (omega (arith, length-drop r.written mid))

  part_length : length part ≡ k
  part_length = y.fills.size ∙ left

  head_length : length (take r.written mid) ≡ r.written
  head_length = length-take-le r.written mid x.fills.within

  pub new_length : length new ≡ length old
  new_length =
      omega (
        arith,
        length-append (take r.written mid) (part ++ post_of r.written k mid),
        length-append part (post_of r.written k mid),
        head_length,
        part_length,
        length-drop k (drop r.written mid),
        length-drop r.written mid,
        x.fills.size,
        x.fills.within,
      )

  -- both texts have room, and what is left tells where they end
  pub rest_within : s.written ≤ k
  rest_within = omega (arith, y.fills.within, part_length)

  pub left_within : k - s.written ≤ length new
  left_within = omega (arith, new_length, x.fills.size)

  end_is : length new - (k - s.written) ≡ r.written + s.written
  end_is = omega (arith, new_length, x.fills.size, x.fills.within, rest_within)

  text_both : take (r.written + s.written) new ≡ take r.written mid ++ take s.written part
  text_both =
      ap (λ (i : ℕ). take (i + s.written) new) (sym head_length)
      ∙ take-append-add (take r.written mid) (part ++ post_of r.written k mid) s.written
      ∙ ap (λ (l : Bytes). take r.written mid ++ l) (take-append-le s.written part (post_of r.written k mid) y.fills.within)

  fills_both : Fills old new (r.written + s.written)
  fills_both =
      record {
        size = new_length;
        within = omega (arith, new_length, x.fills.size, x.fills.within, rest_within);
        beyond =
            ap (λ (i : ℕ). drop (i + s.written) new) (sym head_length)
            ∙ drop-append-add (take r.written mid) (part ++ post_of r.written k mid) s.written
            ∙ drop-append-le s.written part (post_of r.written k mid) y.fills.within
            ∙ ap (λ (l : Bytes). l ++ post_of r.written k mid) y.fills.beyond
            ∙ sym (drop-append-le s.written (mid_of r.written k mid) (post_of r.written k mid) (omega (arith, y.fills.within, y.fills.size)))
            ∙ ap (drop s.written) (take-append-drop k (drop r.written mid))
            ∙ ap (drop s.written) x.fills.beyond
            ∙ drop-drop s.written r.written old;
      }

  pub play_lists :
      r.progress ≡ More → resumable (length j) r.checkpoint ≡ true → p ≡ replicate (private_length r.checkpoint.state.opening) 0
      → q ≡ replicate (shared_length r.checkpoint.state.opening) 0 → Lists j old new (end_of s.progress (r.written + s.written))
  play_lists e h ep eq =
      let b = told_listed y.tells h in
      let w = begins_pieces x.begins e (subst₂ (λ (u v : Bytes). PiecesAt j r.checkpoint u v b.pieces b.counts) ep eq b.at) in
      let n : length (take r.written mid) + (length (take s.written part) + (length part - s.written)) ≡ length old =
      omega (arith, head_length, text_and_room y.fills, left, x.fills.within, x.fills.size) in
      record {
        texts = take r.written mid ∷ b.pieces;
        listing = w.0;
        put =
            put_texts fills_both
            (subst₂ (λ (m : ℕ) (t : Bytes). Fits (take r.written mid ∷ b.pieces) m t s.progress) n (sym text_both) (fits_after (take r.written mid) b.fits));
      }
