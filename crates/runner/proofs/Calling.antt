-- From one call of the driver to the next, each with room, and what the writer got until then.
use Prim.Native.Nat.{ℕ, ◌≤◌, ◌<◌}
use mathlib.Core.{Path.{◌≡◌, refl, sym, ◌∙◌, ap, ap₂, subst}, Bool.{true, false}, List.{List, [], ◌++◌, append-nil, append_assoc}}
use native.Mathlib.Omega.{arith}
use lib.ListN.{length, take, drop, replicate}
use Rattle.std.specs.Prelude.{Option, Result, Ok, Err}
use Rattle.std.specs.Io.KnownBytes.{Appends}
use Rattle.std.proofs.{Common.take-append-drop, KnownBytes.{Appends-nil, Appends-trans, Keeps-refl, Keeps-trans}}
use Rattle.protocol.{specs.{Limits.opening_fits, Buffers.{Bytes, private_length, shared_length}, declared.Counts.Counts}, proofs.{Tests.never, Extents.{Inside, inside}}}
use Rattle.driver.specs.{Play.{run_from, resumable, Plays, Tells, finished, more, unfit, Starts}, declared.Checkpoint.Checkpoint}
use Rattle.driver.{specs.declared.{Progress.{Progress, TheVariants.{More}}, Played.Played}, proofs.{Resuming.resumes, Starting.start_fits}}
use Rattle.playing.specs.{Listing.Listing, Calls.{joined, PlaysOn, last, next, over, begun, more_to_play}, Pieces.lines_of}
use Rattle.playing.specs.Theorems.{Begun, listed, running, Onward}
use Rattle.playing.proofs.{Calling.{on_over, on_more, begun_over, begun_more}, Whole.{whole_theorem, begins_pieces}, Progressing.{start_advances_theorem, play_advances_theorem}, OneReading.one_reading_theorem}
use Rattle.playing.proofs.Pieces.{PiecesAt, onward as onward_pieces, ended as ended_pieces, joined_append, joined_lines, joined_pieces, pieces_theorem}
use Rattle.runner.specs.Ran.{Gets, Kept, kept, unwritten, ListingFrom, RanFrom, ended, stopped, RanWhole, whole, part}
use Rattle.runner.specs.Moved.{Gave}
use Rattle.runner.specs.declared.Texts.{Texts, TheVariants.{Written, Dropped}}

-- ---- what the writer got

pub gets_nothing : (texts : Texts) (a : Option Bytes) → Gets texts a a []
gets_nothing Written a = Appends-nil a
gets_nothing Dropped a = Keeps-refl a

pub gets_both : (texts : Texts) (a b c : Option Bytes) (t u : Bytes) → Gets texts a b t → Gets texts b c u → Gets texts a c (t ++ u)
gets_both Written a b c t u x y = Appends-trans a b c t u x y
gets_both Dropped a b c t u x y = Keeps-trans a b c x y

-- a write that failed was to be made, and the writer got a beginning of its text
pub record Begin (old new : Option Bytes) (text : Bytes) : Type 0 where
  pub got : Bytes
  pub rest : Bytes
  pub both : got ++ rest ≡ text
  pub gets : Appends old new got

cut : {T E : Type 0} {old new : Option Bytes} {text : Bytes} {texts : Texts} {e : E} → Kept {T = T} old new text texts (Err e) → Begin old new text
cut {text = text} (unwritten (n, h, a)) = record { got = take n text; rest = drop n text; both = take-append-drop n text; gets = a }

got : {T E : Type 0} {old new : Option Bytes} {text : Bytes} {texts : Texts} {v : T} → Kept {E = E} old new text texts (Ok v) → Gets texts old new text
got (kept g) = g

-- what a write came to
pub kept_of : {T E : Type 0} {old new : Option Bytes} {text : Bytes} (r : Result T E) → Gave old new r text → Kept old new text Written r
kept_of (Ok v) g = kept g
kept_of (Err e) g = unwritten g

-- ---- the listing from a checkpoint on

-- the pieces of the listing from a checkpoint on
record Rest (j : Bytes) (from : Checkpoint) (p q : Bytes) : Type 0 where
  pub pieces : List Bytes
  pub counts : Counts
  pub at : PiecesAt j from p q pieces counts

-- there are such pieces
rest_of : (j : Bytes) (from : Checkpoint) (p q : Bytes) → (from.form ≡ 0 → ⊥) → Rest j from p q
rest_of j from p q f =
    let r = one_reading_theorem j from.form from.at f in
    record { pieces = _; counts = _; at = record { steps = r.steps; ending = r.ending; reads = r.holds; texts = refl; counts = refl } }

-- put together they are the listing from there
listing_of : {j : Bytes} {from : Checkpoint} {p q t : Bytes} {ts : List Bytes} {k : Counts} → PiecesAt j from p q ts k → t ≡ joined ts → ListingFrom j from p q t
listing_of {from = from} {p} {q} x e =
    record { steps = x.steps; ending = x.ending; reads = x.reads; is = e ∙ ap joined x.texts ∙ joined_pieces (run_from from p q x.steps).records _ }

-- and the listing from there has pieces
record Pieced (j : Bytes) (from : Checkpoint) (p q t : Bytes) : Type 0 where
  pub pieces : List Bytes
  pub counts : Counts
  pub at : PiecesAt j from p q pieces counts
  pub text : joined pieces ≡ t

pieced : {j : Bytes} {from : Checkpoint} {p q t : Bytes} → ListingFrom j from p q t → Pieced j from p q t
pieced {from = from} {p} {q} x =
    record {
      pieces = _;
      counts = _;
      at = record { steps = x.steps; ending = x.ending; reads = x.reads; texts = refl; counts = refl };
      text = joined_pieces (run_from from p q x.steps).records _ ∙ sym x.is;
    }

-- ---- the calls

-- calls of `play` lead from a checkpoint with the buffers p₀ and q₀ to another with p and q, from where `play` goes on, and the writer got their
-- texts
pub record Called (j : Bytes) (from : Checkpoint) (p₀ q₀ : Bytes) (there : Checkpoint) (p q out : Bytes) (texts : Texts) (old now : Option Bytes) : Type 0 where
  pub resumable : resumable (length j) there ≡ true
  pub room : 246 ≤ length out
  pub met : Bytes
  pub got : Gets texts old now met
  -- calls from there are calls from the first checkpoint
  pub calls : (ts : List Bytes) (k : Counts) → PlaysOn j there p q ts k → (us : List Bytes) × PlaysOn j from p₀ q₀ us k × (joined us ≡ met ++ joined ts)
  -- and the listing from there is that from the first checkpoint, past what was met
  pub listing : (t : Bytes) → ListingFrom j there p q t → ListingFrom j from p₀ q₀ (met ++ t)

pub called_start :
    {j : Bytes} {from : Checkpoint} {p q out : Bytes} (texts : Texts) (old : Option Bytes) → resumable (length j) from ≡ true → 246 ≤ length out
    → Called j from p q from p q out texts old old
called_start texts old s h =
    record {
      resumable = s;
      room = h;
      met = [];
      got = gets_nothing texts old;
      calls = λ ts k x. (ts, x, refl);
      listing = λ t x. x;
    }

-- what a call wrote that goes on stands before the listing from where it got to
told_more :
    {j : Bytes} {from : Checkpoint} {p q : Bytes} {there : Checkpoint} {p' q' text : Bytes} {room : ℕ} {g : Progress} → Tells j from p q there p' q' text room g
    → g ≡ More → {u : Bytes} → ListingFrom j there p' q' u → ListingFrom j from p q (text ++ u)
told_more (finished s l r t) e x = absurd (let z : ◌≡◌ {A = ℕ} 0 1 = cc in omega arith)
told_more {from = from} {p} {q} (more {gs = gs} s l t y h) e x =
    let w = pieced x in
    listing_of (onward_pieces l w.at)
    (ap₂ (λ (a b : Bytes). a ++ b) t (sym w.text)
    ∙ sym (joined_append (lines_of (run_from from p q gs).records) w.pieces ∙ ap (λ (a : Bytes). a ++ joined w.pieces) (joined_lines (run_from from p q gs).records)))
told_more (unfit s a b d t) e x = absurd (let z : ◌≡◌ {A = ℕ} 0 1 = cc in omega arith)

-- the listing from a checkpoint begins with what a call wrote
record After (j : Bytes) (from : Checkpoint) (p q text : Bytes) : Type 0 where
  pub rest : Bytes
  pub is : ListingFrom j from p q (text ++ rest)

told :
    {j : Bytes} {from : Checkpoint} {p q : Bytes} {there : Checkpoint} {p' q' text : Bytes} {room : ℕ} {g : Progress} → Tells j from p q there p' q' text room g
    → resumable (length j) from ≡ true → After j from p q text
told {from = from} {p} {q} {text = text} (finished {gs = gs} s l r t) h =
    record { rest = []; is = listing_of (onward_pieces l (ended_pieces r)) (append-nil text ∙ t ∙ sym (joined_pieces (run_from from p q gs).records _)) }
told {j} {from = from} {there = there} {p'} {q'} (more s l t y m) h =
    let w = rest_of j there p' q' (λ e. (resumes (length j) from h).named (sym l.form ∙ e)) in
    record { rest = joined w.pieces; is = told_more (more s l t y m) refl (listing_of w.at refl) }
told (unfit s a b d t) h = never (sym h ∙ s)

-- a write failed after what was met
cut_from :
    {j : Bytes} {from : Checkpoint} {p q : Bytes} {T E : Type 0} {e e' : E} {old now then : Option Bytes} {text : Bytes} {texts : Texts}
    → Kept {T = T} now then text texts (Err e) → (met rest : Bytes) → Gets texts old now met → ListingFrom j from p q (met ++ (text ++ rest))
    → RanFrom j from p q old then texts (Err e')
cut_from {j} {from} {p} {q} {T} {E} {e} {old} {now} {then} (unwritten g) met rest h x =
    let b = cut {T = T} {E = E} {texts = Written} {e = e} (unwritten g) in
    stopped (met ++ b.got) (b.rest ++ rest)
    (subst (ListingFrom j from p q)
    (ap (λ (t : Bytes). met ++ (t ++ rest)) (sym b.both) ∙ ap (λ (t : Bytes). met ++ t) (append_assoc b.got b.rest rest) ∙ sym (append_assoc met b.got (b.rest ++ rest)))
    x)
    (Appends-trans old now then met b.got h b.gets)

module _ {j : Bytes} {from : Checkpoint} {p₀ q₀ : Bytes} {there : Checkpoint} {p q out p' q' new : Bytes} {r : Played} {texts : Texts} {old now : Option Bytes}
    (c : Called j from p₀ q₀ there p q out texts old now) (x : Plays j there p q out p' q' new r) where
  on : Onward j there r.checkpoint r.progress
  on = play_advances_theorem j there p q out p' q' new r x c.resumable c.room

  -- it goes on, further on in the journal
  pub call_further : more_to_play r.progress ≡ true → (there.at < r.checkpoint.at) × (r.checkpoint.at ≤ length j)
  call_further e = let o = on_more on e in (o.1, (resumes (length j) r.checkpoint o.2).inside)

  -- the writer did not take the call's text
  pub call_cut :
      {T E : Type 0} {e e' : E} {then : Option Bytes} → Kept {T = T} now then (take r.written new) texts (Err e) → RanFrom j from p₀ q₀ old then texts (Err e')
  call_cut g = let a = told x.tells c.resumable in cut_from g c.met a.rest c.got (c.listing _ a.is)

  module _ {T E : Type 0} {v : T} {then : Option Bytes} (g : Kept {E = E} now then (take r.written new) texts (Ok v)) where
    -- the call was the last
    pub call_over : more_to_play r.progress ≡ false → RanFrom {E = E} j from p₀ q₀ old then texts (Ok r.checkpoint.counts)
    unfolding joined
    call_over e =
        let (us, y, same) = c.calls _ _ (last x (on_over on e)) in
        ended y
        (subst (Gets texts old then) (sym (same ∙ ap (λ (t : Bytes). c.met ++ t) (append-nil _)))
        (gets_both texts old now then c.met _ c.got (got g)))

    pub call_more : more_to_play r.progress ≡ true → Called j from p₀ q₀ r.checkpoint p' q' new texts old then
    unfolding joined
    call_more e =
        let o = on_more on e in
        record {
          resumable = o.2;
          room = omega (arith, x.fills.size, c.room);
          met = c.met ++ take r.written new;
          got = gets_both texts old now then c.met _ c.got (got g);
          calls = λ ts k y. let (us, z, same) = c.calls _ k (next x o.0 y) in (us, z, same ∙ sym (append_assoc c.met (take r.written new) (joined ts)));
          listing = λ t y. subst (ListingFrom j from p₀ q₀) (sym (append_assoc c.met (take r.written new) t)) (c.listing _ (told_more x.tells o.0 y));
        }

-- ---- the first call

module _ {j out new : Bytes} {r : Played} (x : Starts j out new r) where
  -- the listing from the first checkpoint, on buffers of zeros, stands behind what the first call wrote
  behind :
      {p q u : Bytes} → r.progress ≡ More → p ≡ replicate (private_length r.checkpoint.state.opening) 0
      → q ≡ replicate (shared_length r.checkpoint.state.opening) 0 → ListingFrom j r.checkpoint p q u → Listing j (take r.written new ++ u)
  unfolding joined
  behind e ep eq y =
      let w = pieced (rw (ep, eq) at y) in
      subst (λ (t : Bytes). Listing j (take r.written new ++ t)) w.text (pieces_theorem j _ (begins_pieces x.begins e w.at).0)

  module _ (h : 246 ≤ length new) where
    begins : Begun j r.checkpoint r.progress
    begins = start_advances_theorem j out new r x (omega (arith, h, x.fills.size))

    pub whole_more : more_to_play r.progress ≡ true → (r.progress ≡ More) × (resumable (length j) r.checkpoint ≡ true)
    whole_more e = begun_more begins e

    -- then the engine that was opened fits
    pub whole_fits : more_to_play r.progress ≡ true → opening_fits r.checkpoint.state.opening ≡ true
    whole_fits e = start_fits x (whole_more e).0

    pub whole_inside : more_to_play r.progress ≡ true → Inside r.checkpoint.state.opening
    whole_inside e = inside r.checkpoint.state.opening (whole_fits e)

    -- the listing begins with what the first call wrote
    begins_in : {g : Progress} → Begun j r.checkpoint g → r.progress ≡ g → (rest : Bytes) × Listing j (take r.written new ++ rest)
    unfolding joined
    begins_in listed e = ([], (whole_theorem j _ _ (over x e)).0)
    begins_in (running s) e =
        let w = rest_of j r.checkpoint _ _ (resumes (length j) r.checkpoint s).named in
        (joined w.pieces, behind e refl refl (listing_of w.at refl))

    -- the writer did not take its text
    pub whole_cut :
        {T E : Type 0} {e e' : E} {texts : Texts} {old now : Option Bytes} → Kept {T = T} old now (take r.written new) texts (Err e) → RanWhole j old now texts (Err e')
    whole_cut {T} {E} {e} (unwritten g) =
        let b = cut {T = T} {E = E} {texts = Written} {e = e} (unwritten g) in
        let l = begins_in begins refl in
        part b.got (b.rest ++ l.0)
        (subst (Listing j) (ap (λ (t : Bytes). t ++ l.0) (sym b.both) ∙ append_assoc b.got b.rest l.0) l.1) b.gets

    -- the journal is played whole, or `play` goes on from the checkpoint
    pub whole_over :
        {T E : Type 0} {v : T} {texts : Texts} {old now : Option Bytes} → Kept {E = E} old now (take r.written new) texts (Ok v) → more_to_play r.progress ≡ false
        → RanWhole {E = E} j old now texts (Ok r.checkpoint.counts)
    unfolding joined
    whole_over {texts = texts} {old = old} {now = now} g e =
        let z = over x (begun_over begins e) in
        let w = whole_theorem j _ _ z in
        whole z w.0 w.1 (subst (Gets texts old now) (sym (append-nil _)) (got g))

  -- on buffers of zeros the journal is played whole where the calls of `play` come to its end
  pub whole_played :
      {T E : Type 0} {v : T} {texts : Texts} {old now : Option Bytes} → Kept {E = E} old now (take r.written new) texts (Ok v)
      → {p q : Bytes} {then : Option Bytes} {b : Result Counts E} → r.progress ≡ More → p ≡ replicate (private_length r.checkpoint.state.opening) 0
      → q ≡ replicate (shared_length r.checkpoint.state.opening) 0 → RanFrom j r.checkpoint p q now then texts b → RanWhole j old then texts b
  unfolding joined
  whole_played {texts = texts} {old = old} {now = now} g {then = then} e ep eq (ended {ts = ts} y h) =
      let z = begun x e (rw (ep, eq) at y) in
      let w = whole_theorem j _ _ z in
      whole z w.0 w.1 (gets_both texts old now then _ (joined ts) (got g) h)
  whole_played {old = old} {now = now} g {then = then} e ep eq (stopped xs rest y h) =
      part (take r.written new ++ xs) rest
      (subst (Listing j) (sym (append_assoc (take r.written new) xs rest)) (behind e ep eq y)) (Appends-trans old now then _ xs (got g) h)
