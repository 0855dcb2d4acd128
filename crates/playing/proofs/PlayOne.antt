-- `play` has one answer. Two runs from one checkpoint that both meet the contract made the same steps: of two that made different ones, the
-- shorter stopped although the longer, with an output of the same length, had room for the next piece.
use Prim.Native.Nat.{ℕ, ◌+◌, ◌≤◌, ◌<◌}
use mathlib.Core.{Path.{◌≡◌, refl, sym, ◌∙◌, ap}, List.{List, [], ◌∷◌, ◌++◌}}
use native.Mathlib.Omega.{arith}
use lib.{ListN.{length, length-append}, Seq.append_snoc}
use Rattle.protocol.{specs.{Buffers.Bytes, Machine.{Machine, machine}, Run.{Entry, Record, run}, Counts.{sum, tally}}, proofs.Tests.never}
use Rattle.driver.proofs.Running.{lines_append, run_records, lines_more}
use Rattle.driver.specs.{Listing.{Ending, entry_at, Between, a_line, EndsAt, lines, last_lines}, Play.{run_from, Leads, Piece, a_step, the_end, Tells, finished, more, unfit}}
use Rattle.driver.specs.declared.{Checkpoint.Checkpoint, Progress.{Progress, TheVariants.{Finished, More}}}
use Rattle.playing.specs.Theorems.{PlayOneTheorem}
use Rattle.playing.proofs.OneReading.{step_same, ends_same, no_end, Compared, alike, fewer, further, compare, none_after}
use Rattle.playing.proofs.Writing.{room_same, written_same, output_same}

-- the lines of the steps gs made from a checkpoint
abbrev lines_from : Checkpoint → Bytes → Bytes → List Entry → Bytes
lines_from a p q gs = lines (run_from a p q gs).records

-- ---- the next piece

-- more steps, more text
lines_grow : (gs hs : List Entry) (n : ℕ) (m : Machine) → length (lines (run gs n m).records) ≤ length (lines (run (gs ++ hs) n m).records)
lines_grow gs hs n m =
    let r : List Record = (run hs (n + length gs) (run gs n m).last).records in
    let e = ap lines (run_records gs hs n m) ∙ lines_append (run gs n m).records r in
    omega (arith, ap length e, length-append (lines (run gs n m).records) (lines r))

-- where steps go on, their text holds the next piece
passed :
    {j : Bytes} {a b : Checkpoint} {p q p' q' t : Bytes} {gs : List Entry} {g : Entry} {ks : List Entry} {to : ℕ} → Leads j a p q gs b p' q' → Piece j b p' q' t
    → Between j a.form b.at (g ∷ ks) to
    → length (lines_from a p q gs) + length t ≤ length (lines_from a p q (gs ++ (g ∷ ks)))
passed {j} {a = a} {p = p} {q = q} {gs = gs} {ks = ks} l (a_step {call = c} {start = start} {end = end} x) (a_line y r) =
    let g = entry_at j c start end in
    let s = step_same (rw l.form at x) y in
    let e = ap length (lines_more l c g.given) ∙ length-append (lines_from a p q gs) _ in
    let i = lines_grow (gs ++ (g ∷ [])) ks (a.counts.steps + 1) (machine a.state p q) in
    rw (s.entry, ← append_snoc gs g ks) (omega arith)
passed l (the_end x) (a_line y r) = absurd (no_end y (rw l.form at x))

-- a piece where the journal ends is the last lines
last_piece : {j : Bytes} {s : Checkpoint} {p q t : Bytes} {e : Ending} → Piece j s p q t → EndsAt j s.form s.at e → t ≡ last_lines s.counts e
last_piece (a_step x) y = absurd (no_end x y)
last_piece {s = s} (the_end x) y = ap (last_lines s.counts) (ends_same x y)

-- ---- two runs

-- the same checkpoint with the same buffers
abbrev Same : Checkpoint → Checkpoint → Bytes → Bytes → Bytes → Bytes → Type 0
Same s s' p q p' q' = (s ≡ s') × (p ≡ p') × (q ≡ q')

-- from where they are, the machine and the counts
checkpoint_same :
    (s s' : Checkpoint) (p q p' q' : Bytes) → s.at ≡ s'.at → s.form ≡ s'.form → machine s.state p q ≡ machine s'.state p' q'
    → s.counts ≡ s'.counts → Same s s' p q p' q'
checkpoint_same s s' p q p' q' a f m k =
    let es = ap (λ (x : Machine). x.state) m in
    (rw (a, f, k, es), ap (λ (x : Machine). x.private) m, ap (λ (x : Machine). x.shared) m)

-- the same steps lead to the same checkpoint
leads_same :
    {j : Bytes} {a b d : Checkpoint} {p q p₁ q₁ p₂ q₂ : Bytes} {gs hs : List Entry} → Leads j a p q gs b p₁ q₁ → Leads j a p q hs d p₂ q₂ → gs ≡ hs
    → b.at ≡ d.at → Same b d p₁ q₁ p₂ q₂
leads_same {a = a} {b} {d} {p} {q} {p₁} {q₁} {p₂} {q₂} l m e n =
    checkpoint_same b d p₁ q₁ p₂ q₂ n (l.form ∙ sym m.form)
    (l.machine ∙ ap (λ (ks : List Entry). (run_from a p q ks).last) e ∙ sym m.machine)
    (l.counts ∙ ap (λ (ks : List Entry). sum a.counts (tally (run_from a p q ks).records)) e ∙ sym m.counts)

-- the progress, the checkpoint with the buffers and the text are the same
abbrev Alike : Progress → Progress → Checkpoint → Checkpoint → Bytes → Bytes → Bytes → Bytes → Bytes → Bytes → Type 0
Alike g h b d p₁ q₁ p₂ q₂ t u = (g ≡ h) × Same b d p₁ q₁ p₂ q₂ × (t ≡ u)

module _ (j : Bytes) (a : Checkpoint) (p q : Bytes) where
  -- a run that made the steps gs wrote the text t: it is finished, or for the next piece there is no room
  data Ran (gs : List Entry) (b : Checkpoint) (p' q' t : Bytes) (room : ℕ) : Progress → Type 0 where
    whole : {e : Ending} → EndsAt j b.form b.at e → t ≡ lines_from a p q gs ++ last_lines b.counts e → Ran gs b p' q' t room Finished
    cut : {u : Bytes} → t ≡ lines_from a p q gs → Piece j b p' q' u → room < length u → Ran gs b p' q' t room More

  -- the text holds the lines of the steps
  ran_long : {gs : List Entry} {b : Checkpoint} {p' q' t : Bytes} {room : ℕ} {g : Progress} → Ran gs b p' q' t room g → length (lines_from a p q gs) ≤ length t
  ran_long {gs} {b} (whole {e = e} x h) = omega (arith, ap length h, length-append (lines_from a p q gs) (last_lines b.counts e))
  ran_long (cut h x r) = omega (arith, ap length h)

  -- a run stops where the lines of further steps have no room
  no_fewer :
      {gs hs ks : List Entry} {k : Entry} {b : Checkpoint} {p' q' t : Bytes} {room to : ℕ} {g : Progress} → Leads j a p q gs b p' q' → Ran gs b p' q' t room g
      → Between j a.form b.at (k ∷ ks) to → hs ≡ gs ++ (k ∷ ks) → length (lines_from a p q hs) ≤ length t + room → ⊥
  no_fewer l (whole x h) i e n = none_after i (rw l.form at x)
  no_fewer l (cut h x r) i e n = omega (arith, passed l x i, ap length h, ap (λ (ks : List Entry). length (lines_from a p q ks)) e)

  -- at one checkpoint a run is finished or has no room for the next piece, but not both
  module _ (gs : List Entry) (b : Checkpoint) (p' q' : Bytes) where
    not_both :
        {e : Ending} {t u v : Bytes} {room : ℕ} → EndsAt j b.form b.at e → t ≡ lines_from a p q gs ++ last_lines b.counts e → u ≡ lines_from a p q gs
        → Piece j b p' q' v → room < length v → length t ≤ length u + room → ⊥
    not_both {e} x h k y r n =
        omega (arith, ap length h, ap length k, length-append (lines_from a p q gs) (last_lines b.counts e), ap length (last_piece y x))

    told_here :
        {t u : Bytes} {room room' : ℕ} {g h : Progress} → length t + room ≡ length u + room' → Ran gs b p' q' t room g → Ran gs b p' q' u room' h
        → (g ≡ h) × (t ≡ u)
    told_here n (whole x e) (whole y f) = (refl, e ∙ ap (λ (k : Ending). lines_from a p q gs ++ last_lines b.counts k) (ends_same x y) ∙ sym f)
    told_here n (whole x e) (cut f y r) = absurd (not_both x e f y r (omega arith))
    told_here n (cut e x r) (whole y f) = absurd (not_both y f e x r (omega arith))
    told_here n (cut e x r) (cut f y k) = (refl, e ∙ sym f)

  ran_same :
      {gs hs : List Entry} {b d : Checkpoint} {p₁ q₁ p₂ q₂ t u : Bytes} {room room' : ℕ} {g h : Progress} → length t + room ≡ length u + room'
      → Leads j a p q gs b p₁ q₁ → Leads j a p q hs d p₂ q₂ → Ran gs b p₁ q₁ t room g → Ran hs d p₂ q₂ u room' h → Alike g h b d p₁ q₁ p₂ q₂ t u
  ran_same {gs} {hs} {b} {d} {p₁} {q₁} {p₂} {q₂} {t} {u} {g = g} {h} n l m x y = go (compare l.steps m.steps)
    where
      go : Compared j a.form gs hs b.at d.at → Alike g h b d p₁ q₁ p₂ q₂ t u
      go (alike s i) =
          let o = leads_same l m s i in
          let z = told_here hs d p₂ q₂ n (rw (s, o.0, o.1, o.2) at x) y in
          (z.0, o, z.1)
      go (fewer k ks s i) = absurd (no_fewer l x i s (omega (arith, ran_long y)))
      go (further k ks s i) = absurd (no_fewer m y i s (omega (arith, ran_long x)))

  told_same :
      {b d : Checkpoint} {p₁ q₁ p₂ q₂ t u : Bytes} {room room' : ℕ} {g h : Progress} → length t + room ≡ length u + room' → Tells j a p q b p₁ q₁ t room g
      → Tells j a p q d p₂ q₂ u room' h → Alike g h b d p₁ q₁ p₂ q₂ t u
  told_same n (finished s l x e) (finished s' m y f) = ran_same n l m (whole x e) (whole y f)
  told_same n (finished s l x e) (more s' m f y r) = ran_same n l m (whole x e) (cut f y r)
  told_same n (finished s l x e) (unfit s' i k o f) = never (sym s ∙ s')
  told_same n (more s l e x r) (finished s' m y f) = ran_same n l m (cut e x r) (whole y f)
  told_same n (more s l e x r) (more s' m f y k) = ran_same n l m (cut e x r) (cut f y k)
  told_same n (more s l e x r) (unfit s' i k o f) = never (sym s ∙ s')
  told_same n (unfit s' i k o f) (finished s l x e) = never (sym s ∙ s')
  told_same n (unfit s' i k o f) (more s l e x r) = never (sym s ∙ s')
  told_same n (unfit s i k o f) (unfit s' i' k' o' f') = (refl, (i ∙ sym i', k ∙ sym k', o ∙ sym o'), f ∙ sym f')

pub play_one_theorem : PlayOneTheorem
play_one_theorem j from p q old a b x y =
    let s = told_same j from p q (room_same x.fills y.fills) x.tells y.tells in
    let w = written_same x.fills y.fills s.2 in
    let o = output_same x.fills y.fills s.2 in
    rw (s.0, s.1.0, w, s.1.1, s.1.2, o)
