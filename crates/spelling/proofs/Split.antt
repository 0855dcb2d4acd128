-- Laws of the bytes up to the next byte of some kind: a blank ends a value, a newline ends a line. Assumes nothing.
use Prim.Native.Nat.{ℕ, suc, ◌+◌, ◌≤◌, ◌<◌, ◌-◌}
use mathlib.Core.{Path.{◌≡◌, refl, sym, ◌∙◌, ap, ap₂}, List.{List, [], ◌∷◌, ◌++◌}, Logic.{◌⊎◌, inl, inr, ⊎_elim}}
use native.Mathlib.{Omega.arith, Numerals.add-one}
use lib.{ListN.{length, get_or, take, drop, length-append, length-drop, drop_of_length-le}, Seq.{drop-cons, drop-drop, drop_at, take-append_seam}}
use borrow.Author.Tests.{eq-eqb, ne_eqb}
use Rattle.spelling.specs.Bytes.{Without, up_to}
use Rattle.spelling.proofs.Decide.{same_number}

module _ (stop : ℕ) where
  -- nothing, or what begins with the byte `stop`
  abbrev pub Edge : List ℕ → Type 0
  Edge r = (r ≡ []) ⊎ ((t : List ℕ) × (r ≡ stop ∷ t))

  stopped : (b : ℕ) (bs : List ℕ) → b ≡ stop → up_to stop (b ∷ bs) ≡ []
  unfolding up_to
  stopped b bs e = rw (eq-eqb b stop e)

  other : (b : ℕ) (bs : List ℕ) → (b ≡ stop → ⊥) → up_to stop (b ∷ bs) ≡ b ∷ up_to stop bs
  unfolding up_to
  other b bs n = rw (ne_eqb b stop n)

  none : up_to stop [] ≡ []
  unfolding up_to
  none = refl

  pub up_to_clean : (l : List ℕ) → Without stop (up_to stop l)
  up_to_clean [] = rw none tt
  up_to_clean (b ∷ bs) = ⊎_elim (λ e. rw (stopped b bs e) tt) (λ n. rw (other b bs n) (n, up_to_clean bs)) (same_number b stop)

  -- the bytes up to the next one, and then nothing or that byte
  pub up_to_split : (l : List ℕ) → (l ≡ up_to stop l ++ drop (length (up_to stop l)) l) × Edge (drop (length (up_to stop l)) l)
  up_to_split [] = rw none (refl, inl refl)
  up_to_split (b ∷ bs) =
      ⊎_elim (λ e. rw (stopped b bs e) (refl, inr (bs, ap (λ (x : ℕ). x ∷ bs) e)))
      (λ n. rw (other b bs n) (ap (λ (l : List ℕ). b ∷ l) (up_to_split bs).0, (up_to_split bs).1)) (same_number b stop)

  pub up_to_unique : (v r : List ℕ) → Without stop v → Edge r → up_to stop (v ++ r) ≡ v
  up_to_unique [] r c (inl e) = rw e none
  up_to_unique [] r c (inr e) = rw e.1 (stopped stop e.0 refl)
  up_to_unique (b ∷ v) r c e = other b (v ++ r) c.0 ∙ ap (λ (l : List ℕ). b ∷ l) (up_to_unique v r c.1 e)

  -- a text without the byte more
  up_to_past : (v r : List ℕ) → Without stop v → up_to stop (v ++ r) ≡ v ++ up_to stop r
  up_to_past [] r c = refl
  up_to_past (b ∷ v) r c = other b (v ++ r) c.0 ∙ ap (λ (l : List ℕ). b ∷ l) (up_to_past v r c.1)

  pub up_to_run : (s v r : List ℕ) (i n : ℕ) → i ≤ length s → length v ≡ n → drop i s ≡ v ++ r → Without stop v
      → (drop (i + n) s ≡ r) × (length (up_to stop (drop i s)) ≡ n + length (up_to stop (drop (i + n) s))) × (i + n ≤ length s)
  up_to_run s v r i n w h e c =
      let d : drop (i + n) s ≡ r = sym (drop-drop n i s) ∙ ap (drop n) e ∙ drop_at v r n h in
      let more : length (up_to stop (drop i s)) ≡ length v + length (up_to stop r) = ap (λ (l : List ℕ). length (up_to stop l)) e ∙ ap length (up_to_past v r c) ∙ length-append v (up_to stop r) in
      (d, more ∙ ap₂ (λ (k : ℕ) (l : List ℕ). k + length (up_to stop l)) h (sym d), omega (arith, simp (length-drop, length-append) at (ap length e)))

  -- one byte more, or the byte itself
  pub up_to_at : (s : List ℕ) (i : ℕ) → i < length s → (get_or s i 0 ≡ stop → ⊥) → length (up_to stop (drop i s)) ≡ 1 + length (up_to stop (drop (i + 1) s))
  up_to_at s i h n = rw (add-one i, drop-cons s i 0 h, other (get_or s i 0) (drop (suc i) s) n) (omega arith)

  pub up_to_stop : (s : List ℕ) (i : ℕ) → i < length s → get_or s i 0 ≡ stop → length (up_to stop (drop i s)) ≡ 0
  up_to_stop s i h e = rw (drop-cons s i 0 h, stopped (get_or s i 0) (drop (suc i) s) e)

  pub up_to_end : (s : List ℕ) (i : ℕ) → length s ≤ i → length (up_to stop (drop i s)) ≡ 0
  up_to_end s i h = rw (drop_of_length-le s h, none)

  -- the offset where they end
  pub up_to_within : (s : List ℕ) (at : ℕ) → at ≤ length s → at + length (up_to stop (drop at s)) ≤ length s
  up_to_within s at h = omega (arith, simp (length-append, length-drop) at (ap length (up_to_split (drop at s)).0))

  pub up_to_part : (s : List ℕ) (at e : ℕ) → e ≡ at + length (up_to stop (drop at s)) → take (e - at) (drop at s) ≡ up_to stop (drop at s)
  up_to_part s at e h =
      let n : e - at ≡ length (up_to stop (drop at s)) = omega arith in
      ap (λ (k : ℕ). take k (drop at s)) n ∙ ap (take (length (up_to stop (drop at s)))) (up_to_split (drop at s)).0 ∙ take-append_seam (up_to stop (drop at s)) _
