-- Laws of a line that has a form: part by part, each value is the one that is there. Assumes nothing.
use Prim.Native.Nat.{ℕ}
use mathlib.Core.{Path.{◌≡◌, refl, sym, ◌∙◌, ap, ap₂}, List.{List, [], ◌∷◌, ◌++◌}, Logic.{inl, inr}}
use lib.{ListN.{length, drop}, Seq.drop-append_seam}
use Rattle.grammar.specs.{Form.{Part, fixed, value, Value, number, pairs, lay, Each, Has}, Scan.after_value}
use Rattle.spelling.{specs.Bytes.up_to, proofs.Split.{Edge, up_to_split, up_to_clean, up_to_unique}}

-- what follows a value in a form: nothing, or a blank
abbrev pub Edged : List Part → Type 0
Edged [] = Unit
Edged (fixed b ∷ p) = b ≡ 32
Edged (value q ∷ p) = ⊥

-- a form as the grammar has them: a blank or the end follows each value, and data are last
abbrev pub Shaped : List Part → Type 0
Shaped [] = Unit
Shaped (fixed b ∷ p) = Shaped p
Shaped (value number ∷ p) = Edged p × Shaped p
Shaped (value pairs ∷ p) = p ≡ []

pub edge_after : (q : Value) (p : List Part) → Shaped (value q ∷ p) → Edged p
edge_after number p h = h.0
edge_after pairs p h = rw h tt

pub shaped_after : (q : Value) (p : List Part) → Shaped (value q ∷ p) → Shaped p
shaped_after number p h = h.1
shaped_after pairs p h = rw h tt

lay_edge : (p : List Part) (vs : List (List ℕ)) → Edged p → Edge 32 (lay p vs)
unfolding lay
lay_edge [] vs h = inl refl
lay_edge (fixed b ∷ p) vs h = inr (lay p vs, ap (λ (x : ℕ). x ∷ lay p vs) h)
lay_edge (value q ∷ p) vs h = absurd h

-- ---- the form's end

pub ends_here : (t : List ℕ) → t ≡ [] → Has t [] []
unfolding lay Each
ends_here t e = record { fit = tt; laid = e }

pub ends_only : (t : List ℕ) (vs : List (List ℕ)) → Has t [] vs → t ≡ []
unfolding lay
ends_only t vs h = h.laid

-- ---- a byte of fixed text

pub byte_here : (t : List ℕ) (b : ℕ) (p : List Part) (vs : List (List ℕ)) → Has t p vs → Has (b ∷ t) (fixed b ∷ p) vs
unfolding lay Each
byte_here t b p vs h = record { fit = h.fit; laid = ap (λ (l : List ℕ). b ∷ l) h.laid }

pub byte_only : (t : List ℕ) (b : ℕ) (p : List Part) (vs : List (List ℕ)) → Has t (fixed b ∷ p) vs → (u : List ℕ) × (t ≡ b ∷ u) × Has u p vs
unfolding lay Each
byte_only t b p vs h = (lay p vs, h.laid, record { fit = h.fit; laid = refl })

-- ---- a value

pub value_here : (q : Value) (t : List ℕ) (p : List Part) (vs : List (List ℕ)) → Has (after_value t) p vs → Has t (value q ∷ p) (up_to 32 t ∷ vs)
unfolding lay Each
value_here q t p vs h =
    record { fit = (up_to_clean 32 t, h.fit); laid = (up_to_split 32 t).0 ∙ ap (λ (l : List ℕ). up_to 32 t ++ l) h.laid }

pub value_only : (q : Value) (t : List ℕ) (p : List Part) (ws : List (List ℕ)) → Edged p → Has t (value q ∷ p) ws → (vs : List (List ℕ)) × (ws ≡ up_to 32 t ∷ vs) × Has (after_value t) p vs
unfolding lay Each
value_only q t p [] e h = absurd h.fit
value_only q t p (w ∷ vs) e h =
    let u : up_to 32 t ≡ w = ap (up_to 32) h.laid ∙ up_to_unique 32 w (lay p vs) h.fit.0 (lay_edge p vs e) in
    let r : after_value t ≡ lay p vs = ap₂ (λ (k : ℕ) (l : List ℕ). drop k l) (ap length u) h.laid ∙ drop-append_seam w (lay p vs) in
    (vs, ap (λ (x : List ℕ). x ∷ vs) (sym u), record { fit = h.fit.1; laid = r })
