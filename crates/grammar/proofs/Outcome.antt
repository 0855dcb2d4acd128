-- What reading a line against one form shows: that it has not the form, or has it with a wrong number, or with wrong data,
-- or spells the numbers and data that were read. Assumes nothing.
use Prim.Native.Nat.{ℕ, suc, ◌+◌, ◌≤◌, ◌-◌}
use mathlib.Core.{Path.{◌≡◌, refl, sym, ◌∙◌, ap, ap₂, subst}, List.{List, [], ◌∷◌, ◌++◌}, Logic.{◌⊎◌, inl, inr}}
use native.Mathlib.Omega.{arith}
use lib.{ListN.{length, length-append, length-drop}, Seq.sets}
use Rattle.std.specs.Prelude.{Option, Some, None}
use Rattle.spelling.{specs.{Decimal.{decimal, greatest, IsNumber}, Hex.hex}, proofs.Split.up_to_split}
use Rattle.grammar.specs.Form.{Part, fixed, value, Value, number, pairs, lay, Each, Has, RightNumber, RightData, Given, spellings, spell}
use Rattle.grammar.specs.Scan.{Fails, first_value, after_value, ValueRead, a_number, no_number, some_data, no_data}
use Rattle.grammar.specs.Scan.{Scans, ended, longer, same, other, a_value, with_number, without_number, nothing_read, Reads}
use Rattle.grammar.specs.declared.{Wrong.TheVariants.{Number, Data}, Values.Values}
use Rattle.grammar.proofs.Fit.{Shaped, edge_after, ends_here, ends_only, byte_here, byte_only, value_here, value_only}

-- what reading the text t shows, which is the rest of a line of n bytes, after i values, which gave v. A wrong number, once met, stays
pub data Outcome (n : ℕ) (t : List ℕ) (p : List Part) (i : ℕ) (v : Values) : Option Values → Type 0 where
  fails : Fails t p → Outcome n t p i v None
  bad_number : {r : Values} (vs : List (List ℕ)) → r.wrong ≡ Some Number → Has t p vs → (Each RightNumber p vs → v.wrong ≡ Some Number) → Outcome n t p i v (Some r)
  bad_data :
      {r : Values} (vs : List (List ℕ)) → v.wrong ≡ None → r.wrong ≡ Some Data → Has t p vs → Each RightNumber p vs → (Each RightData p vs → ⊥)
      → Outcome n t p i v (Some r)
  fine :
      {r : Values} (ns bs : List ℕ) → v.wrong ≡ None → r.wrong ≡ None → Given p ns bs → t ≡ spell p ns bs → r.number ≡ sets v.number i ns
      → r.start + length (hex bs) ≡ n → Outcome n t p i v (Some r)

-- no data were wrong yet
abbrev NumberAtMost : Values → Type 0
NumberAtMost v = (v.wrong ≡ None) ⊎ (v.wrong ≡ Some Number)

-- the byte of a form, and the rest
byte_up : {n i b : ℕ} {p : List Part} {v : Values} {r : Option Values} (t : List ℕ) → Outcome n t p i v r → Outcome n (b ∷ t) (fixed b ∷ p) i v r
unfolding Each Given spellings lay
byte_up {b = b} {p = p} t (fails f) =
    fails (λ vs m. let d = byte_only (b ∷ t) b p vs m in let u : d.0 ≡ t = cc in f vs (subst (λ (x : List ℕ). Has x p vs) u d.2))
byte_up {b = b} {p = p} t (bad_number vs o m k) = bad_number vs o (byte_here t b p vs m) k
byte_up {b = b} {p = p} t (bad_data vs z o m k l) = bad_data vs z o (byte_here t b p vs m) k l
byte_up {b = b} t (fine ns bs z o k m q a) = fine ns bs z o k (ap (λ (l : List ℕ). b ∷ l) m) q a

not_value : (q : Value) (t : List ℕ) (p : List Part) → Shaped (value q ∷ p) → Fails (after_value t) p → Fails t (value q ∷ p)
not_value q t p h f ws m = let d = value_only q t p ws (edge_after q p h) m in f d.0 d.2

-- a value that is a number, and the rest
number_up : {n i m : ℕ} {p : List Part} {v : Values} {r : Option Values} (t : List ℕ) → Shaped (value number ∷ p) → m ≤ greatest → first_value t ≡ decimal m
    → Outcome n (after_value t) p (suc i) (with_number v i m) r → Outcome n t (value number ∷ p) i v r
unfolding Each Given spellings lay
number_up {p = p} t h l e (fails f) = fails (not_value number t p h f)
number_up {p = p} t h l e (bad_number vs g f k) = bad_number (first_value t ∷ vs) g (value_here number t p vs f) (λ x. k x.1)
number_up {m = m} {p = p} t h l e (bad_data vs z g f k x) = bad_data (first_value t ∷ vs) z g (value_here number t p vs f) ((m, l, e), k) (λ y. x y.1)
number_up {m = m} t h l e (fine ns bs z g k x q a) =
    fine (m ∷ ns) bs z g (l, k) ((up_to_split 32 t).0 ∙ ap₂ (λ (x y : List ℕ). x ++ y) e x) q a

-- a value that is none
number_bad : {n i : ℕ} {p : List Part} {v : Values} {r : Option Values} (t : List ℕ) → Shaped (value number ∷ p) → (IsNumber (first_value t) → ⊥)
    → Outcome n (after_value t) p (suc i) (without_number v) r → Outcome n t (value number ∷ p) i v r
unfolding Each
number_bad {p = p} t h x (fails f) = fails (not_value number t p h f)
number_bad {p = p} t h x (bad_number vs g f k) = bad_number (first_value t ∷ vs) g (value_here number t p vs f) (λ y. absurd (x y.0))
number_bad t h x (bad_data vs z g f k m) = absurd (cc)
number_bad t h x (fine ns bs z g k m q a) = absurd (cc)

-- data, which are a form's last value; u is what is after them
data_up : {n i : ℕ} {v : Values} (t u : List ℕ) {w : Values} {r : Option Values} → length t ≤ n → NumberAtMost v → after_value t ≡ u → ValueRead v i (n - length t) (first_value t) pairs w
    → Scans n [] u (suc i) w r → Outcome n t (value pairs ∷ []) i v r
unfolding Each Given spellings lay hex
data_up t _ l f e d longer = fails (not_value pairs t [] refl (λ vs m. let z = sym e ∙ ends_only _ vs m in absurd (cc)))
data_up t _ l (inr z) e (some_data x) ended = bad_number (first_value t ∷ []) z (value_here pairs t [] [] (ends_here _ e)) (λ y. z)
data_up t _ l (inr z) e (no_data x) ended = bad_number (first_value t ∷ []) (rw z) (value_here pairs t [] [] (ends_here _ e)) (λ y. z)
data_up t _ l (inl z) e (some_data (bs, x)) ended =
    let s : t ≡ hex bs ++ [] = (up_to_split 32 t).0 ∙ ap₂ (λ (a b : List ℕ). a ++ b) x.same e in
    fine [] bs z z (refl, x.some, x.bytes) s refl (omega (arith, simp length-append at (ap length s)))
data_up t _ l (inl z) e (no_data x) ended = bad_data (first_value t ∷ []) z (rw z) (value_here pairs t [] [] (ends_here _ e)) (tt, tt) (λ y. x y.0)

pub outcome : {n i : ℕ} {p : List Part} {t : List ℕ} {v : Values} {r : Option Values} → Scans n p t i v r → Shaped p → length t ≤ n → NumberAtMost v → v.start ≡ n → Outcome n t p i v r
unfolding Each Given spellings lay hex
outcome ended h l (inl z) g = fine [] [] z z (refl, refl) refl refl (omega arith)
outcome ended h l (inr z) g = bad_number [] z (ends_here [] refl) (λ x. z)
outcome longer h l f g = fails (λ vs m. let e = ends_only _ vs m in absurd (cc))
outcome (same {t = t} d) h l f g = byte_up t (outcome d h (omega arith) f g)
outcome {t = t} (other {p = p} {b = b} x) h l f g = fails (λ vs m. let d = byte_only t b p vs m in x d.0 d.1)
outcome {t = t} (a_value (a_number m k e) d) h l f g = number_up t h k e (outcome d h.1 (simp length-drop (omega arith)) f g)
outcome {t = t} (a_value (no_number x) d) h l f g = number_bad t h x (outcome d h.1 (simp length-drop (omega arith)) (inr refl) g)
outcome {n} {i} {t = t} {v = v} {r = r} (a_value {q = pairs} {w = w} x d) h l f g =
    rw h (data_up t _ l f refl x (subst (λ (y : List Part). Scans n y (after_value t) (suc i) w r) h d))

-- what a reading of the whole line shows
pub outcome_of : (s : List ℕ) (p : List Part) (r : Option Values) → Shaped p → Reads s p s r → Outcome (length s) s p 0 (nothing_read (length s)) r
outcome_of s p r h d = outcome d h (omega arith) (inl refl) refl

pub fails_of : (s : List ℕ) (p : List Part) → Shaped p → Reads s p s None → Fails s p
fails_of s p h d = by (outcome_of s p None h d)
  where
    by : Outcome (length s) s p 0 (nothing_read (length s)) None → Fails s p
    by (fails f) = f
