-- A line read against a form, a text and a key at a time. Assumes nothing.
use Prim.Native.Nat.{ℕ, suc, ◌+◌, ◌≤◌, ◌<◌, ◌-◌}
use mathlib.Core.{Path.{◌≡◌, refl, sym, ap, ap₂, subst}, List.{List, [], ◌∷◌, ◌++◌}, Logic.⊎_elim}
use native.Mathlib.{Omega.arith, Numerals.add-one}
use lib.{ListN.{length, get_or, take, drop, length-append, length-drop, drop_of_length-le}, Seq.{drop-cons, drop-drop}}
use Rattle.std.specs.Prelude.{Option, Some, None}
use Rattle.spelling.{specs.Bytes.up_to, proofs.{Decide.same_number, Split.{up_to_within, up_to_part}}}
use Rattle.grammar.specs.Form.{Part, fixed}
use Rattle.grammar.specs.Scan.{after_value, texted, key_text, key_value, field_parts, After, ValueRead, Scans, ended, longer, same, other, a_value, Reads}
use Rattle.grammar.specs.declared.{Values.Values, Key.{Key, TheVariants.Core}}

-- ---- a text

-- a text that is there, and what is read after it
pub text_read : {n i : ℕ} {p : List Part} {v : Values} {r : Option Values} (t u : List ℕ) → Scans n p u i v r → Scans n (texted t p) (t ++ u) i v r
text_read [] u d = d
text_read (b ∷ t) u d = same (text_read t u d)

-- a text that is not there
pub text_missing : {n i : ℕ} {v : Values} (p : List Part) (t s : List ℕ) → ((u : List ℕ) → s ≡ t ++ u → ⊥) → Scans n (texted t p) s i v None
text_missing p [] s h = absurd (h s refl)
text_missing p (b ∷ t) [] h = other (λ u e. (cc))
text_missing {n} {i} {v} p (b ∷ t) (c ∷ s) h =
    ⊎_elim
    (λ e. subst (λ (x : ℕ). Scans n (fixed b ∷ texted t p) (x ∷ s) i v None) (sym e) (same (text_missing p t s (λ u f. h u (ap₂ (λ (x : ℕ) (l : List ℕ). x ∷ l) e f)))))
    (λ x. other (λ u f. x (cc))) (same_number c b)

-- ---- a key and its value

-- where a text ends that is in the line at an offset
pub after_within : (s t : List ℕ) (at a : ℕ) → at ≤ length s → After s at t (Some a) → a ≤ length s
after_within s t at a h x = omega (arith, simp (length-append, length-drop) at (ap length x.0), x.1)

module _ (s : List ℕ) (at a e i : ℕ) (k : Key) (ks : List Key) (v w : Values) where
  pub key_read :
      at ≤ length s → After s at (key_text k) (Some a) → e ≡ a + length (up_to 32 (drop a s)) → ValueRead v i a (take (e - a) (drop a s)) (key_value k) w
      → (r : Option Values) → Scans (length s) (field_parts ks) (drop e s) (suc i) w r → Scans (length s) (field_parts (k ∷ ks)) (drop at s) i v r
  key_read h x q d r t =
      let l : a ≤ length s = after_within s (key_text k) at a h x in
      let f : a ≡ length s - length (drop a s) = simp length-drop (omega arith) in
      let u : drop e s ≡ after_value (drop a s) = rw q (sym (drop-drop (length (up_to 32 (drop a s))) a s)) in
      rw x.0
      (text_read (key_text k) (drop a s)
      (a_value (subst (λ (m : ℕ). ValueRead v i m (up_to 32 (drop a s)) (key_value k) w) f (subst (λ (y : List ℕ). ValueRead v i a y (key_value k) w) (up_to_part 32 s a e q) d))
      (subst (λ (y : List ℕ). Scans (length s) (field_parts ks) y (suc i) w r) u t)))

-- before the keys from the i-th on, with the values v read: what they give, the whole gives
pub record State (s : List ℕ) (head : ℕ) (keys : List Key) (v : Values) (at i : ℕ) : Type 0 where
  pub within : at ≤ length s
  pub goes : (r : Option Values) → Scans (length s) (field_parts (drop i keys)) (drop at s) i v r → Reads s (field_parts keys) (drop head s) r

module _ (s : List ℕ) (head : ℕ) (keys : List Key) (v : Values) (at i : ℕ) (st : State s head keys v at i) where
  -- the next key is there
  pub key_there :
      (a e : ℕ) (w : Values) → i < length keys → After s at (key_text (get_or keys i Core)) (Some a) → e ≡ a + length (up_to 32 (drop a s))
      → ValueRead v i a (take (e - a) (drop a s)) (key_value (get_or keys i Core)) w → State s head keys w e (i + 1)
  key_there a e w h x q d =
      record {
        within = rw q (up_to_within 32 s a (after_within s _ at a st.within x));
        goes = λ r t. st.goes r (rw (drop-cons keys i Core h) (key_read s at a e i (get_or keys i Core) (drop (suc i) keys) v w st.within x q d r (rw (← add-one i) t)));
      }

  -- or another text is
  pub key_missing : i < length keys → After s at (key_text (get_or keys i Core)) None → Reads s (field_parts keys) (drop head s) None
  key_missing h x = st.goes None (rw (drop-cons keys i Core h) (text_missing _ (key_text (get_or keys i Core)) (drop at s) x))

  -- the line goes on after the last key
  pub more_there : length keys ≤ i → at < length s → Reads s (field_parts keys) (drop head s) None
  more_there h l = st.goes None (rw (drop_of_length-le keys h, drop-cons s at 0 l) longer)

  pub no_more : length keys ≤ i → length s ≤ at → Reads s (field_parts keys) (drop head s) (Some v)
  no_more h l = st.goes (Some v) (rw (drop_of_length-le keys h, drop_of_length-le s l) ended)
