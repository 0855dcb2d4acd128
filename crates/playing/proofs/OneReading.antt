-- Every journal reads in exactly one way.
use Prim.Native.Nat.{ℕ, zero, suc, ◌-◌, ◌≤◌, ◌<◌}
use mathlib.Core.{Path.{◌≡◌, refl, sym, ◌∙◌, ap₂, subst}, List.{List, ◌∷◌, ◌++◌}}
use native.Mathlib.Omega.{arith}
use lib.ListN.{length}
use Rattle.protocol.specs.{Buffers.Bytes, Run.Entry, declared.Call.Call}
use Rattle.std.specs.Prelude.{Some, None, Ok, Err}
use Rattle.journal.{specs.{Journal.{Next, NextOf}, declared.Item.TheVariants.{Opening, Step}}, proofs.OneNext.one_next_theorem}
use Rattle.driver.{specs.Listing.{Ending, entry_at, Between, no_line, a_line, EndsAt, at_end, at_refusal}, proofs.Reading.known}
use Rattle.playing.specs.{Listing.ReadAs, Theorems.{OneReading, OneReadingTheorem}}

-- ---- at one offset

-- two answers at an offset are one
pub same_next : {j : Bytes} {at form : ℕ} {a b : Next} → NextOf j at form a → NextOf j at form b → a ≡ b
same_next {j} {at} {form} x y = let o = one_next_theorem j at form in o.only _ x ∙ sym (o.only _ y)

-- an offset has one step at most, with one offset after it
pub record SameStep (g g' : Entry) (n n' : ℕ) : Type 0 where
  pub entry : g' ≡ g
  pub next : n' ≡ n

pub step_same :
    {j : Bytes} {at form : ℕ} {call call' : Call} {start end next start' end' next' : ℕ} → NextOf j at form (Ok (Some (Step call start end next)))
    → NextOf j at form (Ok (Some (Step call' start' end' next'))) → SameStep (entry_at j call start end) (entry_at j call' start' end') next next'
step_same {j} {call = c} {call' = c'} {start = p} {end = q} {start' = p'} {end' = q'} x y =
    let s = same_next x y in
    let ec : c' ≡ c = cc in
    let ep : p' ≡ p = cc in
    let eq : q' ≡ q = cc in
    record { entry = rw (ec, ep, eq) refl; next = cc }

-- a journal ends at an offset in one way only, and not where a step is
pub ends_same : {j : Bytes} {form at : ℕ} {e d : Ending} → EndsAt j form at e → EndsAt j form at d → e ≡ d
ends_same (at_end x) (at_end y) = refl
ends_same (at_end x) (at_refusal y) = absurd (let s = same_next x y in let z : ◌≡◌ {A = ℕ} 0 1 = cc in omega arith)
ends_same (at_refusal x) (at_end y) = absurd (let s = same_next x y in let z : ◌≡◌ {A = ℕ} 0 1 = cc in omega arith)
ends_same (at_refusal x) (at_refusal y) = let s = same_next x y in cc

pub no_end : {j : Bytes} {form at : ℕ} {e : Ending} {call : Call} {start end next : ℕ} → NextOf j at form (Ok (Some (Step call start end next))) → EndsAt j form at e → ⊥
no_end x (at_end y) = let s = same_next x y in let z : ◌≡◌ {A = ℕ} 0 1 = cc in omega arith
no_end x (at_refusal y) = let s = same_next x y in let z : ◌≡◌ {A = ℕ} 0 1 = cc in omega arith

-- ---- from an offset on

-- steps of a journal up to the offset `to`, and hs up to the offset `to'`, from one offset: they are the same, or the ones go on from where the
-- others end
pub data Compared (j : Bytes) (form : ℕ) (gs hs : List Entry) (to to' : ℕ) : Type 0 where
  alike : gs ≡ hs → to ≡ to' → Compared j form gs hs to to'
  fewer : (g : Entry) (ks : List Entry) → hs ≡ gs ++ (g ∷ ks) → Between j form to (g ∷ ks) to' → Compared j form gs hs to to'
  further : (g : Entry) (ks : List Entry) → gs ≡ hs ++ (g ∷ ks) → Between j form to' (g ∷ ks) to → Compared j form gs hs to to'

after : {j : Bytes} {form to to' : ℕ} {g h : Entry} {gs hs : List Entry} → h ≡ g → Compared j form gs hs to to' → Compared j form (g ∷ gs) (h ∷ hs) to to'
after {g = g} {h = h} {gs = gs} {hs = hs} e (alike s t) = alike (ap₂ (λ (a : Entry) (l : List Entry). a ∷ l) (sym e) s) t
after {g = g} {h = h} {gs = gs} {hs = hs} e (fewer k ks s b) = fewer k ks (ap₂ (λ (a : Entry) (l : List Entry). a ∷ l) e s) b
after {g = g} {h = h} {gs = gs} {hs = hs} e (further k ks s b) = further k ks (ap₂ (λ (a : Entry) (l : List Entry). a ∷ l) (sym e) s) b

pub compare : {j : Bytes} {form at to to' : ℕ} {gs hs : List Entry} → Between j form at gs to → Between j form at hs to' → Compared j form gs hs to to'
compare no_line no_line = alike refl refl
compare no_line (a_line x r) = fewer _ _ refl (a_line x r)
compare (a_line x r) no_line = further _ _ refl (a_line x r)
compare {j} {form} {to' = to'} (a_line x r) (a_line {gs = hs} y t) =
    let s = step_same x y in
    after s.entry (compare r (subst (λ (k : ℕ). Between j form k hs to') s.next t))

-- no step is where a journal ends
pub none_after : {j : Bytes} {form at to : ℕ} {g : Entry} {ks : List Entry} {e : Ending} → Between j form at (g ∷ ks) to → EndsAt j form at e → ⊥
none_after (a_line x r) y = no_end x y

-- a journal reads from an offset in one way only
pub reads_same :
    {j : Bytes} {form at : ℕ} {gs hs : List Entry} {e d : Ending} → ReadAs j form at gs e → ReadAs j form at hs d → (gs ≡ hs) × (e ≡ d)
reads_same {j} {form} {gs = gs} {hs} {e} {d} r t = go (compare r.steps t.steps)
  where
    go : Compared j form gs hs r.to t.to → (gs ≡ hs) × (e ≡ d)
    go (alike s n) = (s, ends_same r.ends (subst (λ (k : ℕ). EndsAt j form k d) (sym n) t.ends))
    go (fewer g ks s b) = absurd (none_after b r.ends)
    go (further g ks s b) = absurd (none_after b t.ends)

-- ---- there is a reading

one : {j : Bytes} {form at : ℕ} {gs : List Entry} {e : Ending} → ReadAs j form at gs e → OneReading j form at
one {gs = gs} {e = e} r = record { steps = gs; ending = e; holds = r; only = λ hs d x. reads_same x r }

reading_on :
    (j : Bytes) (form at : ℕ) → (form ≡ 0 → ⊥) → ((next : ℕ) → at < next → next ≤ length j → OneReading j form next) → (b : Next) → NextOf j at form b
    → OneReading j form at
reading_on j form at f on (Ok (Some (Opening g o next))) x = absurd (f (known x).0)
reading_on j form at f on (Ok None) x = one (record { to = at; steps = no_line; ends = at_end x })
reading_on j form at f on (Err k) x = one (record { to = at; steps = no_line; ends = at_refusal x })
reading_on j form at f on (Ok (Some (Step call start end next))) x =
    let k = (known x).1 in
    let r = (on next k.forward k.inside).holds in
    one (record { to = r.to; steps = a_line x r.steps; ends = r.ends })

reading_within : (j : Bytes) (form : ℕ) → (form ≡ 0 → ⊥) → (n at : ℕ) → length j - at ≤ n → OneReading j form at
reading_within j form f zero at h = reading_on j form at f (λ next a b. absurd (omega arith)) (one_next_theorem j at form).answer (one_next_theorem j at form).holds
reading_within j form f (suc n) at h =
    reading_on j form at f (λ next a b. reading_within j form f n next (omega arith)) (one_next_theorem j at form).answer (one_next_theorem j at form).holds

pub one_reading_theorem : OneReadingTheorem
one_reading_theorem j form at f = reading_within j form f (length j - at) at (omega arith)
