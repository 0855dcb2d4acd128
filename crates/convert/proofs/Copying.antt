-- A result that is copied into the lent buffer, where it has room there: the answer and the buffer are the definition's.
use Prim.Native.Nat.{ℕ, ◌+◌, ◌≤◌, ◌<◌}
use mathlib.Core.{Path.{◌≡◌, refl, sym, ◌∙◌, ap, subst}, Bool.{Bool, true, false, cond}, List.List}
use native.Mathlib.{Omega.arith, Nat.zero-add}
use lib.{Dec.ltb, ListN.{length, take, length-take}}
use borrow.Author.Tests.{ltb-false, leb-true, leb-false, lt-ltb, le-ltb}
use Rattle.protocol.specs.{Pick.{pick, fails}, Limits.opening_fits, Buffers.Bytes, Run.Entry, declared.Opening.Opening as Sizes}
use Rattle.std.specs.{Prelude.{Option, Some, None, Result, Ok, Err}, Option.ok_or}
use Rattle.grammar.specs.declared.Refusal.{Refusal, TheVariants.TooMuch}
use Rattle.spelling.specs.{Over.{has_room, over, PutAt}}
use Rattle.convert.specs.Conversion.{form_from, Reads, unlike, result_of, most_bytes, refusal_of, answer_by, buffer_by, Converts, malformed as of_malformed, reads as of_reading}
use Rattle.convert.specs.{Writing.{Writes, malformed, reads}, declared.To.To}
use Rattle.convert.proofs.Longer.{passed}

-- ---- by the room

module _ (to : To) (o : Sizes) (gs : List Entry) where
  abbrev size : ℕ
  size = length (result_of to o gs)

  -- what refuses a result of any length comes before its length
  refused_anyway : (room : ℕ) → (refusal_of to o gs most_bytes ≡ None → ⊥) → refusal_of to o gs room ≡ refusal_of to o gs most_bytes
  unfolding refusal_of
  refused_anyway room h = go (fails (opening_fits o)) refl (unlike to o gs) refl (ltb most_bytes size) refl
    where
      go : (a : Bool) → fails (opening_fits o) ≡ a → (b : Bool) → unlike to o gs ≡ b → (c : Bool) → ltb most_bytes size ≡ c → refusal_of to o gs room ≡ refusal_of to o gs most_bytes
      go true p b q c r = rw p refl
      go false p true q c r = rw (p, q) refl
      go false p false q true r = rw (p, q, r) refl
      go false p false q false r = absurd (h (rw (p, q, r) refl))

  -- where nothing refuses it, its length in the buffer decides
  module _ (z : refusal_of to o gs most_bytes ≡ None) where
    clear : (fails (opening_fits o) ≡ false) × (unlike to o gs ≡ false) × (ltb most_bytes size ≡ false)
    unfolding refusal_of
    clear =
        let a = passed (fails (opening_fits o)) _ _ z in
        let b = passed (unlike to o gs) _ _ a.1 in
        (a.0, b.0, (passed (ltb most_bytes size) _ _ b.1).0)

    within : size ≤ most_bytes
    within = ltb-false _ _ clear.2

    by_room : (room : ℕ) → refusal_of to o gs room ≡ pick (ltb room size) (Some TooMuch) None
    unfolding refusal_of
    by_room room = rw (clear.0, clear.1, clear.2) refl

-- ---- the answer of writing

-- an answer that is a refusal, and one that is a length
answer_refused : (k : Option Refusal) (m : ℕ) (r : Refusal) → answer_by k m ≡ Err r → k ≡ Some r
answer_refused None m r e = absurd (let z : ◌≡◌ {A = ℕ} 0 1 = cc in omega arith)
answer_refused (Some s) m r e = let q : s ≡ r = cc in ap Some q

ok_same : {m n : ℕ} → ◌≡◌ {A = Result ℕ Refusal} (Ok m) (Ok n) → m ≡ n
ok_same e = cc

pub answer_length : (k : Option Refusal) (m n : ℕ) → answer_by k m ≡ Ok n → (k ≡ None) × (m ≡ n)
answer_length None m n e = (refl, ok_same e)
answer_length (Some s) m n e = absurd (let z : ◌≡◌ {A = ℕ} 0 1 = cc in omega arith)

-- an offset that is answered, and one that is not
end_same : (a b : ℕ) (r : Option ℕ) → r ≡ Some a → r ≡ Some b → a ≡ b
end_same a b r e f = let q : Some a ≡ Some b = sym e ∙ f in cc

end_short : {X : Type 0} (a : ℕ) (r : Option ℕ) → r ≡ Some a → r ≡ None → X
end_short a r e f = let q : Some a ≡ None = sym e ∙ f in let z : ◌≡◌ {A = ℕ} 0 1 = cc in absurd (omega arith)

-- the answer and the buffer where a refusal applies, or none does
by_refusal :
    {to : To} {j old : Bytes} {o : Sizes} {gs : List Entry} → Reads (form_from to) j o gs → (k : Option Refusal) → refusal_of to o gs (length old) ≡ k
    → Converts to j old (answer_by k (length (result_of to o gs))) (buffer_by k (result_of to o gs) old)
by_refusal {to} {j} {old} {o} {gs} r k e =
    subst (λ (k : Option Refusal). Converts to j old (answer_by k (length (result_of to o gs))) (buffer_by k (result_of to o gs) old)) e (of_reading r)

-- a refusal: the buffer is as it was
pub refused_copied : {to : To} {j buffer : Bytes} {a : Result ℕ Refusal} {n : Refusal} (old : Bytes) → Writes to j buffer a → a ≡ Err n → Converts to j old (Err n) old
refused_copied {to} {j} {n = n} old (malformed {r = k} x) e = let q : k ≡ n = cc in subst (λ (i : Refusal). Converts to j old (Err i) old) q (of_malformed x)
refused_copied {to} {j} {n = n} old (reads {o = o} {gs = gs} r t) e =
    let x = answer_refused (refusal_of to o gs most_bytes) (length (result_of to o gs)) n e in
    let h : refusal_of to o gs most_bytes ≡ None → ⊥ = λ z. let i : ◌≡◌ {A = Option Refusal} (Some n) None = sym x ∙ z in let q : ◌≡◌ {A = ℕ} 0 1 = cc in omega arith in
    by_refusal {old = old} r (Some n) (refused_anyway to o gs (length old) h ∙ x)

-- a result: its steps, its length, and where it is
pub record Written (to : To) (j buffer : Bytes) (n : ℕ) : Type 0 where
  pub o : Sizes
  pub gs : List Entry
  pub reads : Reads (form_from to) j o gs
  pub none : refusal_of to o gs most_bytes ≡ None
  pub size : length (result_of to o gs) ≡ n
  pub text : take n buffer ≡ result_of to o gs

pub length_written : {to : To} {j buffer : Bytes} {a : Result ℕ Refusal} {n : ℕ} → Writes to j buffer a → a ≡ Ok n → Written to j buffer n
length_written (malformed x) e = absurd (let z : ◌≡◌ {A = ℕ} 0 1 = cc in omega arith)
length_written {to} {buffer = buffer} {n = n} (reads {o = o} {gs = gs} r t) e =
    let x = answer_length (refusal_of to o gs most_bytes) (length (result_of to o gs)) n e in
    record { o = o; gs = gs; reads = r; none = x.0; size = x.1; text = subst (λ (k : ℕ). take k buffer ≡ result_of to o gs) x.1 (t x.0) }

module _ {to : To} {j buffer : Bytes} {n : ℕ} (x : Written to j buffer n) where
  -- it lies in the buffer
  pub result_within : n ≤ length buffer
  result_within = omega (arith, sym (length-take n buffer) ∙ ap length x.text, x.size)

  -- and is no longer than the longest journal
  pub result_most : n ≤ most_bytes
  result_most = omega (arith, within to x.o x.gs x.none, x.size)

  module _ {old new : Bytes} {r : Option ℕ} (p : PutAt old 0 (take n buffer) new r) where
    abbrev result : Bytes
    result = result_of to x.o x.gs

    laid : PutAt old 0 (result_of to x.o x.gs) new r
    laid = rw x.text at p

    -- it is copied
    pub copied : {e : ℕ} → r ≡ Some e → Converts to j old (Ok e) new
    copied {e} q = go (has_room (length old) 0 (length result)) refl laid.answer laid.bytes
      where
        go : (b : Bool) → has_room (length old) 0 (length result) ≡ b → r ≡ cond b (Some (0 + length result)) None → new ≡ cond b (over old 0 result) old → Converts to j old (Ok e) new
        go true h a i =
            let k : length result ≡ e = sym (zero-add (length result)) ∙ end_same (0 + length result) e r a q in
            let l : length result ≤ length old = omega (arith, leb-true (0 + length result) (length old) h) in
            let z = by_room to x.o x.gs x.none (length old) ∙ ap (λ (b : Bool). pick b (Some TooMuch) None) (le-ltb (length old) (length result) l) in
            rw (i, ← k) (by_refusal x.reads None z)
        go false h a i = end_short e r q a

    -- it has no room in the lent buffer
    pub not_copied : r ≡ None → Converts to j old (Err TooMuch) new
    not_copied q = go (has_room (length old) 0 (length result)) refl laid.answer laid.bytes
      where
        go : (b : Bool) → has_room (length old) 0 (length result) ≡ b → r ≡ cond b (Some (0 + length result)) None → new ≡ cond b (over old 0 result) old → Converts to j old (Err TooMuch) new
        go true h a i = end_short (0 + length result) r a q
        go false h a i =
            let l : length old < length result = omega (arith, leb-false (0 + length result) (length old) h) in
            let z = by_room to x.o x.gs x.none (length old) ∙ ap (λ (b : Bool). pick b (Some TooMuch) None) (lt-ltb (length old) (length result) l) in
            rw i (by_refusal x.reads (Some TooMuch) z)

    -- either way
    pub copied_or : {a : Result ℕ Refusal} → a ≡ ok_or r TooMuch → Converts to j old a new
    copied_or {a} e = go r refl e
      where
        go : (q : Option ℕ) → r ≡ q → a ≡ ok_or q TooMuch → Converts to j old a new
        go (Some k) x f = rw f (copied x)
        go None x f = rw f (not_copied x)
