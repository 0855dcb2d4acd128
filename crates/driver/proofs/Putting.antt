-- A text put at an offset of the output: what is written before it and past it.
use Prim.Native.Nat.{ℕ, ◌+◌, ◌≤◌, ◌<◌}
use mathlib.Core.{Path.{◌≡◌, refl, sym, ◌∙◌, ap}, Bool.{Bool, true, false, cond}, List.{[], ◌++◌, append_assoc}}
use native.Mathlib.Omega.{arith}
use lib.{ListN.{length, take, drop, length-append, length-take, length-drop}, Seq.{drop_at, take_at, drop-drop}}
use borrow.Author.Tests.{leb-true, leb-false}
use Rattle.protocol.specs.{Buffers.Bytes, Step.{refused, meaning}, declared.{Answer.TheVariants.Refused, Place.Place, Counts.Counts}, Run.place}
use Rattle.spelling.specs.{Over.{has_room, over, PutAt}}
use Rattle.listing.{specs.Record.{record_text, end_text}, proofs.Lengths.{record_length, end_length}}
use Rattle.grammar.specs.{Refusal.number, declared.Refusal.{Refusal}}
use Rattle.driver.specs.{Listing.stop_lines, Play.Fills}
use Rattle.std.specs.Prelude.{Option, Some, None}

-- a text that was put: the offset after it, the output up to there, and the output past it
pub record Written (old : Bytes) (at : ℕ) (t new : Bytes) (e : ℕ) : Type 0 where
  pub room : at + length t ≤ length old
  pub end : e ≡ at + length t
  pub size : length new ≡ length old
  pub before : take e new ≡ take at old ++ t
  pub beyond : drop e new ≡ drop e old

pub over_written : (old : Bytes) (at : ℕ) (t : Bytes) → at + length t ≤ length old → Written old at t (over old at t) (at + length t)
over_written old at t h =
    let n : length (take at old ++ t) ≡ at + length t = simp (length-append, length-take) (omega arith) in
    let a : over old at t ≡ (take at old ++ t) ++ drop (at + length t) old = sym (append_assoc (take at old) t (drop (at + length t) old)) in
    record {
      room = h;
      end = refl;
      size = simp (length-append, length-take, length-drop) (omega arith);
      before = ap (take (at + length t)) a ∙ take_at (take at old ++ t) (drop (at + length t) old) (at + length t) n;
      beyond = ap (drop (at + length t)) a ∙ drop_at (take at old ++ t) (drop (at + length t) old) (at + length t) n;
    }

-- the text was put
pub put_written : {old : Bytes} {at : ℕ} {t new : Bytes} {r : Option ℕ} {e : ℕ} → PutAt old at t new r → r ≡ Some e → Written old at t new e
put_written {old} {at} {t} {new} {r} {e} p x = go (has_room (length old) at (length t)) refl p.answer p.bytes
  where
    go : (b : Bool) → has_room (length old) at (length t) ≡ b → r ≡ cond b (Some (at + length t)) None → new ≡ cond b (over old at t) old → Written old at t new e
    go true h a n =
        let q : at + length t ≡ e = cc in
        rw (n, sym q) (over_written old at t (leb-true _ _ h))
    go false h a n = absurd (let z : ◌≡◌ {A = ℕ} 0 1 = cc in omega arith)

-- there was no room for it, and the output is as it was
pub put_short : {old : Bytes} {at : ℕ} {t new : Bytes} {r : Option ℕ} → PutAt old at t new r → r ≡ None → (length old < at + length t) × (new ≡ old)
put_short {old} {at} {t} {new} {r} p x = go (has_room (length old) at (length t)) refl p.answer p.bytes
  where
    go : (b : Bool) → has_room (length old) at (length t) ≡ b → r ≡ cond b (Some (at + length t)) None → new ≡ cond b (over old at t) old → (length old < at + length t) × (new ≡ old)
    go true h a n = absurd (let z : ◌≡◌ {A = ℕ} 0 1 = cc in omega arith)
    go false h a n = (leb-false _ _ h, n)

-- ---- the output filled from its start

pub fills_none : (old : Bytes) → Fills old old 0
fills_none old = record { size = refl; within = omega arith; beyond = refl }

-- a text more
pub fills_more : {old out t new : Bytes} {used e : ℕ} → Fills old out used → Written out used t new e → Fills old new e
fills_more {old} {out} {t} {used = used} g v =
    let d : drop (used + length t) out ≡ drop (used + length t) old =
    sym (drop-drop (length t) used out) ∙ ap (drop (length t)) g.beyond ∙ drop-drop (length t) used old in
    record { size = v.size ∙ g.size; within = omega (arith, v.room, v.end, v.size); beyond = v.beyond ∙ rw v.end d }

-- ---- the last lines of a run that a refused line ends

-- a `refused=` line is short
pub refused_length : (p : Place) (n : ℕ) → length (record_text p (refused n)) ≤ 118
unfolding meaning
refused_length p n = omega (arith, record_length p (Refused n) [])

abbrev stop_line : Counts → ℕ → Bytes
stop_line k n = record_text (place k.steps) (refused n)

module _ {old : Bytes} (k : Counts) (n : ℕ) (size : length old ≡ 256) where
  -- the first of them has room in a buffer of 256 bytes
  pub first_fits : {new : Bytes} {r : Option ℕ} → PutAt old 0 (stop_line k n) new r → r ≡ None → ⊥
  first_fits w e = let h = put_short w e in omega (arith, h.0, refused_length (place k.steps) n)

  module _ {mid : Bytes} {r : Option ℕ} {e : ℕ} (w : PutAt old 0 (stop_line k n) mid r) (h : r ≡ Some e) where
    one : Written old 0 (stop_line k n) mid e
    one = put_written w h

    -- and so has the other
    pub second_fits : {new : Bytes} {q : Option ℕ} → PutAt mid e (end_text k) new q → q ≡ None → ⊥
    second_fits v x = let s = put_short v x in omega (arith, s.0, refused_length (place k.steps) n, end_length k, one.end, one.size)

    pub last_within : {new : Bytes} {q : Option ℕ} {f : ℕ} → PutAt mid e (end_text k) new q → q ≡ Some f → f ≤ length new
    last_within v x = let s = put_written v x in omega (arith, s.room, s.end, s.size)

    -- the text up to the offset after both
    pub last_text : {new : Bytes} {q : Option ℕ} {f : ℕ} → PutAt mid e (end_text k) new q → q ≡ Some f → (s : Refusal) → n ≡ number s → take f new ≡ stop_lines k s
    last_text v x s same =
        (put_written v x).before ∙ ap (λ (l : Bytes). l ++ end_text k) one.before ∙ ap (λ (m : ℕ). record_text (place k.steps) (refused m) ++ end_text k) same
