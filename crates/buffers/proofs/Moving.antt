-- A move whose places and lengths fit: each place lies in its buffer, and the buffers after it are those of the definition.
use Prim.Native.Nat.{ℕ, ◌+◌, ◌≤◌}
use mathlib.Core.{Path.{◌≡◌, refl}, Bool.{Bool, true, false}}
use lib.{Dec.eqb, ListN.length}
use borrow.Author.Tests.{eqb-true}
use Rattle.protocol.specs.{Pick.pick, Limits.opening_fits}
use Rattle.protocol.specs.Buffers.{Bytes, private_length, shared_length, copy_start, manager_start, writeback_start, answer_start, There, given_fits}
use Rattle.protocol.specs.{Buffers.{moved_private, moved_shared}, Refusals.buffers_fit, declared.{Opening.Opening, Move.{Move, TheVariants.{Still, Store}}}}
use Rattle.protocol.proofs.{Tests.{both_true}, Extents.{copy_ends, manager_ends, writeback_ends, answer_ends}}
use Rattle.refusals.specs.Input.{lengths_fit}
use Rattle.buffers.specs.{Moves.{is_there, move_fits, Moves}, declared.places.Places.Places}
use Rattle.buffers.proofs.Laws.{to_there}

-- lengths np, nq and n of the buffers and of a store's bytes that fit
module _ (v : Move) (o : Opening) (np nq c l n : ℕ) (fits : move_fits v o np nq c l n ≡ true) where
  tests : (is_there o c l ≡ true) × (buffers_fit o np nq ≡ true) × (given_fits v o.width n ≡ true)
  unfolding move_fits
  tests =
      let a = both_true (is_there o c l) _ fits in
      let b = both_true (lengths_fit o np nq) _ a.1 in
      (a.0, (both_true (opening_fits o) _ b.0).1, b.1)

  lengths : (np ≡ private_length o) × (nq ≡ shared_length o)
  unfolding buffers_fit
  lengths = let a = both_true (eqb np (private_length o)) _ tests.1 in (eqb-true _ _ a.0, eqb-true _ _ a.1)

-- what is known of a move whose places and lengths fit: each place lies in its buffer, and a store's bytes are a line's
pub record Fitting (v : Move) (o : Opening) (c l : ℕ) (given p q : Bytes) : Type 0 where
  pub tested : move_fits v o (length p) (length q) c l (length given) ≡ true
  pub there : There o c l
  pub copy : copy_start o c l + o.width ≤ length p
  pub manager : manager_start o l + o.width ≤ length q
  pub writeback : writeback_start o l + o.width ≤ length q
  pub answer : answer_start o c + o.width ≤ length q
  pub store : v ≡ Store → copy_start o c l + length given ≤ length p

pub fitting : (v : Move) (o : Opening) (c l : ℕ) (given p q : Bytes) → move_fits v o (length p) (length q) c l (length given) ≡ true → Fitting v o c l given p q
fitting v o c l given p q h =
    let at = to_there o c l (tests v o _ _ c l _ h).0 in
    let np = (lengths v o _ _ c l _ h).0 in
    let nq = (lengths v o _ _ c l _ h).1 in
    record {
      tested = h;
      there = at;
      copy = rw np (copy_ends at);
      manager = rw nq (manager_ends at);
      writeback = rw nq (writeback_ends at);
      answer = rw nq (answer_ends at);
      store = λ e. rw (eqb-true (length given) o.width (rw e at (tests v o _ _ c l _ h).2), np) (copy_ends at);
    }

-- where no bytes move, the buffers stay whether the places fit or not
stays : (t : Bool) (x : Bytes) → x ≡ pick t x x
stays true x = refl
stays false x = refl

pub as_still : {v : Move} {o : Opening} {c l : ℕ} {given p q : Bytes} → v ≡ Still → Moves v o c l given p q p q
unfolding moved_private moved_shared
as_still {v} {o} {c} {l} {given} {p} {q} e =
    let t : Bool = move_fits Still o (length p) (length q) c l (length given) in
    rw e (record { private = stays t p; shared = stays t q })

-- the buffers are as the move leaves them
pub as_moved :
    {v : Move} {o : Opening} {c l : ℕ} {given p q : Bytes} → Fitting v o c l given p q → (p' q' : Bytes)
    → p' ≡ moved_private v o c l given p q → q' ≡ moved_shared v o c l p q → Moves v o c l given p q p' q'
as_moved f p' q' a b = record { private = rw f.tested a; shared = rw f.tested b }

-- where the lines of bytes of core c and line l start
pub record Starts (p : Places) (o : Opening) (c l : ℕ) : Type 0 where
  pub copy : copy_start p.opening p.core p.line ≡ copy_start o c l
  pub manager : manager_start p.opening p.line ≡ manager_start o l
  pub writeback : writeback_start p.opening p.line ≡ writeback_start o l
  pub answer : answer_start p.opening p.core ≡ answer_start o c

pub starts : {p : Places} {o : Opening} {c l : ℕ} → p.opening ≡ o → p.core ≡ c → p.line ≡ l → Starts p o c l
starts a b d = record { copy = rw (a, b, d); manager = rw (a, d); writeback = rw (a, d); answer = rw (a, b) }
