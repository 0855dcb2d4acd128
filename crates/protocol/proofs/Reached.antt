-- Lists of calls: what holds of a machine and of the records so far, and is kept by every call, holds at each place of a run. A law about
-- reached machines goes by it, with one lemma about a step (proofs/Cases).
use Prim.Native.Nat.{ℕ, suc}
use mathlib.Core.{Logic.{◌⊎◌, inl, inr, ⊎_elim}, List.{List, [], ◌∷◌, ◌++◌}}
use Rattle.protocol.specs.{Buffers.Bytes, Machine.Machine, Step.step, Run.{Entry, Record, place, run, Commit, commit_of, commits}, Order.{In, here, there}}

-- the record of a call at place p
abbrev pub recorded : ℕ → Machine → Entry → Record
recorded p m g = record { place = place p; entry = g; reply = (step m g.call g.given).reply }

-- records made after others, newest first
unfoldable pub onto : List Record → List Record → List Record
onto [] rs = rs
onto (x ∷ xs) rs = onto xs (x ∷ rs)

-- P p rs m: the machine m is reached before place p, with the records rs, newest first
module _ (P : ℕ → List Record → Machine → Type 0)
    (next : (p : ℕ) (rs : List Record) (m : Machine) (g : Entry) → P p rs m → P (suc p) (recorded p m g ∷ rs) (step m g.call g.given).machine) where
  pub reached : (gs : List Entry) (p : ℕ) (rs : List Record) (m : Machine) → P p rs m → (p' : ℕ) × P p' (onto (run gs p m).records rs) (run gs p m).last
  unfolding run onto
  reached [] p rs m h = (p, h)
  reached (g ∷ gs) p rs m h = reached gs (suc p) (recorded p m g ∷ rs) (step m g.call g.given).machine (next p rs m g h)

-- ---- the commits of a run, in its order and newest first

in_left : {T : Type 0} {a : T} {xs : List T} (ys : List T) → In a xs → In a (xs ++ ys)
in_left ys (here q) = here q
in_left ys (there i) = there (in_left ys i)

in_right : {T : Type 0} {a : T} (xs : List T) {ys : List T} → In a ys → In a (xs ++ ys)
in_right [] i = i
in_right (x ∷ xs) i = there (in_right xs i)

in_append : {T : Type 0} {a : T} (xs : List T) {ys : List T} → In a (xs ++ ys) → In a xs ⊎ In a ys
in_append [] i = inr i
in_append (x ∷ xs) (here q) = inl (here q)
in_append (x ∷ xs) (there i) = ⊎_elim (λ j. inl (there j)) (λ j. inr j) (in_append xs i)

made : Record → List (Commit Bytes)
made r = commit_of r.place r.entry r.reply

pub from_onto : (xs rs : List Record) {a : Commit Bytes} → In a (commits (onto xs rs)) → In a (commits xs) ⊎ In a (commits rs)
unfolding onto commits made
from_onto [] rs i = inr i
from_onto (x ∷ xs) rs i =
    ⊎_elim (λ j. inl (in_right (made x) j)) (λ j. ⊎_elim (λ k. inl (in_left _ k)) (λ k. inr k) (in_append (made x) j)) (from_onto xs (x ∷ rs) i)

pub to_onto : (xs rs : List Record) {a : Commit Bytes} → In a (commits xs) ⊎ In a (commits rs) → In a (commits (onto xs rs))
unfolding onto commits made
to_onto [] rs (inl i) = elim i [ ]
to_onto [] rs (inr i) = i
to_onto (x ∷ xs) rs (inl i) = to_onto xs (x ∷ rs) (⊎_elim (λ j. inr (in_left _ j)) (λ j. inl j) (in_append (made x) i))
to_onto (x ∷ xs) rs (inr i) = to_onto xs (x ∷ rs) (inr (in_right (made x) i))
