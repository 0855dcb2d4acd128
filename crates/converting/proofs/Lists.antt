-- A list of calls and the same in the other form yield the same: an evict comes to what the call that fits the copy comes to.
use Prim.Native.Nat.{ℕ, suc}
use mathlib.Core.{Path.{◌≡◌, refl, sym, ◌∙◌, ap, ap₂}, Bool.{Bool, true, false}, List.{List, [], ◌∷◌, ◌++◌}, Logic.{inl, inr}}
use native.Mathlib.Omega.{arith}
use lib.{Dec.eqb, ListN.length}
use borrow.Author.Tests.{lt-ltb, leb-false, ne_eqb}
use Rattle.protocol.specs.{Pick.{pick, first}, Buffers.Bytes, About.about, Given.{given_as, bytes_as, bytes_given}, Copies.is_owned}
use Rattle.protocol.specs.Machine.{Machine, copy_at, pieces_at, core_of, line_of}
use Rattle.protocol.specs.Refusals.{given_refusal, machine_refusal, call_rules, call_refusal, state_rules, state_refusal, or_else, refusal}
use Rattle.protocol.specs.Step.{Reply, refused, done, commit, Outcome, step}
use Rattle.protocol.specs.{Run.{Entry, place, run, Commit, commit_of, commits}, Evict.{fitting, renamed, answering}}
use Rattle.protocol.specs.declared.Copy.{Copy, TheVariants.{None as NoCopy, Shared as CopyShared, Owned as CopyOwned}}
use Rattle.protocol.specs.declared.Call.{Call, TheVariants.{Load, Store, Fence, Evict, Drop, Writeback, Advance, Serve, Receive, Yield, Take, Victim}}
use Rattle.protocol.specs.declared.{Place.Place, About.About, Act.TheVariants.Transfer, Name.TheVariants.Evict as Evicted}
use Rattle.protocol.proofs.{Tests.never, Refusals.{or_none, named}, Evict.evict_theorem}
use Rattle.spelling.proofs.Decide.{Told, same_number}
use Rattle.convert.specs.{Forms.{owns_copy, in_second, in_first, converted}, Conversion.{answers, some}}
use Rattle.converting.specs.Lists.{Yielded, yielded_by, yielded, Alike, ToSecondTheorem, ToFirstTheorem}

-- ---- refusals

-- a call's refusals come in two parts: 13 and 1 to 6, which go by what it is about; then 20 and up
abbrev early : Machine → Bytes → About → ℕ
early m given x =
    or_else (given_refusal (given_as x.act) given)
    (or_else (machine_refusal m) (first (call_rules x m.state.opening (length (bytes_as (given_as x.act) given)))))

abbrev late : Machine → Call → ℕ
late m call = state_refusal call (pieces_at m.state (core_of call m.state) (line_of call m.state)) m.state.opening

-- of three refusals, the first two may be taken together
or_assoc : (a b c : ℕ) → or_else a (or_else b c) ≡ or_else (or_else a b) c
or_assoc a b c = go (eqb a 0) refl
  where
    go : (t : Bool) → eqb a 0 ≡ t → pick t (or_else b c) a ≡ or_else (pick t b a) c
    go true e = refl
    go false e = rw e

-- the first part's number, or where that is 0 the second's
in_parts : (m : Machine) (call : Call) (given : Bytes) → refusal m call given ≡ or_else (early m given (about call)) (late m call)
unfolding refusal call_refusal
in_parts m call given =
    let g = given_refusal (given_as (about call).act) given in
    let n = call_refusal call m.state.opening (length (bytes_given call given)) in
    ap (or_else g) (or_assoc (machine_refusal m) n (late m call)) ∙ or_assoc g (or_else (machine_refusal m) n) (late m call)

-- what a call gives that is refused with n
abbrev refusing : Machine → ℕ → Outcome
refusing m n = record { reply = refused n; machine = m }

module _ (m : Machine) (call : Call) (given : Bytes) (n : ℕ) (applies : n ≡ 0 → ⊥) where
  -- n is the number of both parts
  refused_with : or_else (early m given (about call)) (late m call) ≡ n → step m call given ≡ refusing m n
  unfolding step
  refused_with e = rw (in_parts m call given ∙ e, ne_eqb n 0 applies)

  -- one of the first part applies
  refused_early : early m given (about call) ≡ n → step m call given ≡ refusing m n
  refused_early e = refused_with (rw (e, ne_eqb n 0 applies))

  -- none does, and one of the second
  refused_late : early m given (about call) ≡ 0 → late m call ≡ n → step m call given ≡ refusing m n
  refused_late z e = refused_with (rw (z, e))

-- two calls about the same core, line and act, which give the same where 13 and 1 to 6 refuse nothing: they give the same
alike_early :
    (m : Machine) (a b : Call) (given : Bytes) → about a ≡ about b → (early m given (about a) ≡ 0 → step m a given ≡ step m b given)
    → step m a given ≡ step m b given
alike_early m a b given e f = go (same_number (early m given (about a)) 0)
  where
    go : Told (early m given (about a) ≡ 0) → step m a given ≡ step m b given
    go (inl z) = f z
    go (inr n) = refused_early m a given _ n refl ∙ sym (refused_early m b given _ n (ap (early m given) (sym e)))

-- ---- one call

-- a call with what is given to it, and what it gives
abbrev entry : Call → Bytes → Entry
entry call given = record { call = call; given = given }

abbrev outcome : Machine → Entry → Outcome
outcome m g = step m g.call g.given

-- two calls on one machine come to the same, but for the name of what was done
record Same (m : Machine) (g h : Entry) : Type 0 where
  pub yields : yielded_by (outcome m g).reply ≡ yielded_by (outcome m h).reply
  pub commits : (p : Place) → commit_of p g (outcome m g).reply ≡ commit_of p h (outcome m h).reply
  pub machine : (outcome m g).machine ≡ (outcome m h).machine

-- a call comes to the same as itself; and where one comes to the same as another, the other does as the one
stays : (m : Machine) (g : Entry) → Same m g g
stays m g = record { yields = refl; commits = λ p. refl; machine = refl }

turned : {m : Machine} {g h : Entry} → Same m g h → Same m h g
turned x = record { yields = sym x.yields; commits = λ p. sym (x.commits p); machine = sym x.machine }

-- a name is not among what a place yields
name_apart : (r : Reply) → yielded_by (renamed Evicted r) ≡ yielded_by r
name_apart (refused n) = refl
name_apart (done d) = refl
name_apart (commit c t o) = refl

-- "Commits come from load, store and fence only"
no_commit : (m : Machine) (p : Place) (g : Entry) → (about g.call).act ≡ Transfer → commit_of p g (outcome m g).reply ≡ []
no_commit m p g e = go (outcome m g).reply
  where
    go : (r : Reply) → commit_of p g r ≡ []
    go (refused n) = refl
    go (done d) = refl
    go (commit c t o) = rw e

module _ (m : Machine) (c l : ℕ) (given : Bytes) where
  -- what an evict is about, and the copy that it finds
  abbrev evicted : About
  evicted = about (Evict c l)

  abbrev held : Copy
  held = copy_at m.state c l

  -- an evict and a call about the same that gives what the one that fits the copy gives, where 13 and 1 to 6 refuse nothing: they come to the same
  evicts : (call : Call) → about call ≡ evicted → (early m given evicted ≡ 0 → step m (fitting held c l) given ≡ step m call given)
      → Same m (entry (Evict c l) given) (entry call given)
  evicts call e f =
      let s = alike_early m (fitting held c l) call given (fits held ∙ sym e) (λ z. f (ap (early m given) (sym (fits held)) ∙ z)) in
      let x = evict_theorem m c l given ∙ ap (answering Evicted) s in
      record {
        yields = ap (λ (y : Outcome). yielded_by y.reply) x ∙ name_apart (step m call given).reply;
        commits = λ p. no_commit m p (entry (Evict c l) given) refl ∙ sym (no_commit m p (entry call given) (ap (λ (a : About). a.act) e));
        machine = ap (λ (y : Outcome). y.machine) x;
      }
    where
      fits : (v : Copy) → about (fitting v c l) ≡ evicted
      fits NoCopy = refl
      fits (CopyShared w r) = refl
      fits (CopyOwned d w r) = refl

  -- ---- from 1 to 2

  -- where 3 and 4 do not apply, the copy is that of a core and a line that are there
  inside : early m given evicted ≡ 0 → owns_copy m.state c l ≡ is_owned held
  unfolding call_refusal
  inside e =
      let o = m.state.opening in
      let a = named (Evict c l) o (length given) (or_none (machine_refusal m) _ e).1 in
      rw (lt-ltb c o.cores (leb-false o.cores c a.core), lt-ltb l o.lines (leb-false o.lines l a.line))

  -- an evict is the call that fits the copy where the core and the line are there, and else is refused as that is
  second : Same m (entry (Evict c l) given) (entry (in_second m.state (Evict c l)) given)
  second = evicts _ (same_about (owns_copy m.state c l)) (λ e. ap (λ (k : Call). step m k given) (fitting_owned held ∙ ap by_owned (sym (inside e))))
    where
      by_owned : Bool → Call
      by_owned t = pick t (Writeback c l) (Drop c l)

      same_about : (t : Bool) → about (by_owned t) ≡ evicted
      same_about true = refl
      same_about false = refl

      fitting_owned : (v : Copy) → fitting v c l ≡ by_owned (is_owned v)
      fitting_owned NoCopy = refl
      fitting_owned (CopyShared w r) = refl
      fitting_owned (CopyOwned d w r) = refl

  -- ---- from 2 to 1

  -- a call that 20 and up refuse with 30 answers 30, unless 13 and 1 to 6 refuse it
  not_30 : (call : Call) → answers 30 (step m call given).reply ≡ false → early m given (about call) ≡ 0 → late m call ≡ 30 → ⊥
  not_30 call n z e = never (ap (λ (x : Outcome). answers 30 x.reply) (sym (refused_late m call given 30 (λ i. omega arith) z e)) ∙ n)

  -- a drop or a writeback that does not answer 30 is the call that fits the copy, or is refused as that is, without a copy with 26
  drop_first : answers 30 (step m (Drop c l) given).reply ≡ false → Same m (entry (Evict c l) given) (entry (Drop c l) given)
  unfolding state_refusal state_rules first
  drop_first n = evicts _ refl (by_copy held refl)
    where
      by_copy : (v : Copy) → held ≡ v → early m given evicted ≡ 0 → step m (fitting v c l) given ≡ step m (Drop c l) given
      by_copy NoCopy e z = refl
      by_copy (CopyShared w r) e z = refl
      by_copy (CopyOwned d w r) e z = absurd (not_30 (Drop c l) n z (rw e refl))

  writeback_first : answers 30 (step m (Writeback c l) given).reply ≡ false → Same m (entry (Evict c l) given) (entry (Writeback c l) given)
  unfolding state_refusal state_rules first
  writeback_first n = evicts _ refl (by_copy held refl)
    where
      by_copy : (v : Copy) → held ≡ v → early m given evicted ≡ 0 → step m (fitting v c l) given ≡ step m (Writeback c l) given
      by_copy NoCopy e z =
          refused_late m (Drop c l) given 26 (λ i. omega arith) z (rw e refl)
          ∙ sym (refused_late m (Writeback c l) given 26 (λ i. omega arith) z (rw e refl))
      by_copy (CopyShared w r) e z = absurd (not_30 (Writeback c l) n z (rw e refl))
      by_copy (CopyOwned d w r) e z = refl

-- each call comes to the same as what becomes of it from 1 to 2
in_second_lem : (m : Machine) (call : Call) (given : Bytes) → Same m (entry call given) (entry (in_second m.state call) given)
in_second_lem m (Evict c l) given = second m c l given
in_second_lem m (Load c l) given = stays m _
in_second_lem m (Store g c l) given = stays m _
in_second_lem m (Fence c) given = stays m _
in_second_lem m (Drop c l) given = stays m _
in_second_lem m (Writeback c l) given = stays m _
in_second_lem m (Advance c by) given = stays m _
in_second_lem m (Serve c) given = stays m _
in_second_lem m (Receive c) given = stays m _
in_second_lem m (Yield l) given = stays m _
in_second_lem m (Take l) given = stays m _
in_second_lem m (Victim c) given = stays m _

-- and from 2 to 1, where it does not answer 30
in_first_lem : (m : Machine) (call : Call) (given : Bytes) → answers 30 (step m call given).reply ≡ false → Same m (entry call given) (entry (in_first call) given)
in_first_lem m (Drop c l) given n = turned (drop_first m c l given n)
in_first_lem m (Writeback c l) given n = turned (writeback_first m c l given n)
in_first_lem m (Load c l) given n = stays m _
in_first_lem m (Store g c l) given n = stays m _
in_first_lem m (Fence c) given n = stays m _
in_first_lem m (Evict c l) given n = stays m _
in_first_lem m (Advance c by) given n = stays m _
in_first_lem m (Serve c) given n = stays m _
in_first_lem m (Receive c) given n = stays m _
in_first_lem m (Yield l) given n = stays m _
in_first_lem m (Take l) given n = stays m _
in_first_lem m (Victim c) given n = stays m _

-- ---- a list

-- one call, and then the others from the machine after it
more :
    (g h : Entry) (gs hs : List Entry) (p : ℕ) (m : Machine) → Same m g h → Alike gs hs (suc p) (outcome m g).machine → Alike (g ∷ gs) (h ∷ hs) p m
unfolding run yielded commits
more g h gs hs p m x a =
    record {
      yields = ap₂ (λ (y : Yielded) (ys : List Yielded). y ∷ ys) x.yields (a.yields ∙ ap (λ (k : Machine). yielded (run hs (suc p) k).records) x.machine);
      commits =
          ap₂ (λ (y ys : List (Commit Bytes)). y ++ ys) (x.commits (place p))
          (a.commits ∙ ap (λ (k : Machine). commits (run hs (suc p) k).records) x.machine);
      last = a.last ∙ ap (λ (k : Machine). (run hs (suc p) k).last) x.machine;
    }

-- from 1 to 2
pub to_second_theorem : ToSecondTheorem
unfolding converted
to_second_theorem [] p m = record { yields = refl; commits = refl; last = refl }
to_second_theorem (g ∷ gs) p m = more g _ gs _ p m (in_second_lem m g.call g.given) (to_second_theorem gs (suc p) (outcome m g).machine)

-- neither the first element nor another
pub none_passes : (a b : Bool) → pick a true b ≡ false → (a ≡ false) × (b ≡ false)
none_passes true b e = never e
none_passes false b e = (refl, e)

-- from 2 to 1
pub to_first_theorem : ToFirstTheorem
unfolding converted run some
to_first_theorem [] p m n = record { yields = refl; commits = refl; last = refl }
to_first_theorem (g ∷ gs) p m n =
    let s = none_passes (answers 30 (outcome m g).reply) _ n in
    more g _ gs _ p m (in_first_lem m g.call g.given s.0) (to_first_theorem gs (suc p) (outcome m g).machine s.1)
