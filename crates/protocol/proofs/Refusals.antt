-- What is known where no refusal applies.
use Prim.Native.Nat.{ℕ, ◌≤◌, ◌<◌}
use mathlib.Core.{Path.{◌≡◌, refl, sym, ◌∙◌}, Bool.{Bool, true, false}, List.{List, [], ◌∷◌}}
use native.Mathlib.Omega.{arith}
use lib.{Dec.eqb, ListN.length}
use borrow.Author.Tests.{ltb-true, leb-false, eqb-true, eq-eqb}
use Rattle.protocol.specs.{Pick.{pick, fails, Rule, first, ◌gives◌}, Limits.opening_fits, Fresh.{fresh_core, fresh_line}}
use Rattle.protocol.specs.{Buffers.{Bytes, private_length, shared_length, There}, About.{about, named_line}, Given.{given_as, bytes_given}}
use Rattle.protocol.specs.{Machine.{Machine, core_at, copy_at, line_at, slot_line, the_core, the_line, core_of, line_of, pieces_at}, Tables.refused_row}
use Rattle.protocol.specs.Refusals.{open_refusal, owner_fits, slot_fits, owners_fit, slots_fit, state_fits, buffers_fit, machine_refusal, no_core, no_line}
use Rattle.protocol.specs.Refusals.{given_refusal, wrong_count, by_nothing, call_rules, call_refusal, state_refusal, or_else, refusal}
use Rattle.protocol.specs.declared.{Slot.{Slot, TheVariants.{Empty, Asked, Answered}}, Core.Core, Manager.{Manager, TheVariants.{Shared, Owned}}}
use Rattle.protocol.specs.declared.{ManagerLine.ManagerLine, Opening.Opening, Call.Call, Who.{Who, TheVariants.{Named as NamedCore, Owner, Nobody}}}
use Rattle.protocol.specs.declared.{Which.{Which, TheVariants.{Named as NamedLine, Asked as OfAsked, Answered as OfAnswered, Nothing, Victim as OfVictim}}, About.About, Pieces.Pieces, Effect.Effect}
use Rattle.protocol.specs.declared.{Act.TheVariants.Store as Stores, Given.Given}
use Rattle.protocol.proofs.{Tests.{never, both_true}, Scan.every_at, Extents.{Inside, inside, there_at}, Copies.victim_inside}

-- ---- tests and rules

pub not-true : (a : Bool) → fails a ≡ false → a ≡ true
not-true true e = refl
not-true false e = never e

-- a rule that does not apply, and the rest of the list
pub passed : (a : Bool) (n : ℕ) (rs : List Rule) → 0 < n → first ((a gives n) ∷ rs) ≡ 0 → (a ≡ false) × (first rs ≡ 0)
unfolding first
passed true n rs h e = absurd (omega arith)
passed false n rs h e = (refl, e)

-- the only rule left of a call, as a row decides it: its number with the pieces as they are, or the table's row
pub ruled :
    (a : Bool) (n : ℕ) (d : Effect) (p : Pieces) → eqb n 0 ≡ false
    → pick a (refused_row n p) d ≡ pick (eqb (pick a n 0) 0) d (refused_row (pick a n 0) p)
ruled true n d p e = rw e
ruled false n d p e = refl

pub or_none : (a b : ℕ) → or_else a b ≡ 0 → (a ≡ 0) × (b ≡ 0)
or_none a b e = go (eqb a 0) refl e
  where
    go : (t : Bool) → eqb a 0 ≡ t → pick t b a ≡ 0 → (a ≡ 0) × (b ≡ 0)
    go true q i = (eqb-true a 0 q, i)
    go false q i = never (sym (eq-eqb a 0 i) ∙ q)

-- ---- 1 and 2

-- an opening that is accepted
pub opening_fit : (o : Opening) → open_refusal o ≡ 0 → opening_fits o ≡ true
unfolding open_refusal
opening_fit o e = not-true (opening_fits o) (passed (fails (opening_fits o)) 7 [] (omega arith) e).0

-- a machine that neither 1 nor 2 refuses
pub record Fit (m : Machine) : Type 0 where
  pub opening : opening_fits m.state.opening ≡ true
  pub owners : owners_fit m.state.opening m.state.line ≡ true
  pub slots : slots_fit m.state.opening m.state.core ≡ true
  pub n_private : length m.private ≡ private_length m.state.opening
  pub n_shared : length m.shared ≡ shared_length m.state.opening

pub machine_fit : (m : Machine) → machine_refusal m ≡ 0 → Fit m
unfolding machine_refusal state_fits buffers_fit
machine_fit m e =
    let o = m.state.opening in
    let a = passed (fails (state_fits m.state)) 1 _ (omega arith) e in
    let b = passed (fails (buffers_fit o (length m.private) (length m.shared))) 2 [] (omega arith) a.1 in
    let s = both_true (opening_fits o) _ (not-true (state_fits m.state) a.0) in
    let t = both_true (owners_fit o m.state.line) _ s.1 in
    let u = both_true (eqb (length m.private) (private_length o)) _ (not-true (buffers_fit o (length m.private) (length m.shared)) b.0) in
    record {
      opening = s.0;
      owners = t.0;
      slots = t.1;
      n_private = eqb-true (length m.private) (private_length o) u.0;
      n_shared = eqb-true (length m.shared) (shared_length o) u.1;
    }

-- ---- 3 to 6

-- what none of 3 to 6 refuses
pub record Named (a : About) (o : Opening) (n : ℕ) : Type 0 where
  pub core : no_core a.core o ≡ false
  pub line : no_line a.line o ≡ false
  pub count : wrong_count a.act o n ≡ false
  pub by : by_nothing a.act ≡ false

pub named : (call : Call) (o : Opening) (n : ℕ) → call_refusal call o n ≡ 0 → Named (about call) o n
unfolding call_refusal call_rules
named call o n e =
    let a = passed (no_core (about call).core o) 3 _ (omega arith) e in
    let b = passed (no_line (about call).line o) 4 _ (omega arith) a.1 in
    let c = passed (wrong_count (about call).act o n) 5 _ (omega arith) b.1 in
    record { core = a.0; line = b.0; count = c.0; by = (passed (by_nothing (about call).act) 6 [] (omega arith) c.1).0 }

-- a store that 5 does not refuse has bytes for one line
pub store_width : (g : Given) (o : Opening) (n : ℕ) → wrong_count (Stores g) o n ≡ false → n ≡ o.width
store_width g o n e = eqb-true n o.width (not-true (eqb n o.width) e)

-- the core that a call is about, the line that it names and the line that it is about lie inside the sizes
core_inside : (o : Opening) (w : Who) (v : Manager) → 1 ≤ o.cores → no_core w o ≡ false → owner_fits o.cores v ≡ true → the_core w v < o.cores
core_inside o (NamedCore c) v h e i = leb-false o.cores c e
core_inside o Owner (Shared w r) h e i = h
core_inside o Owner (Owned c) h e i = ltb-true c o.cores i
core_inside o Nobody v h e i = h

pub named_inside : (o : Opening) (w : Which) → 1 ≤ o.lines → no_line w o ≡ false → named_line w < o.lines
named_inside o (NamedLine l) h e = leb-false o.lines l e
named_inside o OfAsked h e = h
named_inside o OfAnswered h e = h
named_inside o Nothing h e = h
named_inside o OfVictim h e = h

slot_line_lem : (n : ℕ) (v : Slot) → 1 ≤ n → slot_fits n v ≡ true → slot_line v < n
slot_line_lem n Empty h i = h
slot_line_lem n (Asked a l t d) h i = ltb-true l n i
slot_line_lem n (Answered g l w r) h i = ltb-true l n i

line_inside : (o : Opening) (w : Which) (v : Slot) (t : ℕ) → 1 ≤ o.lines → no_line w o ≡ false → slot_fits o.lines v ≡ true → t < o.lines → the_line w v t < o.lines
line_inside o (NamedLine l) v t h e i j = leb-false o.lines l e
line_inside o OfAsked v t h e i j = slot_line_lem o.lines v h i
line_inside o OfAnswered v t h e i j = slot_line_lem o.lines v h i
line_inside o Nothing v t h e i j = h
line_inside o OfVictim v t h e i j = j

module _ {m : Machine} (f : Fit m) where
  -- the slot of a core speaks of a line that is there
  pub slot_inside : (c : ℕ) → c < m.state.opening.cores → slot_fits m.state.opening.lines (core_at m.state c).slot ≡ true
  unfolding slots_fit
  slot_inside c h =
      every_at (λ (k : Core). slot_fits m.state.opening.lines k.slot) fresh_core refl m.state.core m.state.opening.cores c h f.slots

  -- the owner of a line is a core that is there
  pub owner_inside : (l : ℕ) → l < m.state.opening.lines → owner_fits m.state.opening.cores (line_at m.state l).manager ≡ true
  unfolding owners_fit
  owner_inside l h =
      every_at (λ (x : ManagerLine). owner_fits m.state.opening.cores x.manager) fresh_line refl m.state.line m.state.opening.lines l h f.owners

  lim : Inside m.state.opening
  lim = inside m.state.opening f.opening

  -- the core and the line that a call is about are there, if none of 3 to 6 refuses it
  pub call_there : (call : Call) (n : ℕ) → call_refusal call m.state.opening n ≡ 0 → There m.state.opening (core_of call m.state) (line_of call m.state)
  call_there call n e =
      let o = m.state.opening in
      let a = named call o n e in
      let l = named_inside o (about call).line lim.some_lines a.line in
      let c = core_inside o (about call).core _ lim.some_cores a.core (owner_inside _ l) in
      there_at lim c (line_inside o (about call).line _ _ lim.some_lines a.line (slot_inside _ c) (victim_inside (copy_at m.state _) o.lines lim.some_lines))

-- ---- all refusals

-- an accepted call: not 13, none of 1 and 2, of 3 to 6, of 20 and up
pub record NotRefused (m : Machine) (call : Call) (given : Bytes) : Type 0 where
  pub given_ok : given_refusal (given_as (about call).act) given ≡ 0
  pub machine_ok : machine_refusal m ≡ 0
  pub call_ok : call_refusal call m.state.opening (length (bytes_given call given)) ≡ 0
  pub state_ok : state_refusal call (pieces_at m.state (core_of call m.state) (line_of call m.state)) m.state.opening ≡ 0

pub not_refused : (m : Machine) (call : Call) (given : Bytes) → refusal m call given ≡ 0 → NotRefused m call given
unfolding refusal
not_refused m call given e =
    let d = or_none (given_refusal (given_as (about call).act) given) _ e in
    let a = or_none (machine_refusal m) _ d.1 in
    let b = or_none (call_refusal call m.state.opening (length (bytes_given call given))) _ a.1 in
    record { given_ok = d.0; machine_ok = a.0; call_ok = b.0; state_ok = b.1 }
