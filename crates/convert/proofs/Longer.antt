-- A list of steps with one step more: its run, its lines in the other form, and what 7 and 32 say of it.
use Prim.Native.Nat.{ℕ, zero, suc, ◌+◌}
use mathlib.Core.{Path.{◌≡◌, refl, sym, ◌∙◌, ap}, Bool.{Bool, true, false}, List.{List, [], ◌∷◌, ◌++◌, append_assoc}}
use native.Mathlib.Omega.{arith}
use lib.{Dec.eqb, ListN.{length, take, replicate, length-replicate}}
use borrow.Author.Tests.{eq-eqb, eqb-true}
use Rattle.protocol.specs.{Pick.{pick, fails, every, first}, Limits.opening_fits, Fresh.{fresh_core, fresh_line}, Buffers.{Bytes, private_length, shared_length}, Machine.{Machine, fresh_machine}}
use Rattle.protocol.specs.{Refusals.{machine_refusal, state_fits, owner_fits, slot_fits, owners_fit, slots_fit, buffers_fit}, Step.{step}, Run.{Entry, Record, place, run}}
use Rattle.protocol.{specs.declared.{Core.Core, ManagerLine.ManagerLine, Opening.Opening as Sizes, Call.Call}, proofs.{Tests.never, Refusals.{not-true}}}
use Rattle.std.specs.Prelude.{Option, Some, None}
use Rattle.grammar.specs.declared.Refusal.{Refusal, TheVariants.{Unfit, Unlike}}
use Rattle.driver.proofs.Running.{run_records, run_last, entry_of}
use Rattle.convert.specs.{Spelling.{step_line, opening_line, step_lines}, Forms.{in_form, converted}}
use Rattle.convert.specs.Conversion.{some, is_unlike, unlike, result_of}
use Rattle.convert.specs.{Writing.{opening_refusal}, declared.To.{To, TheVariants.{First, Second}}}

-- ---- the run

-- the machine after steps
abbrev pub after : Sizes → List Entry → Machine
after o gs = (run gs 1 (fresh_machine o)).last

abbrev pub records : Sizes → List Entry → List Record
records o gs = (run gs 1 (fresh_machine o)).records

-- a step more
abbrev pub more : List Entry → Call → Bytes → List Entry
more gs call given = gs ++ (entry_of call given ∷ [])

module _ (o : Sizes) (gs : List Entry) (call : Call) (given : Bytes) where
  pub after_more : after o (more gs call given) ≡ (step (after o gs) call given).machine
  unfolding run
  after_more = run_last gs (entry_of call given ∷ []) 1 (fresh_machine o)

  abbrev pub newest : Record
  newest = record { place = place (1 + length gs); entry = entry_of call given; reply = (step (after o gs) call given).reply }

  pub records_more : records o (more gs call given) ≡ records o gs ++ (newest ∷ [])
  unfolding run
  records_more = run_records gs (entry_of call given ∷ []) 1 (fresh_machine o)

-- ---- the lines

-- the steps in the other form, those of one list after those of another
converted_append : (to : To) (gs hs : List Entry) (p : ℕ) (m : Machine) → converted to (gs ++ hs) m ≡ converted to gs m ++ converted to hs (run gs p m).last
unfolding converted run
converted_append to [] hs p m = refl
converted_append to (g ∷ gs) hs p m =
    ap (λ (l : List Entry). record { call = in_form to m.state g.call; given = g.given } ∷ l)
    (converted_append to gs hs (suc p) (step m g.call g.given).machine)

lines_append : (gs hs : List Entry) → step_lines (gs ++ hs) ≡ step_lines gs ++ step_lines hs
unfolding step_lines
lines_append [] hs = refl
lines_append (g ∷ gs) hs =
    ap (λ (l : Bytes). step_line g.call g.given ++ (10 ∷ l)) (lines_append gs hs) ∙ sym (append_assoc (step_line g.call g.given) (10 ∷ step_lines gs) (step_lines hs))

-- the result has one line more
pub result_more :
    (to : To) (o : Sizes) (gs : List Entry) (call : Call) (given : Bytes)
    → result_of to o gs ++ (step_line (in_form to (after o gs).state call) given ++ (10 ∷ [])) ≡ result_of to o (more gs call given)
unfolding converted step_lines
result_more to o gs call given =
    let m = fresh_machine o in
    let e : converted to (more gs call given) m ≡ converted to gs m ++ (entry_of (in_form to (after o gs).state call) given ∷ []) = converted_append to gs (entry_of call given ∷ []) 1 m in
    append_assoc (opening_line to o) (10 ∷ step_lines (converted to gs m)) _
    ∙ ap (λ (l : Bytes). opening_line to o ++ (10 ∷ l)) (sym (ap step_lines e ∙ lines_append (converted to gs m) _))

-- ---- 7 and 32

-- a test that does not refuse, and the tests after it
pub passed : (a : Bool) (r : Refusal) (rest : Option Refusal) → pick a (Some r) rest ≡ None → (a ≡ false) × (rest ≡ None)
passed true r rest e = absurd (let z : ◌≡◌ {A = ℕ} 0 1 = cc in omega arith)
passed false r rest e = (refl, e)

-- those of the steps so far
unfoldable pub refusal_so_far : To → Sizes → List Entry → Option Refusal
refusal_so_far to o gs = pick (fails (opening_fits o)) (Some Unfit) (pick (unlike to o gs) (Some Unlike) None)

-- none of them applies
pub record Passed (to : To) (o : Sizes) (gs : List Entry) : Type 0 where
  pub fits : opening_fits o ≡ true
  pub like : unlike to o gs ≡ false

pub so_far_passed : (to : To) (o : Sizes) (gs : List Entry) → refusal_so_far to o gs ≡ None → Passed to o gs
unfolding refusal_so_far
so_far_passed to o gs e =
    let a = passed (fails (opening_fits o)) _ _ e in
    record { fits = not-true (opening_fits o) a.0; like = (passed (unlike to o gs) _ _ a.1).0 }

-- one of them decides
pub so_far : (to : To) (o : Sizes) (gs : List Entry) (b : Bool) → opening_fits o ≡ true → unlike to o gs ≡ b → refusal_so_far to o gs ≡ pick b (Some Unlike) None
unfolding refusal_so_far
so_far to o gs b e h = rw (e, h) refl

-- where 32 does not apply, cap is lines
pub like_cap : (o : Sizes) (gs : List Entry) → unlike First o gs ≡ false → o.cap ≡ o.lines
unfolding unlike
like_cap o gs h = go (eqb o.cap o.lines) refl (some is_unlike (records o gs)) h
  where
    go : (b : Bool) → eqb o.cap o.lines ≡ b → (c : Bool) → pick (fails b) true c ≡ false → o.cap ≡ o.lines
    go true q c i = eqb-true _ _ q
    go false q c i = never i

-- of no step
pub so_far_none : (to : To) (o : Sizes) → opening_refusal to o ≡ refusal_so_far to o []
unfolding opening_refusal refusal_so_far unlike run some
so_far_none First o = ap (λ (b : Bool). pick (fails (opening_fits o)) (Some Unfit) (pick b (Some Unlike) None)) (go (fails (eqb o.cap o.lines)))
  where
    go : (b : Bool) → b ≡ pick b true false
    go true = refl
    go false = refl
so_far_none Second o = refl

-- of one step more

some_append : {A : Type 0} (f : A → Bool) (xs ys : List A) → some f (xs ++ ys) ≡ pick (some f xs) true (some f ys)
unfolding some
some_append f [] ys = refl
some_append f (x ∷ xs) ys = go (f x) (some_append f xs ys)
  where
    go : (b : Bool) → some f (xs ++ ys) ≡ pick (some f xs) true (some f ys) → pick b true (some f (xs ++ ys)) ≡ pick (pick b true (some f xs)) true (some f ys)
    go true e = refl
    go false e = e

module _ (o : Sizes) (gs : List Entry) (call : Call) (given : Bytes) where
  some_more : some is_unlike (records o (more gs call given)) ≡ pick (some is_unlike (records o gs)) true (pick (is_unlike (newest o gs call given)) true false)
  unfolding some
  some_more = ap (some is_unlike) (records_more o gs call given) ∙ some_append is_unlike (records o gs) (newest o gs call given ∷ [])

  -- a step that is unlike makes the list so
  pub unlike_now : is_unlike (newest o gs call given) ≡ true → unlike First o (more gs call given) ≡ true
  unfolding unlike
  unlike_now e = rw (some_more, e) (go (fails (eqb o.cap o.lines)) (some is_unlike (records o gs)))
    where
      go : (a b : Bool) → pick a true (pick b true true) ≡ true
      go true b = refl
      go false true = refl
      go false false = refl

  -- one that is not leaves it
  pub like_still : is_unlike (newest o gs call given) ≡ false → unlike First o (more gs call given) ≡ unlike First o gs
  unfolding unlike
  like_still e = rw (some_more, e) (go (fails (eqb o.cap o.lines)) (some is_unlike (records o gs)))
    where
      go : (a b : Bool) → pick a true (pick b true false) ≡ pick a true b
      go true b = refl
      go false true = refl
      go false false = refl

  -- a list that is unlike stays so
  pub unlike_still : (to : To) → unlike to o gs ≡ true → unlike to o (more gs call given) ≡ true
  unfolding unlike
  unlike_still Second e = never (sym e)
  unlike_still First e = rw some_more (go (fails (eqb o.cap o.lines)) (some is_unlike (records o gs)) _ e)
    where
      go : (a b c : Bool) → pick a true b ≡ true → pick a true (pick b true c) ≡ true
      go true b c h = refl
      go false true c h = refl
      go false false c h = never (sym h)

  -- where one of 7 and 32 applies, it stays
  pub so_far_still : (to : To) → (refusal_so_far to o gs ≡ None → ⊥) → refusal_so_far to o gs ≡ refusal_so_far to o (more gs call given)
  unfolding refusal_so_far
  so_far_still to h = go (opening_fits o) refl (unlike to o gs) refl
    where
      go : (a : Bool) → opening_fits o ≡ a → (b : Bool) → unlike to o gs ≡ b → refusal_so_far to o gs ≡ refusal_so_far to o (more gs call given)
      go false e b f = rw e refl
      go true e true f = rw (e, f, unlike_still to f) refl
      go true e false f = absurd (h (rw (e, f) refl))

-- ---- the fresh machine

-- the same passes wherever it is repeated
every_same : {A : Type 0} (f : A → Bool) (x : A) → f x ≡ true → (n m : ℕ) → every f (take n (replicate m x)) ≡ true
unfolding every
every_same f x e zero m = refl
every_same f x e (suc n) zero = refl
every_same f x e (suc n) (suc m) = rw e (every_same f x e n m)

-- neither 1 nor 2 refuses it, where 7 does not refuse its opening
pub fresh_fits : (o : Sizes) → opening_fits o ≡ true → machine_refusal (fresh_machine o) ≡ 0
unfolding machine_refusal first state_fits buffers_fit owners_fit slots_fit
fresh_fits o e =
    let owners : owners_fit o (replicate 64 fresh_line) ≡ true = every_same (λ (l : ManagerLine). owner_fits o.cores l.manager) fresh_line refl o.lines 64 in
    let slots : slots_fit o (replicate 16 fresh_core) ≡ true = every_same (λ (k : Core). slot_fits o.lines k.slot) fresh_core refl o.cores 16 in
    let zeros : ℕ → Bytes = λ n. replicate n 0 in
    let sized : (n : ℕ) → eqb (length (zeros n)) n ≡ true = λ n. eq-eqb (length (zeros n)) n (length-replicate n 0) in
    rw (e, owners, slots, sized (private_length o), sized (shared_length o)) refl
