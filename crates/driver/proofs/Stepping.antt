-- A step of the loop: what the state is refused with, from looking it over, what a call answers, from its pieces, and what is printed of it.
use Prim.Native.Nat.{ℕ}
use mathlib.Core.{Path.{◌≡◌, refl, sym, ◌∙◌, ap}, Bool.false}
use lib.ListN.{length, length-replicate}
use Rattle.protocol.specs.{Pick.pick, Buffers.Bytes, About.about, Given.{given_as, bytes_as, bytes_given}, Machine.{Machine, machine}}
use Rattle.protocol.specs.{Refusals.{given_refusal, machine_refusal}, Step.{meaning, act_bytes, Outcome, accepted, step}}
use Rattle.protocol.specs.declared.{State.State, Call.Call, Effect.Effect, Act.{Act, TheVariants.{Load, Store, Fence, Advance, Transfer}}, Place.Place}
use Rattle.protocol.specs.declared.{Answer.{Answer, TheVariants.{Refused, Done, Commit}}, Kind.TheVariants.{Load as OfLoad, Store as OfStore, Fence as OfFence}}
use Rattle.protocol.{specs.declared.Given.{Given, TheVariants.{Bytes as AsBytes, Digits as AsDigits}}, proofs.{Tests.never, Digits.right_digits}}
use Rattle.std.specs.Prelude.{Option}
use Rattle.refusals.specs.Input.{machine_with, input_refusal, applies}
use Rattle.listing.specs.Record.{record_as, record_text}
use Rattle.tables.{specs.Seen.{core_seen, line_seen}, proofs.Making.{made, is_step, is_shown_lem}}
use Rattle.driver.specs.Pieces.{is_store, beside}

-- what is found by looking the state over, and the lengths of the buffers
pub looked_over :
    (s : State) (p q : Bytes) {r : Option ℕ} → r ≡ applies (machine_refusal (machine_with s (length p) (length q)))
    → r ≡ applies (machine_refusal (machine s p q))
unfolding machine_refusal
looked_over s p q e = simp length-replicate at e

-- a store's data are those given, those of any other call the copy's
pub act_bytes_are : (t : Act) (given copy : Bytes) → act_bytes t given copy ≡ pick (is_store t) given copy
act_bytes_are (Store g) given x = refl
act_bytes_are Load given x = refl
act_bytes_are Fence given x = refl
act_bytes_are (Advance n) given x = refl
act_bytes_are Transfer given x = refl

-- what is given to any other call is read as bytes
pub given_else : (t : Act) → is_store t ≡ false → given_as t ≡ AsBytes
given_else (Store g) e = never e
given_else Load e = refl
given_else Fence e = refl
given_else (Advance n) e = refl
given_else Transfer e = refl

act_bytes_lem :
    (t : Act) (a : Answer) (given x y : Bytes) → meaning a x ≡ meaning a y → meaning a (act_bytes t given x) ≡ meaning a (act_bytes t given y)
act_bytes_lem (Store g) a given x y e = refl
act_bytes_lem Load a given x y e = e
act_bytes_lem Fence a given x y e = e
act_bytes_lem (Advance n) a given x y e = e
act_bytes_lem Transfer a given x y e = e

-- what is printed of a record with digits that are right is what is printed of it with the bytes that they spell
printed : (g : Given) (p : Place) (a : Answer) (given : Bytes) → given_refusal g given ≡ 0 → record_as g p (meaning a given) ≡ record_text p (meaning a (bytes_as g given))
unfolding record_as meaning
printed AsBytes p a given e = refl
printed AsDigits p (Refused n) given e = refl
printed AsDigits p (Done d) given e = refl
printed AsDigits p (Commit c t (OfLoad l)) given e = rw (← (right_digits given e).same) refl
printed AsDigits p (Commit c t (OfStore l)) given e = rw (← (right_digits given e).same) refl
printed AsDigits p (Commit c t OfFence) given e = refl

-- the same of a call's data: a store's, or the copy's bytes
act_printed :
    (t : Act) (p : Place) (a : Answer) (given x : Bytes) → given_refusal (given_as t) given ≡ 0
    → record_as (given_as t) p (meaning a (act_bytes t given x)) ≡ record_text p (meaning a (act_bytes t (bytes_as (given_as t) given) x))
act_printed (Store g) p a given x e = printed g p a given e
act_printed Load p a given x e = refl
act_printed Fence p a given x e = refl
act_printed (Advance n) p a given x e = refl
act_printed Transfer p a given x e = refl

-- the data that are put with the answer are the reply's
module _ (m : Machine) (call : Call) (given : Bytes) where
  -- the effect of the call on what it sees
  abbrev pub effect_seen : Effect
  effect_seen = made m call given (input_refusal m call given) refl

  abbrev shown : Bytes
  shown = beside effect_seen.answer m.state.opening m.private (core_seen call m.state) (line_seen call m.state)

  pub replied : meaning effect_seen.answer (act_bytes (about call).act (bytes_given call given) shown) ≡ (step m call given).reply
  unfolding accepted
  replied =
      act_bytes_lem (about call).act effect_seen.answer (bytes_given call given) _ _ (is_shown_lem m call given _ refl _ refl)
      ∙ sym (ap (λ (x : Outcome). x.reply) (is_step m call given _ refl))

  pub reply_printed :
      (p : Place) → given_refusal (given_as (about call).act) given ≡ 0
      → record_as (given_as (about call).act) p (meaning effect_seen.answer (act_bytes (about call).act given shown)) ≡ record_text p (step m call given).reply
  reply_printed p h = act_printed (about call).act p effect_seen.answer given _ h ∙ ap (record_text p) replied
