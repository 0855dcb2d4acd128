-- A journal that converts and its result read as the same opening and the same steps but for their form, and yield the same.
use Prim.Native.Nat.{ℕ}
use mathlib.Core.{Path.{◌≡◌, refl, sym, subst}, Bool.{true, false}, List.List}
use native.Mathlib.Omega.{arith}
use lib.{Dec.eqb, ListN.{length, take}, Seq.take-append_seam}
use Rattle.protocol.specs.{Pick.{fails, first}, Buffers.Bytes, Limits.opening_fits, Machine.fresh_machine, Refusals.open_refusal, Run.Entry}
use Rattle.protocol.specs.declared.Opening.{Opening as Sizes}
use Rattle.driver.specs.Listing.{ended}
use Rattle.playing.specs.Listing.{Opens}
use Rattle.convert.specs.Conversion.{Reads, unlike, result_of, refusal_of, buffer_of, Converts, malformed, reads}
use Rattle.std.specs.Prelude.{Result, Ok}
use Rattle.grammar.specs.declared.Refusal.{Refusal}
use Rattle.convert.{specs.{Forms.converted, declared.To.{To, TheVariants.{First, Second}}}, proofs.Copying.answer_length}
use Rattle.converting.specs.{Lists.Alike, Theorems.{Kept, KeptTheorem}}
use Rattle.converting.proofs.{Lists.{none_passes, to_second_theorem, to_first_theorem}, Back.{accepted, none_thirty, result_reads}}

-- an opening inside the limits is accepted
fits_accepted : (o : Sizes) → opening_fits o ≡ true → open_refusal o ≡ 0
unfolding open_refusal first
fits_accepted o e = rw e

-- a journal that reads whole, as `steps` opens it
abbrev opened : {form : ℕ} {j : Bytes} {o : Sizes} {gs : List Entry} → opening_fits o ≡ true → Reads form j o gs → Opens j o gs ended
opened {form} {o = o} e x =
    record {
      form = form;
      next = x.next;
      first = x.first;
      accepted = fits_accepted o e;
      reads = record { to = x.to; steps = x.steps; ends = x.ends };
    }

-- the steps and those in the other form yield the same, where 32 does not refuse
alike : (to : To) (o : Sizes) (gs : List Entry) → unlike to o gs ≡ false → Alike gs (converted to gs (fresh_machine o)) 1 (fresh_machine o)
unfolding unlike
alike First o gs e = to_first_theorem gs 1 (fresh_machine o) (none_thirty _ (none_passes (fails (eqb o.cap o.lines)) _ e).1)
alike Second o gs e = to_second_theorem gs 1 (fresh_machine o)

-- what is left where the answer is a length
kept : (to : To) {j old : Bytes} {a : Result ℕ Refusal} {new : Bytes} → Converts to j old a new → (n : ℕ) → a ≡ Ok n → Kept to j (take n new)
kept to (malformed x) n e = let z : ◌≡◌ {A = ℕ} 0 1 = cc in absurd (omega arith)
kept to {j} {old} (reads {o} {gs} x) n e =
    let t = answer_length (refusal_of to o gs (length old)) (length (result_of to o gs)) n e in
    let z = t.0 in
    let a = accepted to o gs (length old) z in
    let same : result_of to o gs ≡ take n (buffer_of to o gs old) = rw (t.0, ← t.1) (sym (take-append_seam (result_of to o gs) _)) in
    subst (Kept to j) same
    (record {
      o = o;
      gs = gs;
      opens = opened a.fits x;
      form = refl;
      result_opens = opened a.fits (result_reads to j o gs (length old) x z);
      result_form = refl;
      alike = alike to o gs a.like;
    })

-- A JOURNAL AND ITS RESULT read as the same opening and the same steps but for their form, and yield the same
pub kept_theorem : KeptTheorem
kept_theorem to j old n new x = kept to x n refl
