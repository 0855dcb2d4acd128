-- `start` has one answer.
use Prim.Native.Nat.{ℕ, ◌+◌, ◌≤◌, ◌<◌}
use mathlib.Core.{Path.{◌≡◌, sym, ◌∙◌, ap, ap₂}, List.[]}
use native.Mathlib.Omega.{arith}
use lib.ListN.{length}
use Rattle.protocol.specs.{Buffers.Bytes, Refusals.open_refusal, Step.open_reply, Run.place, declared.Opening.Opening as Sizes}
use Rattle.std.specs.Prelude.{Some, Ok}
use Rattle.grammar.specs.declared.Refusal.{Refusal}
use Rattle.journal.specs.{Journal.NextOf, declared.Item.TheVariants.Opening}
use Rattle.listing.specs.Record.{record_text}
use Rattle.driver.specs.{Listing.{NotOpened, not_opened}, declared.{Checkpoint.Checkpoint, Progress.{Progress, TheVariants.{Finished, More, Short}}}}
use Rattle.driver.specs.Play.{first_checkpoint, unopened, Begins, opens, fails, no_room, no_room_to_end}
use Rattle.playing.specs.Theorems.{StartOneTheorem}
use Rattle.playing.proofs.{OneReading.same_next, OneListing.{refusal_same, opened_not}, Writing.{room_same, written_same, output_same}}

-- what `start` tells: its progress, the checkpoint and the text
record Started : Type 0 where
  pub progress : Progress
  pub checkpoint : Checkpoint
  pub text : Bytes

abbrev started : Progress → Checkpoint → Bytes → Started
started g s t = record { progress = g; checkpoint = s; text = t }

-- what it tells of a journal where the first text has room
data First (j : Bytes) : Started → Type 0 where
  opened :
      {form : ℕ} {o : Sizes} {next : ℕ} → NextOf j 0 0 (Ok (Some (Opening form o next))) → open_refusal o ≡ 0
      → First j (started More (first_checkpoint next form o) (record_text (place 0) (open_reply o)))
  failed : {n : Refusal} → NotOpened j n → First j (started Finished unopened (not_opened n))

first_same : {j : Bytes} {a b : Started} → First j a → First j b → a ≡ b
first_same (opened x e) (opened y f) = let z = same_next x y in ap₂ (started More) (cc) (cc)
first_same (opened x e) (failed n) = absurd (opened_not x e n)
first_same (failed n) (opened x e) = absurd (opened_not x e n)
first_same (failed n) (failed m) = ap (λ (k : Refusal). started Finished unopened (not_opened k)) (refusal_same n m)

-- that, or there was no room for the text
data Wrote (j : Bytes) (a : Started) (room : ℕ) : Type 0 where
  wrote : {b : Started} → First j b → a ≡ b → Wrote j a room
  short : {b : Started} → First j b → room < length b.text → a ≡ started Short unopened [] → Wrote j a room

begun : {j : Bytes} {s : Checkpoint} {t : Bytes} {room : ℕ} {g : Progress} → Begins j s t room g → Wrote j (started g s t) room
begun (opens x e es et) = wrote (opened x e) (ap₂ (started More) es et)
begun (fails n es et) = wrote (failed n) (ap₂ (started Finished) es et)
begun (no_room x e es et r) = short (opened x e) r (ap₂ (started Short) es et)
begun (no_room_to_end n es et r) = short (failed n) r (ap₂ (started Short) es et)

-- where a text was written there was room for it
no_short :
    {a b c d : Started} {room : ℕ} → a ≡ c → c ≡ d → b ≡ started Short unopened [] → length a.text ≤ length b.text + room → room < length d.text → ⊥
no_short e f h n r = let len : Started → ℕ = λ x. length x.text in omega (arith, ap len e, ap len f, ap len h)

wrote_same : {j : Bytes} {a b : Started} {room room' : ℕ} → length a.text + room ≡ length b.text + room' → Wrote j a room → Wrote j b room' → a ≡ b
wrote_same n (wrote x e) (wrote y f) = e ∙ first_same x y ∙ sym f
wrote_same n (wrote x e) (short y r f) = absurd (no_short e (first_same x y) f (omega arith) r)
wrote_same n (short x r e) (wrote y f) = absurd (no_short f (first_same y x) e (omega arith) r)
wrote_same n (short x r e) (short y q f) = e ∙ sym f

pub start_one_theorem : StartOneTheorem
start_one_theorem j old a b x y =
    let s = wrote_same (room_same x.fills y.fills) (begun x.begins) (begun y.begins) in
    let t = ap (λ (z : Started). z.text) s in
    let w = written_same x.fills y.fills t in
    let o = output_same x.fills y.fills t in
    rw (ap (λ (z : Started). z.progress) s, ap (λ (z : Started). z.checkpoint) s, w, o)
