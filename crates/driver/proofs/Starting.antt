-- The first line: an engine is opened and its line written, or the whole listing is written, or there is no room.
use Prim.Native.Nat.{ℕ}
use mathlib.Core.{Path.{◌≡◌, refl}, Bool.{true, false}}
use native.Mathlib.Omega.{arith}
use Rattle.protocol.specs.{Pick.first, Limits.opening_fits, Buffers.Bytes, Refusals.open_refusal, Step.{done, open_reply}, Run.place}
use Rattle.protocol.{specs.declared.{Opening.Opening as Sizes, Name.TheVariants.Open}, proofs.Refusals.opening_fit}
use Rattle.spelling.specs.Over.{PutAt}
use Rattle.std.specs.Prelude.{Some, Ok}
use Rattle.grammar.specs.declared.Refusal.{Refusal, TheVariants.Unfit}
use Rattle.journal.specs.{Journal.NextOf, declared.Item.TheVariants.Opening}
use Rattle.listing.specs.Record.{record_text}
use Rattle.driver.specs.{Listing.{NotOpened, outside, not_opened}, Pieces.{Puts, refused_by, opened_by}}
use Rattle.driver.specs.Play.{Begins, opens, fails, no_room, no_room_to_end, Starts}
use Rattle.driver.specs.declared.{Checkpoint.Checkpoint, Progress.{Progress, TheVariants.More}, Played.Played}
use Rattle.driver.proofs.Putting.{put_written, put_short, fills_none, fills_more}
use Rattle.std.specs.Prelude.{Option, None}

-- what the test of the limits says of 7
pub open_fits : (o : Sizes) → opening_fits o ≡ true → open_refusal o ≡ 0
unfolding open_refusal first
open_fits o e = rw e

open_outside : (o : Sizes) → opening_fits o ≡ false → open_refusal o ≡ 7
unfolding open_refusal first
open_outside o e = rw e

-- sizes, lease or capacity outside the limits
pub outside_limits : {j : Bytes} {form next : ℕ} {o : Sizes} → NextOf j 0 0 (Ok (Some (Opening form o next))) → opening_fits o ≡ false → NotOpened j Unfit
outside_limits {o = o} x e = outside x (λ z. omega (arith, open_outside o e, z))

-- no engine is opened
module _ {j old new : Bytes} {n : Refusal} {r : Played} (x : NotOpened j n) (u : Puts (not_opened n) refused_by old new r) where
  away : (p : Option ℕ) → PutAt old 0 (not_opened n) new p → r ≡ refused_by p → Starts j old new r
  away (Some e) w f = let v = put_written w refl in rw f (record { fills = fills_more (fills_none old) v; begins = fails x refl v.before })
  away None w f =
      let h = put_short w refl in
      rw (f, h.1) (record { fills = fills_none old; begins = no_room_to_end x refl refl (omega (arith, h.0)) })

  pub starts_refused : Starts j old new r
  starts_refused = away u.put u.text u.played

-- an engine is opened
module _ {j old new : Bytes} {form next : ℕ} {o : Sizes} {r : Played} (x : NextOf j 0 0 (Ok (Some (Opening form o next)))) (f : opening_fits o ≡ true) (u : Puts (record_text (place 0) (done Open)) (opened_by next form o) old new r) where
  reply : open_reply o ≡ done Open
  reply = rw (open_fits o f)

  begun : (p : Option ℕ) → PutAt old 0 (record_text (place 0) (open_reply o)) new p → r ≡ opened_by next form o p → Starts j old new r
  begun (Some e) w g =
      let v = put_written w refl in
      rw g (record { fills = fills_more (fills_none old) v; begins = opens x (open_fits o f) refl v.before })
  begun None w g =
      let h = put_short w refl in
      rw (g, h.1) (record { fills = fills_none old; begins = no_room x (open_fits o f) refl refl (omega (arith, h.0)) })

  pub starts_open : Starts j old new r
  starts_open = begun u.put (rw reply u.text) u.played

-- ---- what a caller of `start` knows

begun_fits : {j : Bytes} {there : Checkpoint} {text : Bytes} {room : ℕ} {g : Progress} → Begins j there text room g → g ≡ More → opening_fits there.state.opening ≡ true
begun_fits (opens {o = o} x h t u) e = rw t (opening_fit o h)
begun_fits (fails n t u) e = absurd (let z : ◌≡◌ {A = ℕ} 0 1 = cc in omega arith)
begun_fits (no_room x h t u r) e = absurd (let z : ◌≡◌ {A = ℕ} 0 1 = cc in omega arith)
begun_fits (no_room_to_end n t u r) e = absurd (let z : ◌≡◌ {A = ℕ} 0 1 = cc in omega arith)

-- the sizes, the lease and the capacity of the engine that is opened lie inside the limits
pub start_fits : {j old new : Bytes} {r : Played} → Starts j old new r → r.progress ≡ More → opening_fits r.checkpoint.state.opening ≡ true
start_fits s e = begun_fits s.begins e
