-- Every journal has exactly one listing and one tally.
use Prim.Native.Nat.{ℕ}
use mathlib.Core.{Path.{◌≡◌, refl, ◌∙◌, ap, ap₂, subst₂}, List.{List, [], ◌∷◌, ◌++◌}, Logic.{inl, inr}}
use native.Mathlib.Omega.{arith}
use Rattle.protocol.specs.{Buffers.Bytes, Refusals.open_refusal, Machine.fresh_machine, Step.open_reply, Run.{Entry, place, run}, Counts.{nothing_met, tally}}
use Rattle.protocol.specs.declared.{Opening.Opening as Sizes, Counts.Counts}
use Rattle.spelling.proofs.Decide.{Told, same_number}
use Rattle.std.specs.Prelude.{Some, None, Ok, Err}
use Rattle.grammar.specs.declared.Refusal.{Refusal}
use Rattle.journal.{specs.{Journal.{Next, NextOf}, declared.Item.TheVariants.{Opening, Step}}, proofs.OneNext.one_next_theorem}
use Rattle.listing.specs.Record.{record_text}
use Rattle.driver.{specs.Listing.{Ending, NotOpened, outside, refused_first, not_opened}, proofs.Reading.known}
use Rattle.playing.specs.{Listing.{ReadAs, listing_from, Opens, Listing, opens, fails, Tally, counted, nothing}}
use Rattle.playing.specs.Pieces.{Pieces, opens as opens_pieces, fails as fails_pieces, pieces_from}
use Rattle.playing.specs.Theorems.{OneListing, OneListingTheorem, OneTally, OneTallyTheorem}
use Rattle.playing.proofs.OneReading.{same_next, reads_same, one_reading_theorem}

-- ---- there is no other

pub refusal_same : {j : Bytes} {n m : Refusal} → NotOpened j n → NotOpened j m → n ≡ m
refusal_same (outside x a) (outside y b) = refl
refusal_same (outside x a) (refused_first y) = absurd (let s = same_next x y in let z : ◌≡◌ {A = ℕ} 0 1 = cc in omega arith)
refusal_same (refused_first x) (outside y b) = absurd (let s = same_next x y in let z : ◌≡◌ {A = ℕ} 0 1 = cc in omega arith)
refusal_same (refused_first x) (refused_first y) = let s = same_next x y in cc

-- a journal that opens an engine does not fail to open one
pub opened_not : {j : Bytes} {f next : ℕ} {n : Refusal} {o : Sizes} → NextOf j 0 0 (Ok (Some (Opening f o next))) → open_refusal o ≡ 0 → NotOpened j n → ⊥
opened_not x e (outside y b) = let s = same_next x y in b (cc)
opened_not x e (refused_first y) = let s = same_next x y in let z : ◌≡◌ {A = ℕ} 0 1 = cc in omega arith

-- the text of a listing whose engine is opened
abbrev whole : Sizes → List Entry → Ending → Bytes
whole o gs e = record_text (place 0) (open_reply o) ++ listing_from (fresh_machine o) nothing_met gs e

-- and its pieces
abbrev in_pieces : Sizes → List Entry → Ending → List Bytes
in_pieces o gs e = record_text (place 0) (open_reply o) ∷ pieces_from (fresh_machine o) nothing_met gs e

-- a journal opens one engine, and spells one list of steps
pub opens_same : {j : Bytes} {o o' : Sizes} {gs hs : List Entry} {e d : Ending} → Opens j o gs e → Opens j o' hs d → (o ≡ o') × (gs ≡ hs) × (e ≡ d)
opens_same {j} {hs = hs} {d = d} x y =
    let s = same_next x.first y.first in
    let i = reads_same x.reads (subst₂ (λ (f n : ℕ). ReadAs j f n hs d) (cc) (cc) y.reads) in
    (cc, i.0, i.1)

pub not_both : {j : Bytes} {o : Sizes} {gs : List Entry} {e : Ending} {n : Refusal} → Opens j o gs e → NotOpened j n → ⊥
not_both x n = opened_not x.first x.accepted n

pub listing_same : {j t u : Bytes} → Listing j t → Listing j u → t ≡ u
listing_same (opens {o = o} {gs = gs} {e = e} x) (opens {o = o'} y) =
    let s = opens_same x y in
    ap (λ (z : Sizes). whole z gs e) s.0 ∙ ap₂ (λ (l : List Entry) (c : Ending). whole o' l c) s.1 s.2
listing_same (opens x) (fails n) = absurd (not_both x n)
listing_same (fails n) (opens x) = absurd (not_both x n)
listing_same (fails n) (fails m) = ap not_opened (refusal_same n m)

tally_same : {j : Bytes} {k l : Counts} → Tally j k → Tally j l → k ≡ l
tally_same (counted x) (counted y) =
    let s = opens_same x y in ap₂ (λ (o : Sizes) (gs : List Entry). tally (run gs 1 (fresh_machine o)).records) s.0 s.1
tally_same (counted x) (nothing n) = absurd (not_both x n)
tally_same (nothing n) (counted x) = absurd (not_both x n)
tally_same (nothing n) (nothing m) = refl

pub pieces_same : {j : Bytes} {ts us : List Bytes} → Pieces j ts → Pieces j us → ts ≡ us
pieces_same (opens_pieces {gs = gs} {e = e} x) (opens_pieces {o = o'} y) =
    let s = opens_same x y in
    ap (λ (o : Sizes). in_pieces o gs e) s.0 ∙ ap₂ (λ (l : List Entry) (c : Ending). in_pieces o' l c) s.1 s.2
pieces_same (opens_pieces x) (fails_pieces n) = absurd (not_both x n)
pieces_same (fails_pieces n) (opens_pieces x) = absurd (not_both x n)
pieces_same (fails_pieces n) (fails_pieces m) = ap (λ (k : Refusal). not_opened k ∷ []) (refusal_same n m)

-- ---- there is one

-- a journal opens an engine, or opens none
pub data Opened (j : Bytes) : Type 0 where
  one : {o : Sizes} {gs : List Entry} {e : Ending} → Opens j o gs e → Opened j
  none : {n : Refusal} → NotOpened j n → Opened j

opened : (j : Bytes) (b : Next) → NextOf j 0 0 b → Opened j
opened j (Ok (Some (Opening f o next))) x = go (same_number (open_refusal o) 0)
  where
    go : Told (open_refusal o ≡ 0) → Opened j
    go (inl e) = one (record { form = f; next = next; first = x; accepted = e; reads = (one_reading_theorem j f next (known x).1).holds })
    go (inr n) = none (outside x n)
opened j (Ok (Some (Step call start end next))) x = absurd ((known x).0 refl)
opened j (Ok None) x = absurd (known x refl)
opened j (Err r) x = none (refused_first x)

pub either : (j : Bytes) → Opened j
either j = opened j (one_next_theorem j 0 0).answer (one_next_theorem j 0 0).holds

pub one_listing_theorem : OneListingTheorem
one_listing_theorem j = go (either j)
  where
    go : Opened j → OneListing j
    go (one x) = record { text = _; holds = opens x; only = λ t y. listing_same y (opens x) }
    go (none n) = record { text = _; holds = fails n; only = λ t y. listing_same y (fails n) }

pub one_tally_theorem : OneTallyTheorem
one_tally_theorem j = go (either j)
  where
    go : Opened j → OneTally j
    go (one x) = record { counts = _; holds = counted x; only = λ k y. tally_same y (counted x) }
    go (none n) = record { counts = _; holds = nothing n; only = λ k y. tally_same y (nothing n) }
