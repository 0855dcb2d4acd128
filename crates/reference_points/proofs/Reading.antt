-- What the lines of a journal say whose bytes are known: each answer is computed.
use Prim.Native.Nat.{ℕ, zero, suc, ◌+◌, ◌-◌}
use mathlib.Core.{Path.{◌≡◌, refl}, Bool.{Bool, true, false}, List.List}
use lib.{Dec.{leb, ltb, eqb}, ListN.{length, take, drop}}
use borrow.Author.Tests.{leb-true, leb-false, ltb-true, ltb-false, eqb-true, eqb-false}
use Rattle.protocol.specs.{Buffers.Bytes, Run.Entry, declared.Call.Call}
use Rattle.spelling.specs.Bytes.{up_to}
use Rattle.std.specs.Prelude.{Some, None, Ok, Err}
use Rattle.grammar.specs.declared.Refusal.TheVariants.{TooLong, NoForm, TooMuch}
use Rattle.journal.specs.{Journal.{Next, in_journal, NextOf, too_much, empty, ended as at_last, unended}, declared.Item.TheVariants.{Opening, Step}}
use Rattle.journal.proofs.Lines.{line_answer, none_here}
use Rattle.driver.specs.Listing.{Ending, Between, no_line, a_line, EndsAt, at_end, at_refusal}
use Rattle.reference_points.proofs.Lines.{answer, says}

-- where the line at an offset of a journal ends, and the line
abbrev pub end : Bytes → ℕ → ℕ
end j at = at + length (up_to 10 (drop at j))

abbrev pub bytes : Bytes → ℕ → List ℕ
bytes j at = take (end j at - at) (drop at j)

-- what the line at an offset says, in a journal of a form
pub line : (j : Bytes) (form at : ℕ) → leb (length j) 65536 ≡ true → ltb (end j at) (length j) ≡ true
    → NextOf j at form (in_journal (answer form (bytes j at)) at (end j at + 1))
line j form at s h =
    line_answer j at (end j at) form (answer form (bytes j at)) (leb-true _ _ s) refl (ltb-true (end j at) _ h) (says form (bytes j at) refl)

-- a call and what is given to it
abbrev pub call : Call → Bytes → Entry
call k bs = record { call = k; given = bs }

-- ---- a whole journal

-- what is at an offset of a journal of a form
pub record At (j : Bytes) (form at : ℕ) : Type 0 where
  pub next : Next
  pub there : NextOf j at form next

unfoldable pub look : (j : Bytes) (form at : ℕ) → At j form at
look j form at = go (leb (length j) 65536) (ltb at (length j)) (ltb (end j at) (length j)) (eqb form 0) refl refl refl refl
  where
    go : (a b c d : Bool) → leb (length j) 65536 ≡ a → ltb at (length j) ≡ b → ltb (end j at) (length j) ≡ c → eqb form 0 ≡ d → At j form at
    go false b c d s h e f = record { next = Err TooMuch; there = too_much (leb-false _ _ s) }
    go true false c true s h e f = record { next = Err NoForm; there = empty (leb-true _ _ s) (ltb-false _ _ h) (eqb-true _ _ f) }
    go true false c false s h e f = record { next = Ok None; there = at_last (leb-true _ _ s) (ltb-false _ _ h) (eqb-false _ _ f) }
    go true true false d s h e f =
        record { next = Err TooLong; there = unended (leb-true _ _ s) (ltb-true _ _ h) (none_here j at (end j at) refl (ltb-false _ _ e)) }
    go true true true d s h e f = record { next = _; there = line j form at s e }

-- how it reads from an offset on; it may go on further than was looked
pub data Way (j : Bytes) (form at : ℕ) : Type 0 where
  way : {gs : List Entry} {to : ℕ} {e : Ending} → Between j form at gs to → EndsAt j form to e → Way j form at
  further : Way j form at

abbrev before : {j : Bytes} {form at : ℕ} {call : Call} {start end next : ℕ} → NextOf j at form (Ok (Some (Step call start end next))) → Way j form next → Way j form at
before x (way s e) = way (a_line x s) e
before x further = further

abbrev onward : {j : Bytes} {form at : ℕ} → ((k : ℕ) → Way j form k) → (n : Next) → NextOf j at form n → Way j form at
onward on (Ok (Some (Opening f o next))) x = further
onward on (Ok (Some (Step call start end next))) x = before x (on next)
onward on (Ok None) x = way no_line (at_end x)
onward on (Err r) x = way no_line (at_refusal x)

-- so many lines on
unfoldable pub walk : ℕ → (j : Bytes) (form at : ℕ) → Way j form at
walk zero j form at = further
walk (suc n) j form at = onward (walk n j form) (look j form at).next (look j form at).there
