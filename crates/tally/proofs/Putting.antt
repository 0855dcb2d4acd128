-- The tally's line, put at the start of a buffer that has room for it.
use Prim.Native.Nat.{ℕ, ◌≤◌}
use mathlib.Core.Path.{◌≡◌, refl, sym, subst}
use native.Mathlib.Omega.{arith}
use lib.ListN.{length, take}
use Rattle.protocol.specs.{Buffers.Bytes, declared.Counts.Counts}
use Rattle.spelling.specs.Over.{PutAt}
use Rattle.listing.{specs.Record.tally_text, proofs.Lengths.tally_length}
use Rattle.driver.proofs.Putting.{put_written, put_short}
use Rattle.playing.specs.Listing.{Tally}
use Rattle.tally.specs.Line.{LineOf, LineText}
use Rattle.std.specs.Prelude.{Option, Some, None, unwrap_or}

module _ {j old new : Bytes} {k : Counts} {r : Option ℕ} (t : Tally j k) (p : PutAt old 0 (tally_text k) new r) where
  pub put : {n : ℕ} → r ≡ Some n → LineOf j new n
  put e =
      let w = put_written p e in
      record { counts = k; tally = t; fits = omega (arith, w.room, w.end, w.size); text = w.before }

  pub not_short : 256 ≤ length old → r ≡ None → ⊥
  not_short h e = omega (arith, (put_short p e).0, tally_length k)

  -- so its end is no guess
  pub put_or : 256 ≤ length old → (n : ℕ) → n ≡ unwrap_or r 0 → LineOf j new n
  put_or h n f = go r refl f
    where
      go : (q : Option ℕ) → r ≡ q → n ≡ unwrap_or q 0 → LineOf j new n
      go (Some m) e g = subst (LineOf j new) (sym g) (put e)
      go None e g = absurd (not_short h e)

-- what lies there is the tally's line
pub line_text : {j line : Bytes} {n : ℕ} → LineOf j line n → LineText j (take n line)
line_text x = record { counts = x.counts; tally = x.tally; is = x.text }
