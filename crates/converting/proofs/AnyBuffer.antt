-- One buffer tells what any other gets: a refusal comes before the buffer is looked at, but for the last check, its length.
use Prim.Native.Nat.{ℕ, ◌+◌, ◌≤◌}
use mathlib.Core.{Path.{◌≡◌, refl, sym, ◌∙◌, ap, subst}, Bool.{Bool, true, false}}
use native.Mathlib.Omega.{arith}
use lib.{Dec.leb, ListN.{length, take}, Seq.take-append_seam}
use borrow.Author.Tests.{leb-true, leb-false}
use Rattle.protocol.specs.{Pick.pick, Buffers.Bytes}
use Rattle.spelling.specs.{Over.{over}}
use Rattle.spelling.proofs.OverLaws.{put_done, put_short}
use Rattle.convert.specs.{Conversion.{result_of, most_bytes, refusal_of, answer_of, buffer_of, Converts, malformed as of_malformed, reads as of_reading}}
use Rattle.std.specs.Prelude.{None, Result, Ok, Err}
use Rattle.grammar.specs.declared.Refusal.{Refusal, TheVariants.TooMuch}
use Rattle.convert.specs.{Writing.{Writes, malformed, reads}, declared.To.To}
use Rattle.convert.proofs.Copying.{refused_copied, Written, length_written, copied, not_copied}
use Rattle.converting.specs.Theorems.{AnyBuffer, AnyBufferTheorem}
use Rattle.std.specs.Prelude.{Some}

-- what is left in a buffer of the longest journal's length is the result as it is written
written : {to : To} {j old : Bytes} {a : Result ℕ Refusal} {new : Bytes} → length old ≡ most_bytes → Converts to j old a new → Writes to j new a
written size (of_malformed x) = malformed x
written {to} {j} {old} size (of_reading {o} {gs} x) =
    subst (Writes to j (buffer_of to o gs old)) (ap (answer_of to o gs) (sym size)) (reads x laid)
  where
    laid : refusal_of to o gs most_bytes ≡ None → take (length (result_of to o gs)) (buffer_of to o gs old) ≡ result_of to o gs
    laid z = rw (ap (refusal_of to o gs) size ∙ z) (take-append_seam (result_of to o gs) _)

-- a result, copied into another buffer where it has room
result_any : {to : To} {j new : Bytes} (n : ℕ) (other : Bytes) → Written to j new n → AnyBuffer to j (Ok n) new other
result_any {to} {j} {new} n other r = go (leb n (length other)) refl
  where
    t : Bytes
    t = take n new

    sized : length t ≡ n
    sized = ap length r.text ∙ r.size

    go : (b : Bool) → leb n (length other) ≡ b → Converts to j other (pick b (Ok n) (Err TooMuch)) (pick b (over other 0 t) other)
    go true e =
        let room : 0 + length t ≤ length other = omega (arith, sized, leb-true n (length other) e) in
        copied r (put_done other 0 t (over other 0 t) (Some n) room (ap Some (omega (arith, sized))) refl) refl
    go false e = not_copied r (put_short other 0 t (omega (arith, sized, leb-false n (length other) e))) refl

any : {to : To} {j new : Bytes} (a : Result ℕ Refusal) (other : Bytes) → Writes to j new a → AnyBuffer to j a new other
any (Err r) other w = refused_copied other w refl
any (Ok n) other w = result_any n other (length_written w refl)

pub any_buffer_theorem : AnyBufferTheorem
any_buffer_theorem to j old a new other size x = any a other (written size x)
