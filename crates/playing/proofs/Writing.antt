-- A text at the start of an output, and all bytes past it as they were: the text tells how much was written, and the output.
use Prim.Native.Nat.{ℕ, ◌+◌, ◌-◌}
use mathlib.Core.{Path.{◌≡◌, sym, ◌∙◌, ap, ap₂}, List.◌++◌}
use native.Mathlib.Omega.{arith}
use lib.{ListN.{length, take, drop, take-append-drop}, Seq.length-take-le}
use Rattle.protocol.specs.Buffers.{Bytes}
use Rattle.driver.specs.Play.{Fills}

-- the text and what is left beside it are as long as the output
pub text_and_room : {old new : Bytes} {n : ℕ} → Fills old new n → length (take n new) + (length new - n) ≡ length old
text_and_room {new = new} {n} f = omega (arith, length-take-le n new f.within, f.within, f.size)

module _ {old a b : Bytes} {n m : ℕ} (x : Fills old a n) (y : Fills old b m) where
  pub room_same : length (take n a) + (length a - n) ≡ length (take m b) + (length b - m)
  room_same = text_and_room x ∙ sym (text_and_room y)

  module _ (t : take n a ≡ take m b) where
    pub written_same : n ≡ m
    written_same = omega (arith, length-take-le n a x.within, length-take-le m b y.within, ap length t)

    pub output_same : a ≡ b
    output_same =
        sym (take-append-drop n a) ∙ ap₂ (λ (u v : Bytes). u ++ v) t (x.beyond ∙ ap (λ (k : ℕ). drop k old) written_same ∙ sym y.beyond)
        ∙ take-append-drop m b
