-- The newline ends the line, the digits are before it, and the text is before the digits.
use native.Mathlib.Omega.{arith}
use Rattle.converter.proofs.{Writing.{text_room, refusal_line}}
use Rattle.converter.proofs.put_refusal.Goals as goal

pub overflow_sub-start : goal.overflow_sub-start
overflow_sub-start c = text_room _ (omega arith) c.put_text.ensures c.put_number_before-digits.ensures

pub returns : goal.returns
returns c =
    refusal_line _ (omega arith) c.put_text.ensures c.put_number_before-digits.ensures c.put_text-2.ensures
