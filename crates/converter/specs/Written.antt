-- What `to1` and `to2` write.
use Rattle.std.specs.Prelude.{◌≡◌, ℕ, [], take, replicate, Result, Ok, Err}
use Rattle.protocol.specs.Buffers.{Bytes}
use Rattle.grammar.specs.declared.Refusal.{Refusal}
use Rattle.convert.specs.{Conversion.Converts, declared.To.To}

-- the result at the start of a buffer, or nothing of a journal that is refused
abbrev pub result_in : Result ℕ Refusal → Bytes → Bytes
result_in (Ok n) buffer = take n buffer
result_in (Err r) buffer = []

-- what a conversion into 65,536 bytes answers for a journal, and its result
pub record IsConversion (to : To) (journal : Bytes) (answer : Result ℕ Refusal) (text : Bytes) : Type 0 where
  pub buffer : Bytes
  pub converts : Converts to journal (replicate 65536 0) answer buffer
  pub is : text ≡ result_in answer buffer
