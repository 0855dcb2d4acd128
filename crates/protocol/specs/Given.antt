-- What is given to a store: its bytes, or the digits of `data=` that spell them (02, Three: "a call that takes them as the digits of `data=`").
use Rattle.std.specs.Prelude.{ℕ, ◌/◌}
use Rattle.spelling.specs.Hex.{unhex}
use Rattle.protocol.specs.{Buffers.Bytes, About.about, declared.{Call.Call, Given.{Given, TheVariants.{Bytes as AsBytes, Digits as AsDigits}}}}
use Rattle.protocol.specs.declared.Act.{Act, TheVariants.{Load as Loads, Store as Stores, Fence as Fences, Advance as Advances, Transfer}}

-- how what is given to a call is read: a store says it; any other call passes over what it is given
abbrev pub given_as : Act → Given
given_as Loads = AsBytes
given_as (Stores g) = g
given_as Fences = AsBytes
given_as (Advances by) = AsBytes
given_as Transfer = AsBytes

-- the bytes that are given: "the bytes spelt"
abbrev pub bytes_as : Given → Bytes → Bytes
bytes_as AsBytes given = given
bytes_as AsDigits given = unhex given

-- how many they are
abbrev pub count_as : Given → ℕ → ℕ
count_as AsBytes n = n
count_as AsDigits n = n / 2

-- the bytes that are given to a call
abbrev pub bytes_given : Call → Bytes → Bytes
bytes_given call given = bytes_as (given_as (about call).act) given
