-- What reading a journal came to.
use Rattle.std.specs.Prelude.{◌≡◌, ℕ, ◌≤◌, length, take, ⊤, Result, Ok, Err}
use Rattle.protocol.specs.Buffers.{Bytes}

-- so many bytes are at the start of the buffer, or a read failed
abbrev pub ReadInto : {E : Type 0} → Result ℕ E → Bytes → Type 0
ReadInto (Ok n) buffer = (n ≤ length buffer) × (n ≡ length (take n buffer))
ReadInto (Err e) buffer = ⊤
