-- What reads took from a reader and put into a buffer, and what writes gave a writer of a text, where the bytes of the two are known.
use Rattle.std.specs.Prelude.{ℕ, ◌<◌, ◌≤◌, List, length, take, Option, Result, MatchResult}
use Rattle.std.specs.Io.KnownBytes.{Appends, Consumes, IsAtEnd}

-- the first bytes of a buffer, however many, are what a reader gave
abbrev pub TookSome : Option (List ℕ) → Option (List ℕ) → List ℕ → Type 0
TookSome old new buffer = (n : ℕ) × (n ≤ length buffer) × Consumes old new (take n buffer)

-- at Ok n the reader gave the first n bytes of the buffer, and has no more where they are not all of it; at an error it gave some first bytes
abbrev pub Took : {E : Type 0} → Option (List ℕ) → Option (List ℕ) → Result ℕ E → List ℕ → Type 0
Took old new r buffer = MatchResult r (λ n. Consumes old new (take n buffer) × (n < length buffer → IsAtEnd new)) (λ e. TookSome old new buffer)

-- a writer got the first bytes of a text, however many
abbrev pub GaveSome : Option (List ℕ) → Option (List ℕ) → List ℕ → Type 0
GaveSome old new text = (n : ℕ) × (n ≤ length text) × Appends old new (take n text)

-- at Ok the writer got the text; at an error a beginning of it
abbrev pub Gave : {T E : Type 0} → Option (List ℕ) → Option (List ℕ) → Result T E → List ℕ → Type 0
Gave old new r text = MatchResult r (λ v. Appends old new text) (λ e. GaveSome old new text)

-- the journal that an input gave: all that it had, or of more than that 65,537 bytes
pub record Given (old new : Option (List ℕ)) (journal : List ℕ) : Type 0 where
  pub gave : Consumes old new journal
  pub most : length journal ≤ 65537
  pub all : length journal < 65537 → IsAtEnd new
