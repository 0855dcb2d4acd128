-- Fixed text as bytes, so that a table of forms is written as 01 prints it. Assumes nothing.
use Prim.Native.{Nat.ℕ, Char.code, String.{String, [] as none, ◌∷◌ as ◌then◌}}
use Rattle.std.specs.Prelude.{List, [], ◌∷◌}

-- the bytes of an ASCII text
abbrev pub text : String → List ℕ
text none = []
text (◌then◌ c cs) = code c ∷ text cs
