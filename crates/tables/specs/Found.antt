-- A core or a line as an index of the state's arrays, for every opening, and what a call that 13 or one of 1 to 6 refuses makes of the pieces there.
use Rattle.std.specs.Prelude.{ℕ, ◌<◌, ◌≡◌, ltb, leb, Option, Some, None}
use Rattle.protocol.specs.{Pick.{pick, both}, Tables.{refused_row, effect_of}, declared.{Opening.Opening, Call.Call, Effect.Effect}}
use Rattle.protocol.specs.declared.Pieces.{Pieces}

-- n where it is one of `count`, and these are at most `most`; else 0
abbrev pub found_at : ℕ → ℕ → ℕ → ℕ
found_at n count most = pick (both (leb count most) (ltb n count)) n 0

-- the same of a value r, with what it means for an array of `most` elements
pub record Found (n count most r : ℕ) : Type 0 where
  pub is : r ≡ found_at n count most
  pub low : r < most

-- what a call makes of the pieces where r is the first of 13 and 1 to 6 that applies, if one does: "A refused call returns its number, the state it got"
unfoldable pub effect_with : Option ℕ → Call → Pieces → Opening → Effect
effect_with None call p o = effect_of call p o
effect_with (Some n) call p o = refused_row n p
