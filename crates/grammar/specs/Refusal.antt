-- The scope's refusals that end a run, or that refuse a conversion, and their numbers. Assumes nothing.
use Rattle.std.specs.Prelude.{ℕ}
use Rattle.grammar.specs.declared.Refusal.{Refusal, TheVariants.{Unfit, TooLong, NoForm, NotNumber, NotData, TooMuch, Unlike}}

-- the number of a refusal
abbrev pub number : Refusal → ℕ
number Unfit = 7
number TooLong = 10
number NoForm = 11
number NotNumber = 12
number NotData = 13
number TooMuch = 14
number Unlike = 32
