-- `grammar::read_value` meets its contract: data or a number, right or wrong. Assumes nothing.
use mathlib.Core.Path.{◌≡◌, refl}
use Rattle.grammar.specs.{Form.number, Scan.{key_value, a_number, no_number, some_data, no_data}, declared.Key.{Key, TheVariants.Data}}
use Rattle.grammar.proofs.read_value.Goals as goal

-- a key other than `data=` has a number
number_key : (k : Key) → (k ≡ Data → ⊥) → key_value k ≡ number
number_key Data h = absurd (h refl)
number_key _ h = refl

pub returns-in-Data : goal.returns-in-Data
returns-in-Data c = rw c.in-Data.is (some_data c.if-is_data.ensures)

pub returns-in-Data-2 : goal.returns-in-Data-2
returns-in-Data-2 c = rw (c.in-Data-2.is, c.or-values.ensures) (no_data c.if-is_data.ensures)

pub returns-in-Some : goal.returns-in-Some
returns-in-Some c = let u = c.in-Some.ensures in rw (number_key c.args.key c.in_default.not-Data) (a_number _ u.0 u.1)

pub returns-in-None : goal.returns-in-None
returns-in-None c = rw (number_key c.args.key c.in_default.not-Data) (no_number c.in-None.ensures)
