-- `listing::back::Back::number` meets its contract: the digits are before the text. Assumes nothing.
use Rattle.std.proofs.Common.{arith}
use Rattle.spelling.proofs.{OverLaws.{before_end, before_from}, DecimalLaws.decimal_short}
use Rattle.listing.proofs.back.Back.number.Goals as goal

pub returns-clause-text : goal.returns-clause-text
returns-clause-text g c = before_from _ _ c.args.n _ _ c.put_number_before-self.ensures c.requires (omega arith)

pub returns-clause-start : goal.returns-clause-start
returns-clause-start g c = omega (arith, before_end _ _ c.args.n _ _ c.put_number_before-self.ensures c.requires (omega arith), decimal_short c.args.n)
