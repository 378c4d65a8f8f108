-- `decimal` meets its contract: no digit is none, and elsewhere the definition is that of `digits`. Assumes nothing.
use Rattle.text.proofs.Reading.{decimal_none, decimal_is}
use Rattle.text.proofs.decimal.Goals as goal

pub returns-in-empty : goal.returns-in-empty
returns-in-empty c = decimal_none _ _ c.in-empty.len_below c.bytes_of.ensures

pub returns-in_default : goal.returns-in_default
returns-in_default c = decimal_is _ _ _ c.in_default.len_at_least c.bytes_of.ensures c.digits.ensures
