-- `bytes_of` meets its contract: a part of the text, or none. Assumes nothing.
use Rattle.std.proofs.Common.{refl}
use Rattle.text.proofs.Reading.{part_got}
use Rattle.text.proofs.bytes_of.Goals as goal

pub returns : goal.returns
returns c = rw c.unwrap_or.ensures (part_got _ c.args.s.now c.args.w c.get.result _ c.get.ensures.lookup refl)
