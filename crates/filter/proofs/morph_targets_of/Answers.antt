-- `filter::morph_targets_of` meets its contract: the operations are the definition's.
use Rattle.filter.specs.Voice.{morph_targets_of}
use Rattle.filter.proofs.morph_targets_of.Goals as goal

pub returns : goal.returns
unfolding morph_targets_of
returns c = rw (c.morph-2.ensures, c.morph.ensures)
