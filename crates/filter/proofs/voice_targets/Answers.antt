-- `filter::voice_targets` meets its contract: the operations are the definition's.
use Rattle.filter.specs.Voice.{voice_targets, targets_of, morph_targets_of}
use Rattle.filter.proofs.voice_targets.Goals as goal

pub returns : goal.returns
unfolding voice_targets targets_of morph_targets_of
returns c = rw (c.targets_of-t.ensures, c.morph_targets_of-m.ensures, c.morph-z.ensures)
