-- `places::sound_file` meets its contract. Assumes nothing.
use mathlib.Core.Path.{sym, ◌∙◌}
use borrow.Author.Count.{below_more}
use native.Mathlib.Omega.{arith}
use Rattle.places.specs.Places.{sound_file}
use Rattle.places.specs.Once.{every_of}
use Rattle.places.proofs.Seeking.{part_is, unsound}
use Rattle.places.proofs.sound_file.Goals as goal

pub returns-then-not-sound_block : goal.returns-then-not-sound_block
returns-then-not-sound_block c = unsound _ _ c.loop-b-test.true (sym (part_is _ _ _ c.sound_block.ensures) ∙ c.if-not-sound_block.true)

pub loop-b-preserved : goal.loop-b-preserved
loop-b-preserved c = below_more _ _ c.loop-b.invariant (sym (part_is _ _ _ c.sound_block.ensures) ∙ c.if-not-sound_block.false)

pub returns : goal.returns
unfolding sound_file
returns c = grind (arith, every_of)
