-- `blocks::fill_block` meets its contract. Assumes nothing.
use mathlib.Core.Path.{◌≡◌}
use Rattle.blocks.specs.Laws.{started}
use Rattle.blocks.proofs.fill_block.Given as goal

abbrev pub invariant-loop-j : goal.invariant-loop-j
invariant-loop-j l = l.part ≡ started l.head l.words l.j l.initial.part
