-- `blocks::sum_of` meets its contract. Assumes nothing.
use mathlib.Core.Path.{◌≡◌}
use Prim.Native.Nat.{◌%◌}
use Rattle.file_words.specs.Words.{word_at}
use Rattle.blocks.specs.Blocks.{sum_to}
use Rattle.blocks.proofs.sum_of.Given as goal

abbrev pub invariant-loop-j : goal.invariant-loop-j
invariant-loop-j l = l.sum ≡ sum_to (word_at l.part) l.j % 4294967296
