-- `parking::words_from` meets its contract. Assumes nothing.
use mathlib.Core.Path.{◌≡◌}
use mathlib.Core.List.{◌++◌}
use lib.ListN.{length, drop}
use Rattle.parts.specs.Parts.{tab}
use Rattle.parking.specs.Asks.{word_from}
use Rattle.parking.proofs.words_from.Given as goal

abbrev pub invariant-loop-i : goal.invariant-loop-i
invariant-loop-i l = (l.words ≡ tab (word_from l.front l.sections l.gain) l.i ++ drop l.i l.initial.words) × (length l.words ≡ length l.initial.words)
