-- `parking::read_sections` meets its contract. Assumes nothing.
use mathlib.Core.Path.{◌≡◌}
use Prim.Native.Nat.{◌+◌}
use mathlib.Core.List.{◌++◌}
use lib.ListN.{drop}
use Rattle.parts.specs.Parts.{tab}
use Rattle.file_words.specs.Words.{float_of}
use Rattle.setups.specs.Parked.{setup_word}
use Rattle.parking.proofs.read_sections.Given as goal

abbrev pub invariant-loop-i : goal.invariant-loop-i
invariant-loop-i l = (l.sections ≡ tab (λ k. float_of (setup_word l.file (9 + k))) l.i ++ drop l.i l.initial.sections)
