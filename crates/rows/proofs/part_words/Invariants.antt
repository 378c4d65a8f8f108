-- `rows::part_words` meets its contract. Assumes nothing.
use mathlib.Core.Path.{◌≡◌}
use Prim.Native.Nat.{◌+◌, ◌*◌}
use mathlib.Core.List.{◌++◌}
use lib.ListN.{drop}
use Rattle.parts.specs.Parts.{tab}
use Rattle.rows.specs.Rows.{cell_word}
use Rattle.rows.proofs.part_words.Given as goal

abbrev pub invariant-loop-w : goal.invariant-loop-w
invariant-loop-w l = l.words ≡ tab (λ k. cell_word l.layout.carried l.layout.len l.xs l.row (l.part * 126 + k)) l.w ++ drop l.w l.initial.words
