-- `rows::get_rows` meets its contract. Assumes nothing.
use mathlib.Core.Path.{◌≡◌}
use Prim.Native.Nat.{◌+◌, ◌-◌}
use mathlib.Core.List.{◌++◌}
use lib.ListN.{get_or, drop}
use Rattle.parts.specs.Parts.{tab, piece}
use Rattle.rows.specs.Asks.{cell_at}
use Rattle.rows.proofs.get_rows.Given as goal

abbrev pub invariant-loop-i : goal.invariant-loop-i
invariant-loop-i l =
    l.out
    ≡ tab (cell_at (λ j. piece 512 (get_or l.pos (l.layout.first + j) 0 - 1) l.file) l.layout.carried l.layout.len l.layout.parts) l.i
    ++ drop l.i l.initial.out
