-- `rows::put_rows` meets its contract. Assumes nothing.
use mathlib.Core.Path.{◌≡◌}
use Rattle.rows.specs.Asks.{rows_written}
use Rattle.rows.proofs.put_rows.Given as goal

abbrev pub invariant-loop-j : goal.invariant-loop-j
invariant-loop-j l =
    let y = l.layout in l.out ≡ rows_written y.first y.kind y.carried y.len y.parts l.xs l.j l.initial.out
