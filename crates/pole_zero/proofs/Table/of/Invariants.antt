-- `Table::of` meets its contract. The loop's invariant: the table is that of the first p points, so that no more than p sections are in use.
use mathlib.Core.Path.{◌≡◌}
use Rattle.parts.specs.Parts.{upto}
use Rattle.pole_zero.specs.PoleZero.{with_point, empty_table}
use Rattle.pole_zero.proofs.Table.of.Given as goal

abbrev pub invariant-loop-p : goal.invariant-loop-p
invariant-loop-p l = l.t ≡ upto (with_point l.design) l.p (empty_table l.design)
