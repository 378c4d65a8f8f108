-- `Table::of` meets its contract. The loop's invariant: the table is that of the first p points, so that no more than p sections are in use.
use native.Mathlib.Omega.{arith}
use mathlib.Core.Path.{◌≡◌, ◌∙◌}
use Rattle.pole_zero.specs.PoleZero.{table_of}
use Rattle.pole_zero.proofs.Laws.{sized}
use Rattle.pole_zero.proofs.Table.of.Goals as goal

pub returns : goal.returns
unfolding table_of
returns c =
    let e : c.loop-p.p ≡ 8 = omega arith in
    c.loop-p.invariant ∙ rw e

pub with_point-t-requires : goal.with_point-t-requires
with_point-t-requires c = (omega arith, rw c.loop-p.invariant (sized _ c.loop-p.p (omega arith)).few)
