-- `sentivolus::design::sentivolus_table` meets its contract: the table of the design.
use mathlib.Core.Path.{◌≡◌, sym}
use Rattle.pole_zero.specs.PoleZero.{table_of}
use Rattle.pole_zero.proofs.Laws.{table_axes}
use Rattle.sentivolus.specs.Design.{design_of}
use Rattle.sentivolus.proofs.design.sentivolus_table.Goals as goal

three : (c : goal.After-s-1) → let a = c.args in
    a.three ≡ (table_of (design_of a.kinds.now a.numbers.now a.three a.gain_db)).three
unfolding design_of
three c = let a = c.args in sym (table_axes (design_of a.kinds.now a.numbers.now a.three a.gain_db))

pub returns : goal.returns
returns c = record { active' = cc; three' = three c; sections' = cc; gain' = cc }
