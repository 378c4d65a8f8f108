-- `poles::running_numbers` meets its contract: after j turns the list has the first j sections' numbers, and their marks are counted.
use mathlib.Core.Path.{◌≡◌}
use Prim.Native.Nat.{◌≤◌}
use Rattle.poles.specs.Poles.{pole_section, section_over}
use Rattle.poles.specs.Numbers.{table_of, marks_of, zeros}
use Rattle.poles.proofs.running_numbers.Given as goal

abbrev pub invariant-loop-j : goal.invariant-loop-j
invariant-loop-j g l = record {
  numbers : l.numbers ≡ table_of (pole_section g.at l.transpose l.reference) l.j zeros;
  over : l.over ≡ marks_of (section_over g.at l.transpose l.reference) l.j;
  few : l.over ≤ l.j;
}
