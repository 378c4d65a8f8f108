-- The way to a number is that of the table's axes.
use Rattle.poles.specs.Numbers.{near_at, between_at}
use Rattle.poles.proofs.pole_numbers.Given as goal

abbrev pub ghost-running_numbers : goal.ghost-running_numbers
ghost-running_numbers a = between_at a.section.0.now a.pad

abbrev pub ghost-running_numbers-2 : goal.ghost-running_numbers-2
ghost-running_numbers-2 a = near_at a.section.0.now a.pad
