-- `is_same` meets its contract. The loop's invariant: the first i numbers are the same.
use Rattle.std.proofs.Common.{◌≡◌, take, drop}
use Rattle.slots.proofs.is_same.Given as goal

abbrev pub invariant-loop-i : goal.invariant-loop-i
invariant-loop-i l = take l.i l.other ≡ take l.i (drop l.from l.list)
