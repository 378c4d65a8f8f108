-- `copy` meets its contract. The loop's invariant: after i turns the first i numbers are pasted over the list.
use Rattle.std.proofs.Common.{◌≡◌, drop}
use lib.Seq.{paste}
use Rattle.slots.proofs.copy.Given as goal

abbrev pub invariant-loop-i : goal.invariant-loop-i
invariant-loop-i l = l.into ≡ paste l.initial.into l.to (drop l.from l.list) l.i
