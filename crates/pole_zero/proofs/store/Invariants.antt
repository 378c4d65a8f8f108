-- `store` meets its contract. The loop's invariant: the first i terms are pasted over the list from n × 20 on.
use Rattle.std.proofs.Common.{◌≡◌, ◌*◌}
use lib.Seq.{paste}
use Rattle.pole_zero.proofs.store.Given as goal

abbrev pub invariant-loop-i : goal.invariant-loop-i
invariant-loop-i l = l.sections ≡ paste l.initial.sections (l.n * 20) l.t l.i
