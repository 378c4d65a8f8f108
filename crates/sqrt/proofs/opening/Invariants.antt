-- `opening` meets its contract: each turn of the loop makes one digit more of the definition's. Assumes nothing.
use Rattle.std.proofs.Common.{◌≡◌, ◌-◌, ◌*◌, ◌/◌, ◌^◌}
use Rattle.sqrt.specs.Root.{isqrt}
use Rattle.sqrt.proofs.opening.Given as goal

abbrev pub invariant-loop-k : goal.invariant-loop-k
invariant-loop-k l = l.n ≡ isqrt (8 - l.k) (l.square / 2 ^ (2 * l.k))
