-- `near_root` meets its contract, whatever the guess is: the loops end only where the squares say so. Assumes nothing.
use Rattle.std.proofs.Common.{◌-◌, ◌*◌, ◌<◌, ◌≤◌}
use Rattle.sqrt.proofs.near_root.Given as goal

abbrev pub invariant-loop-n : goal.invariant-loop-n
invariant-loop-n l = (8388608 ≤ l.n) × (l.n < 16777216)

abbrev pub decreases-loop-n : goal.decreases-loop-n
decreases-loop-n l = l.n

abbrev pub invariant-loop-n-2 : goal.invariant-loop-n-2
invariant-loop-n-2 l = (8388608 ≤ l.n) × (l.n < 16777216) × (l.n * (l.n - 1) < l.m)

abbrev pub decreases-loop-n-2 : goal.decreases-loop-n-2
decreases-loop-n-2 l = 16777216 - l.n
