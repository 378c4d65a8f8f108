-- `teeth::add_taps` meets its contract: after each turn the taps so far are made, and the sum is theirs.
use Prim.Native.Nat.{◌-◌, ◌≤◌}
use Rattle.lane.specs.Floats.{◌‼◌}
use Rattle.teeth.specs.Taps.{tap_of, Summed}
use Rattle.teeth.proofs.add_taps.Given as goal

abbrev pub invariant-loop-tooth : goal.invariant-loop-tooth
invariant-loop-tooth l = (1 ≤ l.tooth) × (l.tooth ≤ l.n) × Summed (λ j. tap_of l.cells l.plan (l.teeth ‼ j) j) l.tooth l.sum l.taps

abbrev pub decreases-loop-tooth : goal.decreases-loop-tooth
decreases-loop-tooth l = l.n - l.tooth
