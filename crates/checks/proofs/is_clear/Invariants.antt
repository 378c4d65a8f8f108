-- `checks::is_clear` meets its contract. The loop's invariant: the first i rows are clear.
use Prim.Native.Nat.{◌*◌, ◌+◌}
use mathlib.Core.Path.{◌≡◌}
use mathlib.Core.Bool.{true}
use lib.Dec.{eqb}
use Rattle.lane.specs.Floats.{◌‼◌}
use Rattle.text.specs.Text.{bits_of}
use Rattle.places.specs.Places.{every}
use Rattle.checks.proofs.is_clear.Given as goal

abbrev pub invariant-loop-i : goal.invariant-loop-i
invariant-loop-i l = every (λ k. eqb (bits_of (l.list ‼ (k * l.width + l.place))) 0) l.i ≡ true
