-- `places::sole` meets its contract. Assumes nothing.
use mathlib.Core.Path.{◌≡◌}
use Prim.Native.Nat.{◌≤◌}
use Rattle.places.specs.Places.{count, place_of}
use Rattle.places.specs.Places.{head_in}
use Rattle.places.proofs.sole.Given as goal

abbrev pub invariant-loop-b : goal.invariant-loop-b
invariant-loop-b l = (l.seen ≡ count (head_in l.file) l.head l.b) × (l.at ≡ place_of (head_in l.file) l.head l.b) × (l.seen ≤ l.b)
