-- `digits` meets its contract. The loop's invariant: the digits from i on, after v, spell what all of them spell, and v is within `most`. Assumes nothing.
use mathlib.Core.Path.{◌≡◌}
use Prim.Native.Nat.{◌≤◌}
use lib.ListN.{drop}
use Rattle.text.specs.Text.{number_from}
use Rattle.text.proofs.digits.Given as goal

abbrev pub invariant-loop-b : goal.invariant-loop-b
invariant-loop-b l = (number_from l.base l.most (drop l.b-index l.s) l.v ≡ number_from l.base l.most l.s 0) × (l.v ≤ l.most)
