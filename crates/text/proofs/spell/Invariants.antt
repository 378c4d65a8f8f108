-- `spell` meets its contract. The loop's invariant: the digits of what is left, before those stored from i on, are the digits of n. Assumes nothing.
use mathlib.Core.Path.{◌≡◌}
use Prim.Native.Nat.{◌≤◌}
use lib.ListN.{length, drop}
use Rattle.text.specs.Text.{spelled, decimal_text}
use Rattle.text.proofs.spell.Given as goal

abbrev pub invariant-loop-i : goal.invariant-loop-i
invariant-loop-i l = (spelled l.i l.rest (drop l.i l.text) ≡ decimal_text l.n) × (l.i ≤ 20) × (length l.text ≡ 20)
