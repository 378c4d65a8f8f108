-- For the proofs: nothing here must be believed.
-- A comb's tick from the values that its code read, of a list that the reads left as it was. Assumes nothing.
use Rattle.std.specs.Prelude.{◌≡◌, Float}
use Rattle.std.proofs.Common.{subst}
use mathlib.Core.List.{List}
use Rattle.lane.specs.Floats.{◌⊕◌, ◌⊗◌, half}
use Rattle.lines.specs.Lines.{ring_read}
use Rattle.lines.specs.declared.Ring.{Ring}
use Rattle.lines.specs.Ring.{cells_at}
use Rattle.combs.specs.declared.Comb2.{Comb2}
use Rattle.combs.specs.Combs.{comb_taps, comb_step}
use Rattle.combs.specs.Promises.{end_at, comb_at, CombLeaves}

module _ (c : Comb2) (before : List Float) (at : Ring) (x : Float) where
  abbrev tap : Float → Float
  tap delay = ring_read at.len at.cursor delay (cells_at before at)

  pub two_taps : (u v : Float) (read : List Float) (out : Float) (after : List Float) → read ≡ before → u ≡ tap c.first → v ≡ tap c.second
      → CombLeaves (end_at c.path read at ((u ⊕ v) ⊗ half) x) read at out after → CombLeaves (comb_at c before at x) before at out after
  unfolding comb_taps comb_step
  two_taps u v read out after e f g h =
      rw (← f, ← g) (subst (λ (xs : List Float). CombLeaves (end_at c.path xs at ((u ⊕ v) ⊗ half) x) xs at out after) e h)
