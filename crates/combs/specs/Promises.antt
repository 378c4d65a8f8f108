-- For the proofs: nothing here must be believed.
-- What a step promises. Definitions only. Assumes nothing.
use Rattle.std.specs.Prelude.{◌≡◌, List, Float}
use Rattle.lines.specs.declared.Ring.{Ring}
use Rattle.lines.specs.Ring.{cells_at, with_cells}
use Rattle.extended.specs.declared.Chord.{Chord}
use Rattle.combs.specs.declared.FeedbackPath.{FeedbackPath}
use Rattle.combs.specs.declared.Comb2.{Comb2}
use Rattle.combs.specs.Combs.{Combed, comb_end, comb_step, chord_step}

-- the tick of the ring `at` in a delay list, from the taps on
abbrev pub end_at : FeedbackPath → (delay : List Float) → Ring → (taps x : Float) → Combed
end_at c delay at taps x = comb_end c at.len at.cursor (cells_at delay at) taps x

-- Comb2's, and the chord comb's
abbrev pub comb_at : Comb2 → (delay : List Float) → Ring → (x : Float) → Combed
comb_at c delay at x = comb_step c at.len at.cursor (cells_at delay at) x

abbrev pub chord_at : FeedbackPath → (ratio : Float) → Chord → (delay : List Float) → Ring → (x : Float) → Combed
chord_at c ratio chord delay at x = chord_step c ratio chord at.len at.cursor (cells_at delay at) x

-- what a tick t leaves: its sample, and the list with its ring, every other cell as it was
pub record CombLeaves (t : Combed) (before : List Float) (at : Ring) (out : Float) (delay : List Float) : Type 0 where
  pub sample : out ≡ t.out
  pub cells : delay ≡ with_cells before at t.ring
