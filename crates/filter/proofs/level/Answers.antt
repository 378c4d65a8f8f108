-- `filter::level` meets its contract: where the level is no finite number, max(0, 0) is 0.
use mathlib.Core.Path.{◌≡◌, refl}
use mathlib.Core.Bool.{false}
use lib.Ieee.{Float, nan, inf, fin, of_bits, round}
use Rattle.lane.specs.Floats.{zero}
use Rattle.lane.specs.Lane.{max_of}
use Rattle.lane.specs.Order.{max_zeros}
use Rattle.filter.specs.Voice.{finite_or0, level_of}
use Rattle.filter.proofs.level.Goals as goal

of_zero : max_of zero zero ≡ zero
unfolding round
of_zero = max_zeros false false

level_is : (v : Float) → max_of (finite_or0 v) zero ≡ level_of v
unfolding finite_or0 level_of
level_is nan = of_zero
level_is (inf s) = of_zero
level_is (fin s m e) = refl

pub returns : goal.returns
unfolding of_bits round
returns c = rw (c.max.ensures, c.finite_or_0.ensures) (level_is _)
