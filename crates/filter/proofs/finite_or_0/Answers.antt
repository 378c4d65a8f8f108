-- `filter::finite_or_0` meets its contract: a finite number is neither a NaN nor an infinity.
use mathlib.Core.Path.{◌≡◌, refl, sym, ◌∙◌}
use mathlib.Core.Bool.{true, false, true≢false, false≢true}
use lib.Ieee.{Float, nan, inf, fin, of_bits, round}
use Rattle.std.specs.Float.{float_is_finite}
use Rattle.lane.specs.Floats.{zero}
use Rattle.filter.specs.Voice.{finite_or0}
use Rattle.filter.proofs.finite_or_0.Goals as goal

kept : (v : Float) → float_is_finite v ≡ true → v ≡ finite_or0 v
unfolding float_is_finite finite_or0
kept nan h = absurd (false≢true h)
kept (inf s) h = absurd (false≢true h)
kept (fin s m e) h = refl

lost : (v : Float) → float_is_finite v ≡ false → zero ≡ finite_or0 v
unfolding float_is_finite finite_or0
lost nan h = refl
lost (inf s) h = refl
lost (fin s m e) h = absurd (true≢false h)

pub returns-then-is_finite : goal.returns-then-is_finite
returns-then-is_finite c = kept _ (sym c.is_finite.ensures.value ∙ c.if-is_finite.true)

pub returns-else-is_finite : goal.returns-else-is_finite
unfolding of_bits round
returns-else-is_finite c = lost _ (sym c.is_finite.ensures.value ∙ c.if-is_finite.false)
