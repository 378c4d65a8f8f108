-- `lane::is_minus_zero` meets its contract: -0 is the one number with its pattern. Assumes nothing.
use mathlib.Core.Path.{sym, ap, ◌∙◌, subst}
use mathlib.Core.Bool.{not}
use lib.Dec.{T}
use Rattle.bits.specs.Nan.{nan_is, nan_alone}
use Rattle.lane.specs.Lane.{is_minus_zero}
use Rattle.lane.proofs.Zeros.{minus_pattern}
use Rattle.lane.proofs.is_minus_zero.Goals as goal

pub returns-then-not-is_nan : goal.returns-then-not-is_nan
returns-then-not-is_nan c = minus_pattern _ (subst T (sym c.well_formed.0.1) tt)

pub returns-else-not-is_nan : goal.returns-else-not-is_nan
returns-else-not-is_nan c = ap not c.if-not-is_nan.false ∙ sym (ap is_minus_zero (nan_alone c.args.x (sym (nan_is c.args.x) ∙ sym c.if-not-is_nan.ensures.value)))
