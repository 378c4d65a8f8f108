-- `lane::min` meets its contract: where b is a number other than -0 by document 01's tests (`min_other`), at -0 one comparison decides
-- (`min_compared`). Assumes nothing.
use mathlib.Core.Path.{sym, subst}
use lib.Dec.{T}
use Rattle.lane.specs.Lane.{min_of}
use Rattle.lane.specs.Order.{min_in01}
use Rattle.lane.proofs.Compared.{min_compared, min_other}
use Rattle.lane.proofs.Zeros.{not_plus}
use Rattle.lane.proofs.min.Goals as goal

pub returns-then-is_nan : goal.returns-then-is_nan
unfolding min_of
returns-then-is_nan c = simp (sym c.if-is_nan.ensures.value)

pub returns-then-is_nan-2 : goal.returns-then-is_nan-2
unfolding min_of
returns-then-is_nan-2 c = simp (sym c.if-is_nan.ensures.value, sym c.if-is_nan-2.ensures.value)

pub returns-then-a-b : goal.returns-then-a-b
returns-then-a-b c =
    rw (min_compared c.args.a c.args.b (subst T (sym c.well_formed.0.1) tt) (subst T (sym c.well_formed.1.0.1) tt) (sym c.if-is_nan-2.ensures.value)
    (not_plus c.args.b (sym c.if-is_minus_zero.ensures))) (simp c.if-a-b.true)

pub returns-else-a-b : goal.returns-else-a-b
returns-else-a-b c =
    rw (min_compared c.args.a c.args.b (subst T (sym c.well_formed.0.1) tt) (subst T (sym c.well_formed.1.0.1) tt) (sym c.if-is_nan-2.ensures.value)
    (not_plus c.args.b (sym c.if-is_minus_zero.ensures))) (simp c.if-a-b.false)

pub returns-then-b-a : goal.returns-then-b-a
unfolding min_in01
returns-then-b-a c =
    rw (min_other c.args.a c.args.b (sym c.if-is_minus_zero.ensures))
    (simp (sym c.if-is_nan.ensures.value, sym c.if-is_nan-2.ensures.value, c.if-b-a.true))

pub returns-else-b-a : goal.returns-else-b-a
unfolding min_in01
returns-else-b-a c =
    rw (min_other c.args.a c.args.b (sym c.if-is_minus_zero.ensures))
    (simp (sym c.if-is_nan.ensures.value, sym c.if-is_nan-2.ensures.value, c.if-b-a.false))
