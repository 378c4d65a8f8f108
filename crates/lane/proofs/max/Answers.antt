-- `lane::max` meets its contract: where b is a number other than -0 one comparison decides (`max_compared`), at -0 document 01's tests
-- (`max_other`). Assumes nothing.
use mathlib.Core.Path.{sym, ap, ◌∙◌, subst}
use lib.Dec.{T}
use Rattle.bits.specs.Nan.{nan_is, nan_alone}
use Rattle.lane.specs.Lane.{max_of}
use Rattle.lane.specs.Order.{max_in01, max_nan}
use Rattle.lane.proofs.Compared.{max_compared, max_other}
use Rattle.lane.proofs.Zeros.{not_plus}
use Rattle.lane.proofs.max.Goals as goal

pub returns-then-is_nan : goal.returns-then-is_nan
returns-then-is_nan c =
    let a = c.args in
    sym (ap (max_of a.a) (nan_alone a.b (sym (nan_is a.b) ∙ sym c.if-is_nan.ensures.value)) ∙ (max_nan a.a).1)

pub returns-then-is_nan-2 : goal.returns-then-is_nan-2
unfolding max_in01
returns-then-is_nan-2 c = rw (max_other c.args.a c.args.b (not_plus c.args.b (sym c.if-is_minus_zero.ensures))) (simp (sym c.if-is_nan-2.ensures.value))

pub returns-then-a-b : goal.returns-then-a-b
unfolding max_in01
returns-then-a-b c =
    rw (max_other c.args.a c.args.b (not_plus c.args.b (sym c.if-is_minus_zero.ensures)))
    (simp (sym c.if-is_nan-2.ensures.value, sym c.if-is_nan.ensures.value, c.if-a-b.true))

pub returns-else-a-b : goal.returns-else-a-b
unfolding max_in01
returns-else-a-b c =
    rw (max_other c.args.a c.args.b (not_plus c.args.b (sym c.if-is_minus_zero.ensures)))
    (simp (sym c.if-is_nan-2.ensures.value, sym c.if-is_nan.ensures.value, c.if-a-b.false))

pub returns-then-b-a : goal.returns-then-b-a
returns-then-b-a c =
    rw (max_compared c.args.a c.args.b (subst T (sym c.well_formed.0.1) tt) (subst T (sym c.well_formed.1.0.1) tt) (sym c.if-is_nan.ensures.value) (sym c.if-is_minus_zero.ensures))
    (simp c.if-b-a.true)

pub returns-else-b-a : goal.returns-else-b-a
returns-else-b-a c =
    rw (max_compared c.args.a c.args.b (subst T (sym c.well_formed.0.1) tt) (subst T (sym c.well_formed.1.0.1) tt) (sym c.if-is_nan.ensures.value) (sym c.if-is_minus_zero.ensures))
    (simp c.if-b-a.false)
