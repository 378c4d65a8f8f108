-- `kernels::tuning::same` meets its contract: equal bits of numbers that are no NaN are of equal numbers.
use mathlib.Core.Path.{◌≡◌, sym, ap, refl, ◌∙◌, subst}
use mathlib.Core.Bool.{true, false, true≢false}
use lib.Dec.{T, eqb→eq}
use lib.Ieee.{Float, nan, inf, fin, binary32, eq, fits, is_nan, of_bits, to_bits}
use lib.Ieee.Bits.{of_bits-to_bits}
use Rattle.kernels.proofs.tuning.same.Goals as goal
use Rattle.kernels.proofs.tuning.same.Goals.{then-a, else-a}

-- what equals itself is no NaN
number : (x : Float) → eq x x ≡ true → is_nan x ≡ false
unfolding eq is_nan
number nan h = absurd (true≢false (sym h))
number (inf s) h = refl
number (fin s m e) h = refl

-- what owning an `f32` tells: the format holds it
alike : (a b : Float) → T (fits binary32 a) → T (fits binary32 b) → to_bits binary32 a ≡ to_bits binary32 b → a ≡ b
alike a b f g e = sym (of_bits-to_bits binary32 a f) ∙ ap (of_bits binary32) e ∙ of_bits-to_bits binary32 b g

pub returns-then-b : goal.returns-then-b
returns-then-b c e =
    let a = c.args in
    elim c.if-a.branch [
      | then-a w ↦ (
        number a.a w.if-a.true,
        alike a.a a.b (subst T (sym c.well_formed.0.1) tt) (subst T (sym c.well_formed.1.0.1) tt)
            (eqb→eq (to_bits binary32 a.a) (to_bits binary32 a.b) (subst T (sym e) tt)),
      )
      | else-a w ↦ absurd (true≢false (sym c.if-b.true ∙ w.value-is ∙ w.if-a.false))
    ]
