-- For the proofs: nothing here must be believed.
-- The clip's operations on a finite number up to 3: their values are the results of `Results`. Assumes nothing.
use Rattle.std.specs.Prelude.{◌≡◌, refl, Bool, false, ℕ, ◌+◌, ◌*◌, ◌≤◌, ◌<◌, Float}
use Rattle.std.proofs.Common.{◌∙◌, mul-pos, arith, lit≤, lit<, pow_pos}
use Rattle.std.specs.Float.{binary32}
use Rattle.std.specs.Float.Ieee.{unlike, round}
use Rattle.std.specs.Float.Ieee.Exact.{HasValue}
use Rattle.std.specs.Float.Ieee.Scale.{round_same}
use Rattle.lane.specs.Floats.{◌⊕◌, ◌⊗◌, ◌⊘◌, fma, whole}
use Rattle.rounding.specs.Operations.{like_self, like_plus, sum_rounds, product_rounds, quotient_rounds, operation_value}
use Rattle.clip.specs.Bound.{Bounded, Roundings, Ranges, ranges, bounded}
use Rattle.clip.specs.Results.{U, e, Results, over_units, roundings}

-- soft_clip without the hold
abbrev pub body : Float → Float
body x = x ⊗ (x ⊗ x ⊕ whole 27) ⊘ fma (x ⊗ x) (whole 9) (whole 27)

twenty_seven : HasValue (whole 27) false (27 * U) U
unfolding round
twenty_seven = (refl, refl)

nine : HasValue (whole 9) false 9 1
unfolding round
nine = (refl, refl)

plain_nine : (X U : ℕ) → X * 9 * U ≡ 9 * X * (U * 1)
plain_nine X U = omega arith

-- x is ± a / d
module _ (x : Float) (s : Bool) (a d X S P W T Q : ℕ) (D : 0 < d) (v : HasValue x s a d) (h : a ≤ 3 * d) (g : Results a d X S P W T Q) where
  U0 : 0 < U
  U0 = pow_pos 149

  known : Roundings a d X S P W T Q U e
  known = roundings a d X S P W T Q D g

  in_range : Ranges a d X S P W T U
  in_range = ranges a d X S P W T Q U e D (pow_pos 124) refl h known

  x_value : HasValue (x ⊗ x) false X U
  x_value =
      operation_value 4 (x ⊗ x) (unlike s s) false (a * a) (d * d) X g.x (product_rounds binary32 s s x x a d a d D D v v)
      (like_self s) (lit≤ tt) (mul-pos D D) in_range.x

  s_value : HasValue (x ⊗ x ⊕ whole 27) false S U
  s_value =
      operation_value 6 (x ⊗ x ⊕ whole 27) false false (X + 27 * U) U S g.s
      (sum_rounds binary32 false (x ⊗ x) (whole 27) X (27 * U) U U0 x_value twenty_seven) refl (lit≤ tt) U0 in_range.s

  p_value : HasValue (x ⊗ x ⊗ whole 9) false P U
  p_value =
      operation_value 7 (x ⊗ x ⊗ whole 9) false false (9 * X) U P g.p
      (product_rounds binary32 false false (x ⊗ x) (whole 9) X U 9 1 U0 (lit< tt) x_value nine
      ∙ round_same binary32 false (X * 9) (U * 1) (9 * X) U (lit< tt) U0 (plain_nine X U))
      refl (lit≤ tt) U0 in_range.p

  w_value : HasValue (fma (x ⊗ x) (whole 9) (whole 27)) false W U
  w_value =
      operation_value 7 (fma (x ⊗ x) (whole 9) (whole 27)) false false (P + 27 * U) U W g.w
      (sum_rounds binary32 false (x ⊗ x ⊗ whole 9) (whole 27) P (27 * U) U U0 p_value twenty_seven) refl (lit≤ tt) U0 in_range.w

  t_value : HasValue (x ⊗ (x ⊗ x ⊕ whole 27)) s T U
  t_value =
      operation_value 7 (x ⊗ (x ⊗ x ⊕ whole 27)) (unlike s false) s (a * S) (d * U) T g.t
      (product_rounds binary32 s false x (x ⊗ x ⊕ whole 27) a d S U D U0 v s_value) (like_plus s) (lit≤ tt) (mul-pos D U0) in_range.t

  q_value : HasValue (body x) s Q U
  q_value =
      operation_value 3 (body x) (unlike s false) s (T * U) (W * U) Q g.q
      (quotient_rounds binary32 s false (x ⊗ (x ⊗ x ⊕ whole 27)) (fma (x ⊗ x) (whole 9) (whole 27)) T U W U U0 in_range.divisor t_value w_value)
      (like_plus s) (lit≤ tt) (mul-pos in_range.divisor U0) (over_units T W U 8 U0 in_range.q)

  pub body_value : HasValue (body x) s Q U × Bounded a d Q U e
  body_value = (q_value, bounded a d X S P W T Q U e D (pow_pos 124) refl h known)
