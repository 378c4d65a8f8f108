-- For the proofs: nothing here must be believed.
-- A float between two whole numbers, the lower above 0 and the upper 65,536 at most: the cast to a whole number is defined, and the
-- whole part lies between them too. By the fraction that the float is. Assumes nothing.
use Rattle.std.specs.Prelude.{ℕ, suc, ◌+◌, ◌*◌, ◌/◌, ◌^◌, ◌<◌, ◌≤◌, true, false, T, pos, Float}
use Rattle.std.proofs.Common.{le-div_iff_mul-le, div-lt_iff_lt-mul, suc-mul, mul-le-mul_right, arith, lt→ltb, le→leb}
use Rattle.std.specs.Float.{nan, inf, fin, binary32}
use Rattle.std.specs.Float.Ieee.{up, down, le, lt, to_unsigned, in_float}
use Rattle.std.specs.Float.Ieee.Fits.{down_pos}
use Rattle.std.specs.Float.Ieee.Back.{round_whole}
use Rattle.std.specs.Float.Ieee.Positive.{num, den, positive, between, own_value, positive_of_value, values_of_le}
use Rattle.lane.specs.Floats.{whole}
use Rattle.lines.specs.Lines.{whole_part}

pub record Between (lo hi : ℕ) (y : Float) : Type 0 where
  pub above : T (lt (fin true 1 (pos 0)) y)
  pub below : T (lt y (fin false 1 (pos 64)))
  pub least : lo ≤ whole_part y
  pub most : whole_part y ≤ hi

fraction : (lo hi : ℕ) (y : Float) → hi ≤ 65536 → T (positive y) → lo * den y ≤ num y → num y ≤ hi * den y → Between lo hi y
unfolding lt to_unsigned
fraction lo hi nan h p a b = absurd p
fraction lo hi (inf s) h p a b = absurd p
fraction lo hi (fin true m e) h p a b = absurd p
fraction lo hi (fin false m e) h p a b =
    let d = down e in
    let dp = down_pos e in
    let l : lo ≤ m * up e / d = (le-div_iff_mul-le dp).1 a in
    let u : m * up e / d < suc hi = (div-lt_iff_lt-mul dp).1 (next hi (m * up e) d dp b) in
    record {
      above = lt→ltb 0 (1 * d + m * up e * 1) (plus d (m * up e * 1) dp);
      below = lt→ltb (m * up e * 1) (18446744073709551616 * d) (wide hi (m * up e) d h dp b);
      least = omega arith;
      most = omega arith;
    }
  where
    next : (n a d : ℕ) → 0 < d → a ≤ n * d → a < suc n * d
    next n a d h g = omega (arith, suc-mul n d)

    plus : (d x : ℕ) → 0 < d → 0 < 1 * d + x
    plus d x h = omega arith

    wide : (n a d : ℕ) → n ≤ 65536 → 0 < d → a ≤ n * d → a * 1 < 18446744073709551616 * d
    wide n a d k h g = omega (arith, mul-le-mul_right d k)

module _ (lo hi : ℕ) (y : Float) (l : 0 < lo) (o : lo ≤ hi) (h : hi ≤ 65536) (a : T (le (whole lo) y)) (b : T (le y (whole hi))) where
  pub between_wholes : Between lo hi y
  between_wholes =
      let v = round_whole binary32 false lo (omega arith) in
      let w = round_whole binary32 false hi (omega arith) in
      let pv : T (positive (whole lo)) = positive_of_value (whole lo) lo 1 v (omega arith) in
      let pw : T (positive (whole hi)) = positive_of_value (whole hi) hi 1 w (omega arith) in
      let p : T (positive y) = between (whole lo) y (whole hi) pv pw a b in
      let low : lo * den y ≤ num y * 1 = values_of_le (whole lo) y lo 1 (num y) (den y) pv p v (own_value y p) a in
      let high : num y * 1 ≤ hi * den y = values_of_le y (whole hi) (num y) (den y) hi 1 p pw (own_value y p) w b in
      fraction lo hi y h p (omega arith) (omega arith)

-- a whole number up to 65,536 is a float, exactly
pub exact : (n : ℕ) → n ≤ 65536 → T (in_float binary32 (pos n))
unfolding in_float
exact n h = le→leb n (2 ^ 24) (omega arith)
