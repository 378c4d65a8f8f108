-- Numbers as fractions of whole numbers, for bounds that a reader can check without floats. Definitions only. Assumes nothing.
use Rattle.std.specs.Prelude.{◌≡◌, Bool, false, ℕ, ◌+◌, ◌*◌, ◌≤◌, ◌<◌, Float}
use Rattle.std.specs.Float.{nan, inf, fin}
use Rattle.std.specs.Float.Ieee.{up, down}

-- ± numerator / denominator
pub record Fraction : Type 0 where
  pub negative : Bool
  pub numerator : ℕ
  pub denominator : ℕ

-- the number that a float stands for: `fin s m e` is ± m × 2^e, where 2^e is `up e` / `down e`. NaN and the infinities stand for no
-- number; their denominator is 0
unfoldable pub value_of : Float → Fraction
value_of nan = record { negative = false; numerator = 0; denominator = 0 }
value_of (inf s) = record { negative = s; numerator = 0; denominator = 0 }
value_of (fin s m e) = record { negative = s; numerator = m * up e; denominator = down e }

-- p and q are numbers of one sign that differ by at most 1 / n: with p = ± a / b and q = ± c / d, n × |a / b - c / d| ≤ 1, multiplied by b × d; an
-- inequality for each sign of that difference
pub record WithinOneOver (n : ℕ) (p q : Fraction) : Type 0 where
  pub numbers : (0 < p.denominator) × (0 < q.denominator)
  pub signs : p.negative ≡ q.negative
  pub above : n * (p.numerator * q.denominator) ≤ n * (q.numerator * p.denominator) + p.denominator * q.denominator
  pub below : n * (q.numerator * p.denominator) ≤ n * (p.numerator * q.denominator) + p.denominator * q.denominator
