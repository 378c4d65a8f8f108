-- C-19 (document 02): soft_clip differs from v(v² + 27) / (9v² + 27) by at most 2^-21. Assumes nothing.
use Rattle.std.specs.Prelude.{◌≡◌, Bool, ℕ, ◌*◌, ◌^◌, ◌≤◌, min, ℤ}
use Rattle.std.proofs.Common.{subst, arith, lit≤}
use Rattle.std.specs.Float.{fin}
use Rattle.std.specs.Float.Ieee.{up, down}
use Rattle.lane.specs.Lane.{soft_clip}
use Rattle.rounding.specs.Fractions.{Fraction, value_of}
use Rattle.rounding.specs.Rounding.{weaker_bound}
use Rattle.clip.specs.Cases.{over, under}
use Rattle.clip.specs.Clip.{held_to3, exact_clip, StraysByAtMostOneOver, clip_strays_less}

-- ---- C-19: so by at most 2^-21
pub clip_strays : StraysByAtMostOneOver (2 ^ 21)
unfolding held_to3 exact_clip
clip_strays x f = weaker_bound (2 ^ 21) (2 ^ 22) (value_of (soft_clip x)) (exact_clip (held_to3 (value_of x))) (lit≤ tt) (clip_strays_less x f)

-- ---- the numbers that the bound was worked out for are those of the definitions
pub held_is : (s : Bool) (m : ℕ) (e : ℤ) → (held_to3 (value_of (fin s m e))).numerator ≡ min (m * up e) (3 * down e)
unfolding value_of held_to3
held_is s m e = omega arith

pub numerator_is : (v : Fraction) (w : ℕ) → v.numerator ≡ w → (exact_clip v).numerator ≡ w * over w v.denominator
unfolding exact_clip
numerator_is v w h = subst (λ (z : ℕ). (exact_clip v).numerator ≡ z * over z v.denominator) h (omega arith)

pub denominator_is : (v : Fraction) (w : ℕ) → v.numerator ≡ w → (exact_clip v).denominator ≡ v.denominator * under w v.denominator
unfolding exact_clip
denominator_is v w h = subst (λ (z : ℕ). (exact_clip v).denominator ≡ v.denominator * under z v.denominator) h (omega arith)
