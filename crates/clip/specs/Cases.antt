-- For the proofs: nothing here must be believed.
-- The errors of the clip's roundings, as multiples of e, against h²: polynomials of degree 4 in the input's numerator a and denominator d. There are four
-- cases, by the powers of two that the results of the operations are below: c1 to c5, of X S T P W. Assumes nothing.
use Rattle.std.proofs.Common.{subst, inl, inr, mul-le-mul_right, arith}
use Rattle.std.specs.Prelude.{ℕ, ◌+◌, ◌-◌, ◌*◌, ◌≤◌}
use Rattle.rounding.specs.Rounding.{either, rest}

-- h and g, for the input a / d
abbrev pub under : ℕ → ℕ → ℕ
under a d = 9 * (a * a) + 27 * (d * d)

abbrev pub over : ℕ → ℕ → ℕ
over a d = a * a + 27 * (d * d)

-- what the roundings of X, S and P come to; where S and P are rounded by the same amount; and with those of T and W
abbrev pub each : (c1 c2 c4 a d : ℕ) → ℕ
each c1 c2 c4 a d = 216 * (d * d * c1) + c2 * under a d + c4 * over a d

abbrev pub together : (c1 c2 a d : ℕ) → ℕ
together c1 c2 a d = 216 * (d * d * c1) + c2 * (8 * (a * a))

abbrev pub errors : (j c3 c5 a d : ℕ) → ℕ
errors j c3 c5 a d = a * j + d * under a d * c3 + a * over a d * c5

-- ρ d is below m h², by a thousandth of h²
abbrev pub Small : (m ρ a d : ℕ) → Type 0
Small m ρ a d = 1000 * (ρ * d) + under a d * under a d ≤ 1000 * (m * (under a d * under a d))

-- from k on: what holds of a = k d + t holds of every a from k d on
from : (k : ℕ) (P : ℕ → ℕ → Type 0) → ((d t : ℕ) → P (k * d + t) d) → (a d : ℕ) → k * d ≤ a → P a d
from k P p a d h = subst (λ (z : ℕ). P z d) (rest a (k * d) h) (p d (a - k * d))

-- ---- an input below 2, by 2 a d ≤ a² + d²
square_from : (a d : ℕ) → 1 * d ≤ a → 2 * (d * a) ≤ a * a + d * d
square_from = from 1 (λ a d. 2 * (d * a) ≤ a * a + d * d) (λ d t. omega arith)

square : (a d : ℕ) → 2 * (d * a) ≤ a * a + d * d
square a d = elim (either a d) [
  | inl h ↦ let g : 1 * a ≤ d = omega (arith, h) in omega (arith, square_from d a g)
  | inr h ↦ let g : 1 * d ≤ a = omega (arith, h) in square_from a d g
]

pub below_two : (a d : ℕ) → Small 7 (errors (each 4 32 64 a d) 64 64 a d) a d
below_two a d = omega (arith, mul-le-mul_right (d * d) (square a d), mul-le-mul_right (a * a) (square a d))

-- ---- from 2 on: with a = 2 d + t no term is negative
pub from_two : (a d : ℕ) → 2 * d ≤ a → Small 7 (errors (each 8 32 64 a d) 128 128 a d) a d
from_two = from 2 (λ a d. Small 7 (errors (each 8 32 64 a d) 128 128 a d) a d) (λ d t. omega arith)

pub from_two_alike : (a d : ℕ) → 2 * d ≤ a → Small 7 (errors (together 8 64 a d) 128 128 a d) a d
from_two_alike = from 2 (λ a d. Small 7 (errors (together 8 64 a d) 128 128 a d) a d) (λ d t. omega arith)

-- ---- from 53 / 20 on, where W is exact
pub near_three : (a d : ℕ) → 53 * d ≤ 20 * a → Small 6 (errors (each 16 64 128 a d) 128 0 a d) a d
near_three a d h =
    omega (arith, mul-le-mul_right (d * d * d) h, mul-le-mul_right (a * (d * d)) h, mul-le-mul_right (a * a * d) h, mul-le-mul_right (a * a * a) h)
