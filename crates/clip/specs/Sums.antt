-- For the proofs: nothing here must be believed.
-- The clip's six roundings put together, over whole numbers alone. The input is a / d; A = a², D = d²; X S T P W Q are the results of the operations
--   X = v², S = X + 27, T = v S, P = 9 X, W = P + 27, Q = T / W
-- in units of 1 / U, and the error of each is at most c e. The exact clip is F / H with F = a g and H = d h, g = A + 27 D, h = 9 A + 27 D. Assumes nothing.
use Rattle.std.specs.Prelude.{◌≡◌, ℕ, ◌+◌, ◌*◌, ◌≤◌, ◌<◌}
use Rattle.std.proofs.Common.{ap, mul-le-mul_left, mul-le-mul_right, le_of_mul-le-mul_right, arith}
use Rattle.rounding.specs.Rounding.{Off}

-- S h against (P + 27 U) g: the errors of X, S and P. In the exact products the terms of X cancel but for 216
pub middle : (A D X S P U e c1 c2 c4 : ℕ) → Off (D * (c1 * e)) (X * D) (A * U) → Off (c2 * e) S (X + 27 * U) → Off (c4 * e) P (9 * X)
    → Off ((216 * (D * c1) + c2 * (9 * A + 27 * D) + c4 * (A + 27 * D)) * e) (S * (9 * A + 27 * D)) ((P + 27 * U) * (A + 27 * D))
middle A D X S P U e c1 c2 c4 x s p = (
  omega (arith, x.1, mul-le-mul_right (9 * A + 27 * D) s.0, mul-le-mul_right (A + 27 * D) p.1),
  omega (arith, x.0, mul-le-mul_right (9 * A + 27 * D) s.1, mul-le-mul_right (A + 27 * D) p.0),
)

-- where S and P are rounded by the same amount, what that moves nearly cancels
pub middle_alike : (A D X S P U e c1 c2 : ℕ) → Off (D * (c1 * e)) (X * D) (A * U) → Off (c2 * e) S (X + 27 * U) → P + 27 * U ≡ S + 8 * X
    → Off ((216 * (D * c1) + c2 * (8 * A)) * e) (S * (9 * A + 27 * D)) ((P + 27 * U) * (A + 27 * D))
middle_alike A D X S P U e c1 c2 x s p = (
  omega (arith, x.1, mul-le-mul_right (8 * A) s.0, ap (λ (z : ℕ). z * (A + 27 * D)) p),
  omega (arith, x.0, mul-le-mul_right (8 * A) s.1, ap (λ (z : ℕ). z * (A + 27 * D)) p),
)

-- T H against W F: those of T and W too; Y is P + 27 U
pub crossed : (a d g h S T Y W e j c3 c5 : ℕ) → Off (j * e) (S * h) (Y * g) → Off (d * (c3 * e)) (T * d) (a * S) → Off (c5 * e) W Y
    → Off ((a * j + d * h * c3 + a * g * c5) * e) (T * (d * h)) (W * (a * g))
crossed a d g h S T Y W e j c3 c5 m t w = (
  omega (arith, mul-le-mul_left a m.0, mul-le-mul_right h t.0, mul-le-mul_left (a * g) w.1),
  omega (arith, mul-le-mul_left a m.1, mul-le-mul_right h t.1, mul-le-mul_left (a * g) w.0),
)

-- Q H against U F, all six
pub quotient : (F H U T W Q r b e6 : ℕ) → 0 < W → Off r (T * H) (W * F) → Off (W * e6) (Q * W) (T * U) → r * U + W * H * e6 ≤ W * H * b
    → Off (H * b) (Q * H) (F * U)
quotient F H U T W Q r b e6 P t q k = (
  le_of_mul-le-mul_right {k = W} (omega (arith, k, mul-le-mul_right U t.0, mul-le-mul_right H q.0)) P,
  le_of_mul-le-mul_right {k = W} (omega (arith, k, mul-le-mul_right U t.1, mul-le-mul_right H q.1)) P,
)

-- ---- with U = 2^25 e
small : (D h e m U : ℕ) → U ≡ 33554432 * e → 27 * D ≤ h → m ≤ 8 → 400000 * (m * (D * e)) ≤ h * U
small D h e m U u k M = omega (arith, mul-le-mul_right U k, mul-le-mul_right (D * e) M, ap (λ (z : ℕ). D * z) u)

share : (d D h W e ρ m U : ℕ) → ρ * U * D ≡ ρ * U * (d * d) → (1000 * (ρ * d) + h * h) * (d * U) ≤ 1000 * (m * (h * h)) * (d * U)
    → 1000 * (m * d * h) * (h * U) ≤ 1000 * (m * d * h) * (W * D + 400 * (D * e)) → 400000 * (m * (D * e)) * (h * d) ≤ h * U * (h * d)
    → ρ * U * D ≤ W * (d * h) * m * D
share d D h W e ρ m U p q r s = omega arith

-- W is nearly U h / D. So errors that come to ρ e are at most m e times W H / U, where ρ d is below m h² by a thousandth of h²
pub enough : (d D h W e ρ m U : ℕ) → U ≡ 33554432 * e → D ≡ d * d → 0 < D → 27 * D ≤ h → h * U ≤ W * D + 400 * (D * e)
    → m ≤ 8 → 1000 * (ρ * d) + h * h ≤ 1000 * (m * (h * h)) → ρ * U ≤ W * (d * h) * m
enough d D h W e ρ m U u D2 P hD w M k =
    le_of_mul-le-mul_right {k = D}
    (share d D h W e ρ m U (ap (λ (z : ℕ). ρ * U * z) D2) (mul-le-mul_right (d * U) k) (mul-le-mul_left (1000 * (m * d * h)) w)
    (mul-le-mul_right (h * d) (small D h e m U u hD M)))
    P
