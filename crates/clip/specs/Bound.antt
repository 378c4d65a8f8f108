-- For the proofs: nothing here must be believed.
-- How far the clip of a / d strays, for an input up to 3, from what is known of its six roundings (`Roundings`): four cases. Assumes nothing.
use Rattle.std.specs.Prelude.{◌≡◌, refl, ℕ, ◌+◌, ◌-◌, ◌*◌, ◌^◌, ◌≤◌, ◌<◌}
use Rattle.std.proofs.Common.{sym, ap, subst, inl, inr, le_of_lt, mul-one, mul-pos, mul-le-mul, mul-le-mul_left, mul-le-mul_right, le_of_mul-le-mul_right, lt_of_mul-lt-mul_right, arith}
use Rattle.rounding.specs.Rounding.{Off, either}
use Rattle.clip.specs.Sums.{middle, middle_alike, crossed, quotient, enough}
use Rattle.clip.specs.Cases.{under, over, each, together, errors, Small, below_two, from_two, from_two_alike, near_three}

-- The results of the clip's operations, in units of 1 / U, and of each what is known: where the exact result is below 2^i, it is off by at most 2^i e. And two
-- coincidences: S and P are rounded by the same amount where both lie between the same two powers of two; from 64 on P + 27 is exact
pub record Roundings (a d X S P W T Q U e : ℕ) : Type 0 where
  pub x : (i : ℕ) → a * a < d * d * 2 ^ i → Off (d * d * (2 ^ i * e)) (X * (d * d)) (a * a * U)
  pub s : (i : ℕ) → X + 27 * U < U * 2 ^ i → Off (2 ^ i * e) S (X + 27 * U)
  pub p : (i : ℕ) → 9 * X < U * 2 ^ i → Off (2 ^ i * e) P (9 * X)
  pub w : (i : ℕ) → P + 27 * U < U * 2 ^ i → Off (2 ^ i * e) W (P + 27 * U)
  pub t : (i : ℕ) → a * S < d * U * 2 ^ i → Off (d * (2 ^ i * e)) (T * d) (a * S)
  pub q : (i : ℕ) → 0 < W → T < W * 2 ^ i → Off (W * (2 ^ i * e)) (Q * W) (T * U)
  pub same : 4 * (d * d) ≤ a * a → a * a < 8 * (d * d) → 5 * U ≤ X → 9 * X < 64 * U → P + 27 * U ≡ S + 8 * X
  pub exact : 64 * U ≤ 9 * X → 9 * X < 128 * U → P + 27 * U < 128 * U → W ≡ P + 27 * U

-- powers of two above the exact results, in every case
pub record Ranges (a d X S P W T U : ℕ) : Type 0 where
  pub x : a * a < d * d * 16
  pub s : X + 27 * U < U * 64
  pub p : 9 * X < U * 128
  pub w : P + 27 * U < U * 128
  pub t : a * S < d * U * 128
  pub q : T < W * 8
  pub divisor : 0 < W

-- 9v² + 27 - v (v² + 27) = (3 - v)³
cube : (a d t : ℕ) → a + t ≡ 3 * d → d * under a d ≡ a * over a d + t * (t * t)
cube a d t h = omega (arith, ap (λ (z : ℕ). a * a * z) h, ap (λ (z : ℕ). a * (z * z)) h, ap (λ (z : ℕ). z * (z * z)) h)

-- what the theorem says, in units
abbrev pub Bounded : (a d Q U e : ℕ) → Type 0
Bounded a d Q U e = Off (d * under a d * (8 * e)) (Q * (d * under a d)) (a * over a d * U)

-- T n < W n, since H exceeds F by at least n / 64
apart : (T W F H U e n t : ℕ) → 0 < n * e → U ≡ 33554432 * e → n ≤ 64 * t → T * n ≤ F * U + 368 * (n * e) → H * U ≤ W * n + 400 * (n * e)
    → H ≡ F + t → T * n < W * n
apart T W F H U e n t N u k x y z = omega (arith, mul-le-mul_right U k, ap (λ (w : ℕ). w * U) z, ap (λ (w : ℕ). n * w) u)

-- where 9 X is below 64 the input is below 11 / 4, where it is not the input is at least 53 / 20
not_beyond : (A D X U e : ℕ) → 0 < D * e → U ≡ 33554432 * e → 9 * X < 64 * U → A * U ≤ X * D + D * (16 * e) → 11 * 11 * D ≤ 4 * 4 * A → ⊥
not_beyond A D X U e P u h x l = omega (arith, mul-le-mul_right D (le_of_lt h), mul-le-mul_right U l, ap (λ (z : ℕ). D * z) u)

not-before : (A D X U e : ℕ) → 0 < D * e → U ≡ 33554432 * e → 64 * U ≤ 9 * X → X * D ≤ A * U + D * (16 * e)
    → 20 * 20 * A ≤ 53 * 53 * D → ⊥
not-before A D X U e P u h x l = omega (arith, mul-le-mul_right D h, mul-le-mul_right U l, ap (λ (z : ℕ). D * z) u)

squares : (m n a b : ℕ) → m * a < n * b → m * m * (a * a) ≤ n * n * (b * b)
squares m n a b h = omega (arith, mul-le-mul (le_of_lt h) (le_of_lt h))

module _ (a d X S P W T Q U e : ℕ) (D : 0 < d) (E : 0 < e) (u : U ≡ 33554432 * e) (a3 : a ≤ 3 * d) (r : Roundings a d X S P W T Q U e) where
  DD : 0 < d * d
  DD = mul-pos D D

  -- ---- what holds in every case: below which power of two each exact result is, how far off it is at most, and how large
  x_below : a * a < d * d * 16
  x_below = omega (arith, mul-le-mul a3 a3, DD)

  x_off : Off (d * d * (16 * e)) (X * (d * d)) (a * a * U)
  x_off = r.x 4 x_below

  x_most : X ≤ 10 * U
  x_most = le_of_mul-le-mul_right {k = d * d} (omega (arith, x_off.0, mul-le-mul_right U (mul-le-mul a3 a3), ap (λ (z : ℕ). d * d * z) u)) DD

  s-below : X + 27 * U < U * 64
  s-below = omega (arith, x_most)

  s_off : Off (64 * e) S (X + 27 * U)
  s_off = r.s 6 s-below

  s_most : S ≤ 38 * U
  s_most = omega (arith, x_most, s_off.0)

  p_below : 9 * X < U * 128
  p_below = omega (arith, x_most)

  p_off : Off (128 * e) P (9 * X)
  p_off = r.p 7 p_below

  p_most : P ≤ 91 * U
  p_most = omega (arith, x_most, p_off.0)

  w_below : P + 27 * U < U * 128
  w_below = omega (arith, p_most)

  w_off : Off (128 * e) W (P + 27 * U)
  w_off = r.w 7 w_below

  w_least : 26 * U ≤ W
  w_least = omega (arith, w_off.1)

  w_pos : 0 < W
  w_pos = omega (arith, w_least)

  t_below : a * S < d * U * 128
  t_below = omega (arith, mul-le-mul a3 s_most, mul-pos D E, ap (λ (z : ℕ). d * z) u)

  t_off : Off (d * (128 * e)) (T * d) (a * S)
  t_off = r.t 7 t_below

  t_most : T ≤ 115 * U
  t_most = le_of_mul-le-mul_right {k = d} (omega (arith, t_off.0, mul-le-mul a3 s_most, ap (λ (z : ℕ). d * z) u)) D

  pub ranges : Ranges a d X S P W T U
  ranges = record { x = x_below; s = s-below; p = p_below; w = w_below; t = t_below; q = omega (arith, t_most, w_least); divisor = w_pos }

  -- ---- the divisor is nearly U h / D, and the quotient is below 1 where the input is not near 3
  divisor : under a d * U ≤ W * (d * d) + 400 * (d * d * e)
  divisor = omega (arith, x_off.1, mul-le-mul_right (d * d) p_off.1, mul-le-mul_right (d * d) w_off.1)

  dividend : T * d * (d * d) ≤ a * over a d * U + 368 * (d * (d * d) * e)
  dividend =
      let s : a * (d * d) * S ≤ a * (d * d) * (X + 27 * U + 64 * e) = mul-le-mul_left (a * (d * d)) s_off.0 in
      omega (arith, mul-le-mul_left a x_off.0, s, mul-le-mul_right (d * d) t_off.0, mul-le-mul_right (d * d * e) a3)

  below_one : 4 * a ≤ 11 * d → T < W * 1
  below_one h =
      let t = 3 * d - a in
      let k : d ≤ 4 * t = omega (arith, h) in
      let n = d * (d * d) in
      let x : T * n ≤ a * over a d * U + 368 * (n * e) = omega (arith, dividend) in
      let w : d * under a d * U ≤ W * n + 400 * (n * e) = omega (arith, mul-le-mul_left d divisor) in
      let c : n ≤ 64 * (t * (t * t)) = omega (arith, mul-le-mul k (mul-le-mul k k)) in
      let b : a + t ≡ 3 * d = omega arith in
      let l = apart T W (a * over a d) (d * under a d) U e n (t * (t * t)) (mul-pos (mul-pos D DD) E) u c x w (cube a d t b) in
      subst (λ (z : ℕ). T < z) (sym (mul-one W)) (lt_of_mul-lt-mul_right n l)

  -- ---- a case: the errors of X, S and P come to j e, with those of T and W to ρ e, and with the quotient's to 8 e
  of_middle : (c1 c2 c4 : ℕ) → Off (d * d * (c1 * e)) (X * (d * d)) (a * a * U) → Off (c2 * e) S (X + 27 * U) → Off (c4 * e) P (9 * X)
      → Off (each c1 c2 c4 a d * e) (S * under a d) ((P + 27 * U) * over a d)
  of_middle = middle (a * a) (d * d) X S P U e

  total : (j c3 c5 m c6 : ℕ) → m + c6 ≡ 8 → Small m (errors j c3 c5 a d) a d → Off (j * e) (S * under a d) ((P + 27 * U) * over a d)
      → Off (d * (c3 * e)) (T * d) (a * S) → Off (c5 * e) W (P + 27 * U) → Off (W * (c6 * e)) (Q * W) (T * U) → Bounded a d Q U e
  total j c3 c5 m c6 k small xsp t w q =
      let ρ = errors j c3 c5 a d in
      let xspt = crossed a d (over a d) (under a d) S T (P + 27 * U) W e j c3 c5 xsp t w in
      quotient (a * over a d) (d * under a d) U T W Q (ρ * e) (8 * e) (c6 * e) w_pos xspt q
      (in_all W (d * under a d) ρ m c6 k (enough d (d * d) (under a d) W e ρ m U u refl DD (h_least (a * a) (d * d)) divisor (most m c6 k) small))
    where
      in_all : (W H ρ m c6 : ℕ) → m + c6 ≡ 8 → ρ * U ≤ W * H * m → ρ * e * U + W * H * (c6 * e) ≤ W * H * (8 * e)
      in_all W H ρ m c6 k h = omega (arith, mul-le-mul_right e h, ap (λ (z : ℕ). W * H * e * z) k)

      h_least : (A D : ℕ) → 27 * D ≤ 9 * A + 27 * D
      h_least A D = omega arith

      most : (m c6 : ℕ) → m + c6 ≡ 8 → m ≤ 8
      most m c6 k = omega arith

  -- ---- 1. the input is below 2
  below-2 : a < 2 * d → Bounded a d Q U e
  below-2 h =
      let x : Off (d * d * (4 * e)) (X * (d * d)) (a * a * U) = r.x 2 (omega (arith, mul-le-mul h h)) in
      let xl : X ≤ 4 * U + 4 * e = le_of_mul-le-mul_right {k = d * d} (omega (arith, x.0, mul-le-mul_right U (mul-le-mul (le_of_lt h) (le_of_lt h)))) DD in
      let s : Off (32 * e) S (X + 27 * U) = r.s 5 (omega (arith, xl)) in
      let sl : S ≤ 31 * U + 36 * e = omega (arith, xl, s.0) in
      let p : Off (64 * e) P (9 * X) = r.p 6 (omega (arith, xl)) in
      let w : Off (64 * e) W (P + 27 * U) = r.w 6 (omega (arith, xl, p.0)) in
      let t : Off (d * (64 * e)) (T * d) (a * S) = r.t 6 (omega (arith, mul-le-mul (le_of_lt h) sl, mul-pos D E, ap (λ (z : ℕ). d * z) u)) in
      let q : Off (W * (1 * e)) (Q * W) (T * U) = r.q 0 w_pos (below_one (omega (arith, h))) in
      total (each 4 32 64 a d) 64 64 7 1 refl (below_two a d) (of_middle 4 32 64 x s p) t w q

  -- ---- 2. and 3. from 2 on, 9 X below 64
  not_near_three : 9 * X < 64 * U → 4 * a ≤ 11 * d
  not_near_three h = elim (either (11 * d) (4 * a)) [
    | inl l ↦ absurd (not_beyond (a * a) (d * d) X U e (mul-pos DD E) u h x_off.1 (squares 11 4 d a l))
    | inr l ↦ l
  ]

  from_2 : 2 * d ≤ a → a * a < 8 * (d * d) → X < 5 * U → Bounded a d Q U e
  from_2 h k l =
      let x : Off (d * d * (8 * e)) (X * (d * d)) (a * a * U) = r.x 3 (omega (arith, k)) in
      let s : Off (32 * e) S (X + 27 * U) = r.s 5 (omega (arith, l)) in
      let p : Off (64 * e) P (9 * X) = r.p 6 (omega (arith, l)) in
      let q : Off (W * (1 * e)) (Q * W) (T * U) = r.q 0 w_pos (below_one (not_near_three (omega (arith, l)))) in
      total (each 8 32 64 a d) 128 128 7 1 refl (from_two a d h) (of_middle 8 32 64 x s p) t_off w_off q

  rounded_alike : 2 * d ≤ a → a * a < 8 * (d * d) → 5 * U ≤ X → 9 * X < 64 * U → Bounded a d Q U e
  rounded_alike h k l m =
      let x : Off (d * d * (8 * e)) (X * (d * d)) (a * a * U) = r.x 3 (omega (arith, k)) in
      let b : P + 27 * U ≡ S + 8 * X = r.same (omega (arith, mul-le-mul h h)) k l m in
      let q : Off (W * (1 * e)) (Q * W) (T * U) = r.q 0 w_pos (below_one (not_near_three m)) in
      total (together 8 64 a d) 128 128 7 1 refl (from_two_alike a d h) (middle_alike (a * a) (d * d) X S P U e 8 64 x s_off b) t_off w_off q

  -- ---- 4. 9 X from 64 on
  at_least : 64 * U ≤ 9 * X → 53 * d ≤ 20 * a
  at_least h = elim (either (20 * a) (53 * d)) [
    | inl l ↦ absurd (not-before (a * a) (d * d) X U e (mul-pos DD E) u h x_off.0 (squares 20 53 a d l))
    | inr l ↦ l
  ]

  near_3 : 64 * U ≤ 9 * X → Bounded a d Q U e
  near_3 h =
      let b : W ≡ P + 27 * U = r.exact h (omega (arith, x_most)) (omega (arith, p_most)) in
      let w : Off (0 * e) W (P + 27 * U) = (omega (arith, b), omega (arith, b)) in
      let q : Off (W * (2 * e)) (Q * W) (T * U) = r.q 1 w_pos (omega (arith, t_most, b, p_off.1, h)) in
      total (each 16 64 128 a d) 128 0 6 2 refl (near_three a d (at_least h)) (of_middle 16 64 128 x_off s_off p_off) t_off w q

  from_8 : 8 * (d * d) ≤ a * a → 64 * U ≤ 9 * X
  from_8 h = le_of_mul-le-mul_right {k = d * d} (omega (arith, x_off.1, mul-le-mul_right U h, ap (λ (z : ℕ). d * d * z) u)) DD

  pub bounded : Bounded a d Q U e
  bounded = elim (either a (2 * d)) [
    | inl h ↦ below-2 h
    | inr h ↦ elim (either (9 * X) (64 * U)) [
      | inl m ↦ elim (either (a * a) (8 * (d * d))) [
        | inl k ↦ elim (either X (5 * U)) [ inl l ↦ from_2 h k l | inr l ↦ rounded_alike h k l m ]
        | inr k ↦ near_3 (from_8 k)
      ]
      | inr m ↦ near_3 m
    ]
  ]
