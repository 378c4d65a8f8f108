-- For the proofs: nothing here must be believed.
-- The results of the clip's operations for an input ± a / d, in units of 2^-149, and that they do what `Roundings` asks. Assumes nothing.
use Rattle.std.specs.Prelude.{◌≡◌, refl}
use Rattle.std.proofs.Common.{sym, ap, ◌∙◌, subst, mul-pos, mul-le-mul_right, mul-lt-mul_of_pos_right, le_of_mul-le-mul_right, arith, lit<, pow_pos}
use Prim.Native.Nat.{ℕ, ◌+◌, ◌*◌, ◌/◌, ◌%◌, ◌^◌, ◌≤◌, ◌<◌, compare, Ordering}
use Rattle.std.specs.Float.{binary32}
use Rattle.std.specs.Float.Ieee.{nearest}
use Rattle.std.specs.Float.Ieee.Nearest.{closest, closest_same}
use Rattle.std.specs.Float.Ieee.Scale.{grid}
use Rattle.rounding.specs.Rounding.{Off, Compared, compared, closest_whole, round_near, round_step}
use Rattle.clip.specs.Bound.{Roundings}

-- how many units are 1, and 2^-25
abbrev pub U : ℕ
U = 2 ^ 149

abbrev pub e : ℕ
e = 2 ^ 124

-- each result is its operands' fraction, rounded
pub record Results (a d X S P W T Q : ℕ) : Type 0 where
  pub x : X ≡ grid binary32 (a * a) (d * d)
  pub s : S ≡ grid binary32 (X + 27 * U) U
  pub p : P ≡ grid binary32 (9 * X) U
  pub w : W ≡ grid binary32 (P + 27 * U) U
  pub t : T ≡ grid binary32 (a * S) (d * U)
  pub q : Q ≡ grid binary32 (T * U) (W * U)

-- ---- a result g of n / (c U), or of n / U, in units: where a factor U goes
cut : (c U o x y : ℕ) → 0 < U → Off (c * U * o) (x * (c * U)) (y * U) → Off (c * o) (x * c) y
cut c U o x y P h = (le_of_mul-le-mul_right {k = U} (omega (arith, h.0)) P, le_of_mul-le-mul_right {k = U} (omega (arith, h.1)) P)

near_under : (i n c g : ℕ) → g ≡ grid binary32 n (c * U) → 0 < c → n < c * U * 2 ^ i → Off (c * (2 ^ i * e)) (g * c) n
near_under i n c g p C h =
    cut c U (2 ^ i * e) g n (pow_pos 149)
    (subst (λ (w : ℕ). Off (c * U * (2 ^ i * e)) (w * (c * U)) (n * U)) (sym p) (round_near i n (c * U) (mul-pos C (pow_pos 149)) h))

plain : (o x y : ℕ) → Off (1 * o) (x * 1) y → Off o x y
plain o x y h = (omega (arith, h.0), omega (arith, h.1))

near_one : (i n g : ℕ) → g ≡ grid binary32 n U → n < U * 2 ^ i → Off (2 ^ i * e) g n
near_one i n g p h = plain (2 ^ i * e) g n (near_under i n 1 g p (lit< tt) h)

-- ---- between two powers of two, Z and 2 Z units, the nearest step
scaled_le : (n c k U Z : ℕ) → Z ≡ k * U → k * c ≤ n → Z * c ≤ n * U
scaled_le n c k U Z v h = omega (arith, mul-le-mul_right U h, ap (λ (z : ℕ). z * c) v)

scaled_lt : (n c k U Z : ℕ) → Z ≡ k * U → 0 < U → n < k * c → n * U < Z * c
scaled_lt n c k U Z v P h = omega (arith, mul-lt-mul_of_pos_right h P, ap (λ (z : ℕ). z * c) v)

step : (k j n c g : ℕ) → g ≡ grid binary32 n c → 0 < c → 2 ^ (23 + k) ≡ j * U → 2 ^ (24 + k) ≡ 2 * j * U → j * c ≤ n → n < 2 * j * c
    → g ≡ closest (n * U) (c * 2 ^ k) * 2 ^ k
step k j n c g p C lo hi l h =
    p ∙ round_step binary32 n c k (lit< tt) C (scaled_le n c j U (2 ^ (23 + k)) lo l) (scaled_lt n c (2 * j) U (2 ^ (24 + k)) hi (pow_pos 149) h)

-- ---- S and P are rounded by the same amount

-- 9 q and q + 27 × 2^21 to the nearest 8: the remainder is the same, and where it is a tie one quotient is even where the other is
alike : (o : Ordering) (q : ℕ) → Compared o (q % 8 * 2) 8 → nearest (9 * q / 8) o + 7077888 ≡ nearest ((q + 56623104) / 8) o + q
alike Ordering.lt q h = omega arith
alike Ordering.eq q h =
    let j = q / 8 in
    let x : 9 * q / 8 ≡ 9 * j + 4 = omega arith in
    let y : (q + 56623104) / 8 ≡ j + 7077888 = omega arith in
    let z : q ≡ 8 * j + 4 = omega arith in
    tie (9 * q / 8) ((q + 56623104) / 8) j x y z
  where
    tie : (m n j : ℕ) → m ≡ 9 * j + 4 → n ≡ j + 7077888 → q ≡ 8 * j + 4 → m + m % 2 + 7077888 ≡ n + n % 2 + q
    tie m n j x y z =
        let v : m % 2 ≡ j % 2 = omega arith in
        let w : n % 2 ≡ j % 2 = omega arith in
        omega (arith, v, w)
alike Ordering.gt q h = omega arith

eighths : (q : ℕ) → closest (9 * q) 8 + 7077888 ≡ closest (q + 56623104) 8 + q
eighths q =
    let x : 9 * q % 8 ≡ q % 8 = omega arith in
    let y : (q + 56623104) % 8 ≡ q % 8 = omega arith in
    ap (λ (z : ℕ). nearest (9 * q / 8) (compare (z * 2) 8) + 7077888) x
    ∙ alike (compare (q % 8 * 2) 8) q (compared (q % 8 * 2) 8)
    ∙ ap (λ (z : ℕ). nearest ((q + 56623104) / 8) (compare (z * 2) 8) + q) (sym y)

-- with X = q K, in steps of L = 8 K
s_eighths : (q K L U X : ℕ) → U ≡ 2097152 * K → L ≡ 8 * K → X ≡ q * K → (X + 27 * U) * U * 8 ≡ (q + 56623104) * (U * L)
s_eighths q K L U X u l x = omega (arith, ap (λ (z : ℕ). z * U) x, ap (λ (z : ℕ). z * U) u, ap (λ (z : ℕ). (q + 56623104) * U * z) l)

p_eighths : (q K L U X : ℕ) → L ≡ 8 * K → X ≡ q * K → 9 * X * U * 8 ≡ 9 * q * (U * L)
p_eighths q K L U X l x = omega (arith, ap (λ (z : ℕ). z * U) x, ap (λ (z : ℕ). q * U * z) l)

from_eighths : (m n q K L U X S P : ℕ) → U ≡ 2097152 * K → L ≡ 8 * K → X ≡ q * K → m + 7077888 ≡ n + q → P ≡ m * L → S ≡ n * L
    → P + 27 * U ≡ S + 8 * X
from_eighths m n q K L U X S P u l x h p s = omega (arith, ap (λ (z : ℕ). z * K) h, ap (λ (z : ℕ). m * z) l, ap (λ (z : ℕ). n * z) l)

from_five : (X U : ℕ) → 5 * U ≤ X → (32 * U ≤ X + 27 * U) × (32 * U ≤ 9 * X)
from_five X U h = (omega arith, omega arith)

below_64 : (X U : ℕ) → 9 * X < 64 * U → X + 27 * U < 64 * U
below_64 X U h = omega arith

-- ---- P + 27 is exact: with P = m K it is a whole number of steps K
whole_steps : (m K U P : ℕ) → U ≡ 131072 * K → P ≡ m * K → (P + 27 * U) * U ≡ (m + 3538944) * (U * K)
whole_steps m K U P u p = omega (arith, ap (λ (z : ℕ). z * U) p, ap (λ (z : ℕ). z * U) u)

from_steps : (m K U P W : ℕ) → U ≡ 131072 * K → P ≡ m * K → W ≡ (m + 3538944) * K → W ≡ P + 27 * U
from_steps m K U P W u p w = omega arith

from_64 : (X P U e : ℕ) → U ≡ 33554432 * e → 64 * U ≤ 9 * X → 9 * X ≤ P + 128 * e → 64 * U ≤ P + 27 * U
from_64 X P U e u h k = omega arith

-- ---- all that is asked
swapped : (n k U : ℕ) → n < k * U → n < U * k
swapped n k U h = omega arith

pub over_units : (T W U k : ℕ) → 0 < U → T < W * k → T * U < W * U * k
over_units T W U k P h = omega (arith, mul-lt-mul_of_pos_right h P)

module _ (a d X S P W T Q : ℕ) (D : 0 < d) (g : Results a d X S P W T Q) where
  x_near : (i : ℕ) → a * a < d * d * 2 ^ i → Off (d * d * (2 ^ i * e)) (X * (d * d)) (a * a * U)
  x_near i h = subst (λ (z : ℕ). Off (d * d * (2 ^ i * e)) (z * (d * d)) (a * a * U)) (sym g.x) (round_near i (a * a) (d * d) (mul-pos D D) h)

  same : 4 * (d * d) ≤ a * a → a * a < 8 * (d * d) → 5 * U ≤ X → 9 * X < 64 * U → P + 27 * U ≡ S + 8 * X
  same lo hi l h =
      let q = closest (a * a * U) (d * d * 2 ^ 128) in
      let x : X ≡ q * 2 ^ 128 = step 128 4 (a * a) (d * d) X g.x (mul-pos D D) refl refl lo hi in
      let s = step 131 32 (X + 27 * U) U S g.s (pow_pos 149) refl refl (from_five X U l).0 (below_64 X U h) in
      let p = step 131 32 (9 * X) U P g.p (pow_pos 149) refl refl (from_five X U l).1 h in
      from_eighths (closest (9 * q) 8) (closest (q + 56623104) 8) q (2 ^ 128) (2 ^ 131) U X S P refl refl x (eighths q)
      (p ∙ in_eighths (9 * X * U) (9 * q) (p_eighths q (2 ^ 128) (2 ^ 131) U X refl x))
      (s ∙ in_eighths ((X + 27 * U) * U) (q + 56623104) (s_eighths q (2 ^ 128) (2 ^ 131) U X refl refl x))
    where
      in_eighths : (n m : ℕ) → n * 8 ≡ m * (U * 2 ^ 131) → closest n (U * 2 ^ 131) * 2 ^ 131 ≡ closest m 8 * 2 ^ 131
      in_eighths n m h = ap (λ (z : ℕ). z * 2 ^ 131) (closest_same n (U * 2 ^ 131) m 8 (lit< tt) (lit< tt) h)

  exact : 64 * U ≤ 9 * X → 9 * X < 128 * U → P + 27 * U < 128 * U → W ≡ P + 27 * U
  exact l h k =
      let m = closest (9 * X * U) (U * 2 ^ 132) in
      let p : P ≡ m * 2 ^ 132 = step 132 64 (9 * X) U P g.p (pow_pos 149) refl refl l h in
      let lo = from_64 X P U e refl l (near_one 7 (9 * X) P g.p (swapped (9 * X) 128 U h)).1 in
      let w = step 132 64 (P + 27 * U) U W g.w (pow_pos 149) refl refl lo k in
      from_steps m (2 ^ 132) U P W refl p
      (w ∙ ap (λ (z : ℕ). closest z (U * 2 ^ 132) * 2 ^ 132) (whole_steps m (2 ^ 132) U P refl p)
      ∙ ap (λ (z : ℕ). z * 2 ^ 132) (closest_whole (m + 3538944) (U * 2 ^ 132) (lit< tt)))

  pub roundings : Roundings a d X S P W T Q U e
  roundings = record {
    x = x_near;
    s = λ i h. near_one i (X + 27 * U) S g.s h;
    p = λ i h. near_one i (9 * X) P g.p h;
    w = λ i h. near_one i (P + 27 * U) W g.w h;
    t = λ i h. near_under i (a * S) d T g.t D h;
    q = λ i C h. near_under i (T * U) W Q g.q C (over_units T W U (2 ^ i) (pow_pos 149) h);
    same = same;
    exact = exact;
  }
