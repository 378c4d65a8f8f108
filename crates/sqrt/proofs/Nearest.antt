-- `root_of` is the nearest f32, for every finite f32 above zero, and no other is equally near.
-- An f32 is t * 2 ^ j units with t below 2 ^ 24. With x = M * 4 ^ k and r the whole number nearest √M, the neighbours of r * 2 ^ k on its own grid
-- are (r - 1) * 2 ^ k and (r + 1) * 2 ^ k; a finer grid ends at 2 ^ 23 * 2 ^ k, below √x. The points half way to them are odd multiples of
-- 2 ^ (k - 1), whose squares are never 4 ^ k times a whole number. Assumes nothing.
use Rattle.std.proofs.Common.{◌≡◌, ℕ, zero, suc, ◌+◌, ◌-◌, ◌*◌, ◌/◌, ◌%◌, ◌^◌, ◌<◌, ◌≤◌, Bool, true, false, T, leb, sym, refl, ap, ◌∙◌, subst, le_trans, le_of_eq, lt_of_lt_of_le, lt_of_le_of_lt, le_of_lt, mul-le-mul_right, mul_assoc, mul-le-mul, lt_of_mul-lt-mul_right, mul-lt-mul_of_pos_right, mul-pos, arith, pow_pos, pow_mono, pow-add, shl_lt, leb-false, leb-true}
use native.Mathlib.Nat.{eq_of_mul-eq-mul_right, pow-succ'}
use lib.Count.{count_leading_zeros}
use lib.Ieee.{Float, binary32, fits, odd, of_bits, to_bits}
use lib.Ieee.Bits.{of_bits-to_bits}
use lib.Ieee.Exact.{odd_sign}
use lib.Ieee.Fits.{odd-fits}
use lib.Ieee.Positive.{positive, den, den_pos, value→cross, value_pos, positive_of_value}
use Rattle.bits.specs.Patterns.{bits_under, normal_value, small_value}
use Rattle.sqrt.specs.Root.{isqrt, root_of, root_units}
use Rattle.sqrt.specs.Inner.{NearestWhole}
use Rattle.sqrt.specs.Nearest.{IsUnits, Nearer, NearestRoot, RootIsNearest}
use Rattle.sqrt.proofs.Isqrt.{Floor, isqrt_floor, split, scaled_root}
use Rattle.sqrt.proofs.Cases.{by_value, normal_scale, small_scale, normalize}

-- ---- the points half way to numbers of the same grid, P = 2 ^ k apart
over : (m r P Y : ℕ) → 0 < P → m ≤ r * (r + 1) → (r + 1) * P ≤ Y → 4 * (m * (P * P)) < (r * P + Y) * (r * P + Y)
over m r P Y pp h g =
    let a : (2 * r + 1) * P ≤ r * P + Y = omega arith in
    let b : 4 * m < (2 * r + 1) * (2 * r + 1) = omega arith in
    lt_of_lt_of_le (squared m r P pp b) (mul-le-mul a a)
  where
    squared : (m r P : ℕ) → 0 < P → 4 * m < (2 * r + 1) * (2 * r + 1) → 4 * (m * (P * P)) < (2 * r + 1) * P * ((2 * r + 1) * P)
    squared m r P pp b = omega (arith, mul-lt-mul_of_pos_right b (mul-pos pp pp))

under : (m q P Y : ℕ) → 0 < P → (q + 1) * q < m → Y ≤ q * P → ((q + 1) * P + Y) * ((q + 1) * P + Y) < 4 * (m * (P * P))
under m q P Y pp h g =
    let a : (q + 1) * P + Y ≤ (2 * q + 1) * P = omega arith in
    let b : (2 * q + 1) * (2 * q + 1) < 4 * m = omega arith in
    lt_of_le_of_lt (mul-le-mul a a) (squared m q P pp b)
  where
    squared : (m q P : ℕ) → 0 < P → (2 * q + 1) * (2 * q + 1) < 4 * m → (2 * q + 1) * P * ((2 * q + 1) * P) < 4 * (m * (P * P))
    squared m q P pp b = omega (arith, mul-lt-mul_of_pos_right b (mul-pos pp pp))

under_r : (m r P Y : ℕ) → 0 < P → NearestWhole m r → Y ≤ (r - 1) * P → (r * P + Y) * (r * P + Y) < 4 * (m * (P * P))
under_r m r P Y pp v g =
    let l = v.low in
    let e : r - 1 + 1 ≡ r = omega arith in
    subst (λ (z : ℕ). (z * P + Y) * (z * P + Y) < 4 * (m * (P * P))) e (under m (r - 1) P Y pp (subst (λ (z : ℕ). z * (r - 1) < m) (sym e) v.above) g)

same_grid : (m r P u : ℕ) → 0 < P → NearestWhole m r → Nearer (m * (P * P)) (r * P) (u * P)
same_grid m r P u pp v = (
  λ (h : r * P < u * P). over m r P (u * P) pp v.below (mul-le-mul_right P (up r u (lt_of_mul-lt-mul_right P h))),
  λ (h : u * P < r * P). under_r m r P (u * P) pp v (mul-le-mul_right P (down r u (lt_of_mul-lt-mul_right P h))),
)
  where
    up : (r u : ℕ) → r < u → r + 1 ≤ u
    up r u h = omega arith

    down : (r u : ℕ) → u < r → u ≤ r - 1
    down r u h = omega arith

-- ---- numbers of a finer grid, which ends at 2 ^ 23 * P
finer : (m r P Y : ℕ) → 0 < P → 70368744177664 ≤ m → NearestWhole m r → 2 * Y ≤ 16777216 * P → Nearer (m * (P * P)) (r * P) Y
finer m r P Y pp M v h = (λ (g : r * P < Y). absurd (clash g (mul-le-mul_right P v.low)), λ (g : Y < r * P). go (leb 8388609 r) refl g)
  where
    clash : r * P < Y → 8388608 * P ≤ r * P → ⊥
    clash g l = omega arith

    least : (r : ℕ) → 8388609 ≤ r → 8388608 ≤ r - 1
    least r w = omega arith

    half : Y ≤ 8388608 * P
    half = omega arith

    square : (r : ℕ) → r < 8388609 → r * r ≤ m
    square r w = let l : r ≤ 8388608 = omega arith in omega (arith, mul-le-mul l l)

    twice : (R : ℕ) → Y < R → (R + Y) * (R + Y) < 2 * R * (2 * R)
    twice R g = let l : R + Y + 1 ≤ 2 * R = omega arith in omega (arith, mul-le-mul l l)

    spread : r * r ≤ m → 2 * (r * P) * (2 * (r * P)) ≤ 4 * (m * (P * P))
    spread w = omega (arith, mul-le-mul_right (P * P) w)

    go : (b : Bool) → leb 8388609 r ≡ b → Y < r * P → (r * P + Y) * (r * P + Y) < 4 * (m * (P * P))
    go true t g = under_r m r P Y pp v (le_trans half (mul-le-mul_right P (least r (leb-true 8388609 r t))))
    go false t g = lt_of_lt_of_le (twice (r * P) g) (spread (square r (leb-false 8388609 r t)))

-- ---- so any t * 2 ^ j with t below 2 ^ 24
nearer : (m k r t j : ℕ) → 70368744177664 ≤ m → NearestWhole m r → t < 16777216 → Nearer (m * (2 ^ k * 2 ^ k)) (r * 2 ^ k) (t * 2 ^ j)
nearer m k r t j M v h = go (leb k j) refl
  where
    back : k ≤ j → j - k + k ≡ j
    back w = omega arith

    go : (b : Bool) → leb k j ≡ b → Nearer (m * (2 ^ k * 2 ^ k)) (r * 2 ^ k) (t * 2 ^ j)
    go true e =
        let w = leb-true k j e in
        subst (λ (z : ℕ). Nearer (m * (2 ^ k * 2 ^ k)) (r * 2 ^ k) z)
        (mul_assoc t (2 ^ (j - k)) (2 ^ k) ∙ ap (λ (z : ℕ). t * z) (sym (pow-add 2 (j - k) k) ∙ ap (λ (z : ℕ). 2 ^ z) (back w)))
        (same_grid m r (2 ^ k) (t * 2 ^ (j - k)) (pow_pos k) v)
    go false e =
        let w = leb-false k j e in
        let d : 2 * 2 ^ j ≤ 2 ^ k = le_trans (le_of_eq (sym (pow-succ' 2 j))) (pow_mono w) in
        finer m r (2 ^ k) (t * 2 ^ j) (pow_pos k) M v (doubled (2 ^ j) (2 ^ k) d)
      where
        doubled : (Q P : ℕ) → 2 * Q ≤ P → 2 * (t * Q) ≤ 16777216 * P
        doubled Q P d = le_trans (le_of_eq (swap t Q)) (mul-le-mul (le_of_lt h) d)
          where
            swap : (t Q : ℕ) → 2 * (t * Q) ≡ t * (2 * Q)
            swap t Q = omega arith

-- ---- every finite f32 that is not negative is such a number
same_units : (y : Float) (Y Z : ℕ) → IsUnits y Y → IsUnits y Z → Y ≡ Z
same_units y Y Z a b = eq_of_mul-eq-mul_right (den y) (den_pos y) Y Z (sym (value→cross y Y (2 ^ 149) a) ∙ value→cross y Z (2 ^ 149) b)

record Grid (Y : ℕ) : Type 0 where
  t : ℕ
  j : ℕ
  small : t < 16777216
  is : Y ≡ t * 2 ^ j

from_bits : (b : ℕ) (Y : ℕ) → b < 2139095040 → IsUnits (of_bits binary32 b) Y → Grid Y
from_bits b Y h v = go (leb 8388608 b) refl
  where
    go : (s : Bool) → leb 8388608 b ≡ s → Grid Y
    go true e = record { t = 8388608 + b % 8388608; j = b / 8388608 - 1; small = omega arith; is = same_units (of_bits binary32 b) Y _ v (normal_value b (leb-true 8388608 b e) h) }
    go false e = let l = leb-false 8388608 b e in record { t = b; j = 0; small = omega arith; is = same_units (of_bits binary32 b) Y _ v (small_value b l) }

on_grid : (y : Float) (Y : ℕ) → T (fits binary32 y) → IsUnits y Y → Grid Y
on_grid y zero f v = record { t = 0; j = 0; small = omega arith; is = refl }
on_grid y (suc Y) f v =
    let e = of_bits-to_bits binary32 y f in
    let p : T (positive y) = positive_of_value y (suc Y) (2 ^ 149) v (omega arith) in
    from_bits (to_bits binary32 y) (suc Y) (bits_under (to_bits binary32 y) (subst (λ (z : Float). T (positive z)) (sym e) p)) (subst (λ (z : Float). IsUnits z (suc Y)) (sym e) v)

-- ---- the whole number nearest √m
least : (m q : ℕ) → 70368744177664 ≤ m → m < (q + 1) * (q + 1) → 8388608 ≤ q
least m q a h = grind arith

most : (m q : ℕ) → m ≤ 281474959933440 → q * q ≤ m → q < 16777216
most m q a h = grind arith

next_most : (m q : ℕ) → m ≤ 281474959933440 → q * (q + 1) < m → q + 1 < 16777216
next_most m q a h = grind arith

before : (m q : ℕ) → 0 < q → q * q ≤ m → q * (q - 1) < m
before m q p h = grind arith

moved : (m q : ℕ) → q * (q + 1) < m → (q + 1) * (q + 1 - 1) < m
moved m q h = grind arith

nearest_whole : (m : ℕ) → 70368744177664 ≤ m → m ≤ 281474959933440 → (r : ℕ) × NearestWhole m r
nearest_whole m a b = go (isqrt 24 m) (isqrt_floor 24 m (omega arith))
  where
    go : (q : ℕ) → Floor m q → (r : ℕ) × NearestWhole m r
    go q f = pick (leb m (q * (q + 1))) refl
      where
        low : 8388608 ≤ q
        low = least m q a f.1

        pick : (s : Bool) → leb m (q * (q + 1)) ≡ s → (r : ℕ) × NearestWhole m r
        pick true e = (q, record { above = before m q (omega (arith, low)) f.0; below = leb-true m (q * (q + 1)) e; low = low; high = most m q b f.0 })
        pick false e =
            let l : q * (q + 1) < m = leb-false m (q * (q + 1)) e in
            (q + 1, record { above = moved m q l; below = omega (arith, f.1); low = omega (arith, low); high = next_most m q b l })

-- ---- the theorem, at x = X units with X * 2 ^ 149 = m * 2 ^ (e + 21)
scaled : (x : Float) (X m e : ℕ) → IsUnits x X → 0 < X → X * 2 ^ 149 ≡ m * 2 ^ (e + 21) → 8388608 ≤ m → m < 16777216 → 105 ≤ e → e ≤ 381 → NearestRoot x (root_of x)
scaled x X m e v p s a b c d =
    let k = e / 2 - 1 in
    let M = m * 2 ^ (23 + e % 2) in
    let i = split m e a b c in
    let w = nearest_whole M i.low i.high in
    let r = w.0 in
    let is : root_of x ≡ odd 24 false r k 149 = by_value x X v p ∙ ap root_units s ∙ scaled_root m e M r b d i w.1 in
    record {
      X = X;
      R = r * 2 ^ k;
      x-is = v;
      r_is = subst (λ (z : Float). IsUnits z (r * 2 ^ k)) (sym is) (odd_sign 24 false r k 149);
      r_fits =
          subst (λ (z : Float). T (fits binary32 z)) (sym is)
          (odd-fits binary32 24 false r k w.1.high (le_of_lt w.1.high) (lt_of_lt_of_le (shl_lt 24 k w.1.high) (pow_mono {j = 277} (omega arith))));
      nearest = λ y Y f u.
          let g = on_grid y Y f u in
          subst (λ (n : ℕ). Nearer n (r * 2 ^ k) Y) (i.is ∙ sym s)
          (subst (λ (z : ℕ). Nearer (M * (2 ^ k * 2 ^ k)) (r * 2 ^ k) z) (sym g.is) (nearer M k r g.t g.j i.low w.1 g.small));
    }

at_bits : (b : ℕ) → b < 2139095040 → T (positive (of_bits binary32 b)) → NearestRoot (of_bits binary32 b) (root_of (of_bits binary32 b))
at_bits b h p = go (leb 8388608 b) refl
  where
    go : (s : Bool) → leb 8388608 b ≡ s → NearestRoot (of_bits binary32 b) (root_of (of_bits binary32 b))
    go true e =
        let l = leb-true 8388608 b e in
        let X = (8388608 + b % 8388608) * 2 ^ (b / 8388608 - 1) in
        let v = normal_value b l h in
        scaled (of_bits binary32 b) X (b % 8388608 + 8388608) (b / 8388608 + 127) v (value_pos (of_bits binary32 b) X (2 ^ 149) p (pow_pos 149) v) (normal_scale b l) (omega arith) (omega arith) (omega arith) (omega arith)
    go false e =
        let l = leb-false 8388608 b e in
        let X = b * 2 ^ 0 in
        let v = small_value b l in
        let q = value_pos (of_bits binary32 b) X (2 ^ 149) p (pow_pos 149) v in
        let w = (normalize b (omega (arith, q)) l).1 in
        let k = count_leading_zeros 32 b - 8 in
        let lo = w.low in
        let hi = w.high in
        scaled (of_bits binary32 b) X (b * 2 ^ k) (128 - k) v q (small_scale b k w.high) w.least w.most (omega arith) (omega arith)

-- no other f32 is as near to the true root as the definition's
pub root_nearest : RootIsNearest
root_nearest x f p =
    let e = of_bits-to_bits binary32 x f in
    let p2 : T (positive (of_bits binary32 (to_bits binary32 x))) = subst (λ (z : Float). T (positive z)) (sym e) p in
    subst (λ (z : Float). NearestRoot z (root_of z)) e (at_bits (to_bits binary32 x) (bits_under (to_bits binary32 x) p2) p2)
