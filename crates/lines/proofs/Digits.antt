-- The whole part of a float from 1 to 65,536 stands in its bit pattern: the 24 digits, without those of the fraction. By the fraction
-- that the pattern stands for. Assumes nothing.
use Rattle.std.proofs.Common.{◌≡◌, ℕ, zero, suc, ◌+◌, ◌-◌, ◌*◌, ◌/◌, ◌%◌, ◌^◌, ◌<◌, ◌≤◌, min, Bool, true, false, not, T, leb, sym, refl, ap, ◌∙◌, subst, true≢false, le_trans, le_of_eq, lt_of_lt_of_le, le_of_suc-le-suc, not-suc-le-zero, lt_of_le_of_lt, mul-le-mul_right, zero-lt-suc, mul_assoc, div-lt_iff_lt-mul, mul-lt-mul_of_pos_right, lt_of_not-le, le-div_iff_mul-le, zero-mul, mul-one, div-le_self, arith, lt→ltb, pow_pos, pow_mono, pow-add, leb-false, leb-true}
use native.Mathlib.Nat.{div-eq_of_lt-le, min-eq_left, le-min}
use lib.Ieee.{Float, nan, inf, fin, binary32, fits, up, down, of_bits, to_bits, to_unsigned, is_nan}
use lib.Ieee.Bits.{of_bits-to_bits}
use lib.Ieee.Exact.{HasValue}
use lib.Ieee.Fits.{down_pos}
use lib.Ieee.Positive.{positive}
use Rattle.bits.specs.Patterns.{normal_value, small_value, bits_under}
use Rattle.lines.specs.Lines.{whole_part}

-- q whole ones in n / c are in the equal fraction a / d too
within : (a d n c q : ℕ) → 0 < c → a * c ≡ n * d → q * c ≤ n → q * d ≤ a
within a d n c q p e h = le_of_suc-le-suc (lt_of_not-le (λ (g : suc a ≤ q * d). clash g))
  where
    clash : suc a ≤ q * d → ⊥
    clash g = omega (arith, mul-le-mul_right c g, mul-le-mul_right d h)

-- equal fractions have the same whole part
same_floor : (a d n c : ℕ) → 0 < d → 0 < c → a * c ≡ n * d → a / d ≡ n / c
same_floor a d n c dp cp e = div-eq_of_lt-le d (within a d n c q cp e ((le-div_iff_mul-le {k = c} {x = q} {y = n} cp).0 (le_of_eq refl))) (lt_of_not-le over)
  where
    q : ℕ
    q = n / c

    next : n < suc q * c
    next = (div-lt_iff_lt-mul {k = c} {x = n} {y = suc q} cp).0 (le_of_eq refl)

    over : (q + 1) * d ≤ a → ⊥
    over h = omega (arith, mul-le-mul_right c h, mul-lt-mul_of_pos_right next dp)

whole_is : (x : Float) (N D : ℕ) → 0 < D → HasValue x false N D → N / D < 18446744073709551616 → whole_part x ≡ N / D
unfolding to_unsigned
whole_is nan N D p v h = absurd v
whole_is (inf s) N D p v h = absurd v
whole_is (fin true m e) N D p v h = absurd (true≢false v.0)
whole_is (fin false m e) N D p v h =
    let s : m * up e / down e ≡ N / D = same_floor (m * up e) (down e) N D (down_pos e) p v.1 in
    ap (λ (z : ℕ). min z 18446744073709551615) s ∙ min-eq_left (omega arith)

-- ---- by the pattern's fields: the digits M and the exponent k, M * 2 ^ k in units of 2 ^ -149

zero_floor : (N D : ℕ) → 0 < D → N < D → N / D ≡ 0
zero_floor N D p h = let z : N / D < 1 = (div-lt_iff_lt-mul {k = D} {x = N} {y = 1} p).1 (omega arith) in omega arith

none : (x : Float) (N : ℕ) → HasValue x false N (2 ^ 149) → N < 2 ^ 149 → whole_part x ≡ 0
none x N v h =
    let z = zero_floor N (2 ^ 149) (pow_pos 149) h in
    whole_is x N (2 ^ 149) (pow_pos 149) v (subst (λ (n : ℕ). n < 18446744073709551616) (sym z) (pow_pos 64)) ∙ z

-- the digits of the fraction dropped
shifted : (M k : ℕ) → k ≤ 149 → M * 2 ^ k / 2 ^ 149 ≡ M / 2 ^ (149 - k)
shifted M k h = same_floor (M * 2 ^ k) (2 ^ 149) M (2 ^ (149 - k)) (pow_pos 149) (pow_pos (149 - k)) (mul_assoc M (2 ^ k) (2 ^ (149 - k)) ∙ ap (λ (z : ℕ). M * z) (sym (pow-add 2 k (149 - k)) ∙ ap (λ (z : ℕ). 2 ^ z) (back h)))
  where
    back : k ≤ 149 → k + (149 - k) ≡ 149
    back h = omega arith

small_under : (b : ℕ) → b < 8388608 → b * 2 ^ 0 < 2 ^ 149
small_under b h = lt_of_lt_of_le (lt_of_le_of_lt (le_of_eq (mul-one b)) h) (pow_mono {i = 23} {j = 149} (omega arith))

-- 24 digits and an exponent field below 127 make less than 1
low_under : (M k : ℕ) → M < 16777216 → k ≤ 125 → M * 2 ^ k < 2 ^ 149
low_under M k h l = lt_of_lt_of_le (mul-lt-mul_of_pos_right h (pow_pos k)) (le_trans (le_of_eq (sym (pow-add 2 24 k))) (pow_mono {i = 24 + k} {j = 149} (omega arith)))

-- an exponent field of 144 or more makes 2 ^ 17 at least
high_over : (M k : ℕ) → 8388608 ≤ M → 143 ≤ k → 131072 * 2 ^ 149 ≤ M * 2 ^ k
high_over M k h l = le_trans (le_of_eq (sym (pow-add 2 17 149))) (le_trans (pow_mono {i = 166} {j = 23 + k} (omega arith)) (le_trans (le_of_eq (pow-add 2 23 k)) (mul-le-mul_right (2 ^ k) h)))

at_least : (x : Float) (N D q : ℕ) → 0 < D → HasValue x false N D → q * D ≤ N → q ≤ 18446744073709551615 → q ≤ whole_part x
unfolding to_unsigned
at_least nan N D q p v h l = absurd v
at_least (inf s) N D q p v h l = absurd v
at_least (fin true m e) N D q p v h l = absurd (true≢false v.0)
at_least (fin false m e) N D q p v h l = le-min ((le-div_iff_mul-le (down_pos e)).1 (within (m * up e) (down e) N D q p v.1 h)) l

-- ---- so a pattern whose whole part is from 1 to 65,536 has an exponent field from 127 to 143

pub record Fields (b : ℕ) : Type 0 where
  pub least : 1065353216 ≤ b
  pub most : b < 1207959552
  pub digits : (b % 8388608 + 8388608) / 2 ^ (150 - b / 8388608) ≡ whole_part (of_bits binary32 b)

fields-of : (b : ℕ) → b < 2139095040 → 1 ≤ whole_part (of_bits binary32 b) → whole_part (of_bits binary32 b) ≤ 65536 → Fields b
fields-of b h l u = go (leb 8388608 b) refl
  where
    clash : (n : ℕ) → n ≡ 0 → 1 ≤ n → ⊥
    clash n e l = omega arith

    tall : (n : ℕ) → 131072 ≤ n → n ≤ 65536 → ⊥
    tall n a b = omega arith

    go : (s : Bool) → leb 8388608 b ≡ s → Fields b
    go false e = let g = leb-false 8388608 b e in absurd (clash _ (none _ _ (small_value b g) (small_under b g)) l)
    go true e =
        let g = leb-true 8388608 b e in
        let v = normal_value b g h in
        let M : ℕ = 8388608 + b % 8388608 in
        let k : ℕ = b / 8388608 - 1 in
        let low : 126 ≤ k = lt_of_not-le {m = 125} (λ (w : k ≤ 125). clash _ (none _ _ v (low_under M k (omega arith) w)) l) in
        let high : k < 143 = lt_of_not-le (λ (w : 143 ≤ k). tall _ (at_least _ _ (2 ^ 149) 131072 (pow_pos 149) v (high_over M k (omega arith) w) (omega arith)) u) in
        let f : M * 2 ^ k / 2 ^ 149 ≡ M / 2 ^ (149 - k) = shifted M k (omega arith) in
        record {
          least = omega arith;
          most = omega arith;
          digits = same M k (omega arith) (omega arith) ∙ sym (whole_is _ _ (2 ^ 149) (pow_pos 149) v (subst (λ (n : ℕ). n < 18446744073709551616) (sym f) (wide M (2 ^ (149 - k)) (omega arith))) ∙ f);
        }
      where
        same : (M k : ℕ) → b % 8388608 + 8388608 ≡ M → 150 - b / 8388608 ≡ 149 - k → (b % 8388608 + 8388608) / 2 ^ (150 - b / 8388608) ≡ M / 2 ^ (149 - k)
        same M k e f i = e i / 2 ^ f i

        wide : (M D : ℕ) → M < 16777216 → M / D < 18446744073709551616
        wide M D h = lt_of_le_of_lt (div-le_self M D) (omega arith)

above : (x : Float) → 1 ≤ whole_part x → whole_part x ≤ 65536 → T (positive x)
unfolding to_unsigned
above nan l u = absurd (not-suc-le-zero l)
above (inf true) l u = absurd (not-suc-le-zero l)
above (inf false) l u = absurd (tall u)
  where
    tall : 18446744073709551615 ≤ 65536 → ⊥
    tall h = omega arith
above (fin true m e) l u = absurd (not-suc-le-zero l)
above (fin false zero e) l u = absurd (clash (zero * up e / down e) (zero_floor (zero * up e) (down e) (down_pos e) (lt_of_le_of_lt (le_of_eq (zero-mul (up e))) (down_pos e))) l)
  where
    clash : (n : ℕ) → n ≡ 0 → 1 ≤ min n 18446744073709551615 → ⊥
    clash n e l = omega arith
above (fin false (suc m) e) l u = lt→ltb 0 (suc m) (zero-lt-suc m)

-- of a float that has such a whole part
pub fields : (d : Float) → T (fits binary32 d) → 1 ≤ whole_part d → whole_part d ≤ 65536 → Fields (to_bits binary32 d) × (whole_part (of_bits binary32 (to_bits binary32 d)) ≡ whole_part d)
fields d f l u =
    let e = of_bits-to_bits binary32 d f in
    let w = ap whole_part e in
    let p = bits_under (to_bits binary32 d) (subst (λ (x : Float). T (positive x)) (sym e) (above d l u)) in
    (fields-of (to_bits binary32 d) p (subst (λ (n : ℕ). 1 ≤ n) (sym w) l) (subst (λ (n : ℕ). n ≤ 65536) (sym w) u), w)

pub number : (x : Float) → 1 ≤ whole_part x → T (not (is_nan x))
unfolding to_unsigned is_nan
number nan h = absurd (not-suc-le-zero h)
number (inf s) h = tt
number (fin s m e) h = tt
