-- The definition's root, by the cases that the code tests: NaN, below zero, infinity, zero, and a finite number above zero by its bit pattern. Assumes nothing.
use Rattle.std.proofs.Common.{◌≡◌, ℕ, zero, suc, ◌+◌, ◌-◌, ◌*◌, ◌/◌, ◌%◌, ◌^◌, ◌<◌, ◌≤◌, true, false, ltb, sym, refl, ap, ◌∙◌, true≢false, le_trans, le_of_eq, lt_of_lt_of_le, le-add_right, not-suc-le-zero, lt_irrefl, mul-le-mul_right, zero-lt-suc, mul_assoc, add_comm, mul-lt-mul_of_pos_right, mul-pos, lt_of_not-le, zero-mul, not-le_of_lt, mul-div_cancel, arith, pow_pos, pow_mono, pow-add, ltb-false, le-ltb}
use mathlib.Core.Bool.{false≢true}
use lib.Count.{count_leading_zeros, leading_top}
use lib.Ieee.{Float, nan, inf, fin, binary32, up, down, div, of_bits, lt, is_nan}
use lib.Ieee.Fits.{down_pos, up_pos}
use lib.Ieee.Positive.{positive}
use Rattle.sqrt.specs.Root.{root_of, root_units}
use Rattle.sqrt.specs.Nearest.{IsUnits}
use Rattle.bits.specs.Patterns.{normal_value, small_value}

-- ---- the tests on floats
pub nan_stays : (x : Float) → is_nan x ≡ true → x ≡ root_of x
unfolding is_nan root_of
nan_stays nan h = refl
nan_stays (inf s) h = absurd (false≢true h)
nan_stays (fin s m e) h = absurd (false≢true h)

pub negative : (x : Float) → lt x (of_bits binary32 0) ≡ true → div binary32 (of_bits binary32 0) (of_bits binary32 0) ≡ root_of x
unfolding lt root_of div of_bits
negative nan h = refl
negative (inf true) h = refl
negative (inf false) h = absurd (false≢true h)
negative (fin true zero e) h = absurd (false≢true (sym (ap (λ (z : ℕ). ltb 0 (z * 1 + 0 * down e)) (zero-mul (up e)) ∙ ap (λ (z : ℕ). ltb 0 (0 + z)) (zero-mul (down e))) ∙ h))
negative (fin true (suc m) e) h = refl
negative (fin false m e) h = absurd (false≢true (sym (none (m * up e * 1) (down e)) ∙ h))
  where
    none : (a d : ℕ) → ltb a (0 * d) ≡ false
    none a d = ap (ltb a) (zero-mul d) ∙ le-ltb a 0 (omega arith)

-- what is neither below zero nor finite and above zero
pub stays : (x : Float) → lt x (of_bits binary32 0) ≡ false → positive x ≡ false → x ≡ root_of x
unfolding lt root_of of_bits
stays nan h p = refl
stays (inf true) h p = absurd (true≢false h)
stays (inf false) h p = refl
stays (fin s zero e) h p = refl
stays (fin true (suc m) e) h p = absurd (not-suc-le-zero (le_trans (le_trans (mul-pos (mul-pos (zero-lt-suc m) (up_pos e)) (zero-lt-suc 0)) (le-add_right _ (0 * down e))) (ltb-false 0 (suc m * up e * 1 + 0 * down e) h)))
stays (fin false (suc m) e) h p = absurd (not-suc-le-zero (ltb-false 0 (suc m) p))

-- ---- what is finite and above zero
pub by_value : (x : Float) (X : ℕ) → IsUnits x X → 0 < X → root_of x ≡ root_units (X * 2 ^ 149)
unfolding root_of
by_value nan X v h = absurd v
by_value (inf s) X v h = absurd v
by_value (fin true m e) X v h = absurd (true≢false v.0)
by_value (fin false zero e) X v h = absurd (lt_irrefl 0 (lt_of_lt_of_le (mul-pos h (down_pos e)) (le_of_eq (sym v.1 ∙ ap (λ (z : ℕ). z * 2 ^ 149) (zero-mul (up e)) ∙ zero-mul (2 ^ 149)))))
by_value (fin false (suc m) e) X v h = ap (λ (z : ℕ). root_units (z * 2 ^ 149)) (ap (λ (z : ℕ). z / down e) v.1 ∙ mul-div_cancel X (down_pos e))

-- a shift moved from the significand to the exponent
shifted : (m a b c : ℕ) → a + b ≡ c → m * 2 ^ a * 2 ^ b ≡ m * 2 ^ c
shifted m a b c h = mul_assoc m (2 ^ a) (2 ^ b) ∙ ap (λ (z : ℕ). m * z) (sym (pow-add 2 a b) ∙ ap (λ (z : ℕ). 2 ^ z) h)

-- a normal number: its value in units, times 2 ^ 149, as the code has it
pub normal_scale : (b : ℕ) → 8388608 ≤ b → (8388608 + b % 8388608) * 2 ^ (b / 8388608 - 1) * 2 ^ 149 ≡ (b % 8388608 + 8388608) * 2 ^ (b / 8388608 + 127 + 21)
normal_scale b h =
    shifted (8388608 + b % 8388608) (b / 8388608 - 1) 149 (b / 8388608 + 127 + 21) (omega arith)
    ∙ ap (λ (z : ℕ). z * 2 ^ (b / 8388608 + 127 + 21)) (add_comm 8388608 (b % 8388608))

pub normal_case : (b : ℕ) → 8388608 ≤ b → b < 2139095040 → root_of (of_bits binary32 b) ≡ root_units ((b % 8388608 + 8388608) * 2 ^ (b / 8388608 + 127 + 21))
normal_case b h k =
    by_value (of_bits binary32 b) ((8388608 + b % 8388608) * 2 ^ (b / 8388608 - 1)) (normal_value b h k) (mul-pos (lead b) (pow_pos (b / 8388608 - 1)))
    ∙ ap root_units (normal_scale b h)
  where
    lead : (b : ℕ) → 0 < 8388608 + b % 8388608
    lead b = omega arith

-- ---- a subnormal number, brought to 24 digits
pub record Normalized (b k : ℕ) : Type 0 where
  pub low : 1 ≤ k
  pub high : k ≤ 23
  pub least : 8388608 ≤ b * 2 ^ k
  pub most : b * 2 ^ k < 16777216

pub normalize : (b : ℕ) → 0 < b → b < 8388608 → (8 ≤ count_leading_zeros 32 b) × Normalized b (count_leading_zeros 32 b - 8)
normalize b h l =
    let z = leading_top 32 b h (wide l) in
    let j = z.0 in
    let k = count_leading_zeros 32 b - 8 in
    let j-lt : j < 23 = lt_of_not-le (λ (g : 23 ≤ j). not-le_of_lt l (le_trans (pow_mono g) z.2)) in
    let e : j + k ≡ 23 = omega (arith, z.1) in (
      omega (arith, z.1),
      record {
        low = omega arith;
        high = omega arith;
        least = le_trans (le_of_eq (ap (λ (x : ℕ). 2 ^ x) (sym e) ∙ pow-add 2 j k)) (mul-le-mul_right (2 ^ k) z.2);
        most = lt_of_lt_of_le (mul-lt-mul_of_pos_right z.3 (pow_pos k)) (le_of_eq (sym (pow-add 2 (suc j) k) ∙ ap (λ (x : ℕ). 2 ^ x) (up j k e)));
      },
    )
  where
    wide : b < 8388608 → b < 4294967296
    wide h = omega arith

    up : (j k : ℕ) → j + k ≡ 23 → suc j + k ≡ 24
    up j k e = omega arith

pub small_scale : (b k : ℕ) → k ≤ 23 → b * 2 ^ 0 * 2 ^ 149 ≡ b * 2 ^ k * 2 ^ (128 - k + 21)
small_scale b k g = shifted b 0 149 149 refl ∙ sym (shifted b k (128 - k + 21) 149 (omega arith))

pub small_case : (b k : ℕ) → 0 < b → b < 8388608 → k ≤ 23 → root_of (of_bits binary32 b) ≡ root_units (b * 2 ^ k * 2 ^ (128 - k + 21))
small_case b k h l g = by_value (of_bits binary32 b) (b * 2 ^ 0) (small_value b l) (mul-pos h (pow_pos 0)) ∙ ap root_units (small_scale b k g)
