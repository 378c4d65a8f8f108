-- A float from 1/64 up and below 64: its bit pattern, its value in units of 2 ^ -149, and the definition's log2 at it.
-- The two comparisons bound the value, the value bounds the exponent field, and that the pattern. Assumes nothing.
use mathlib.Core.Path.{◌≡◌, refl, sym, ap, ◌∙◌, subst}
use mathlib.Core.Logic.{◌⊎◌, inl, inr}
use mathlib.Core.Bool.{Bool, true, false, cond, ◌&&◌, ◌||◌, true≢false, false≢true, not}
use Prim.Native.Nat.{ℕ, suc, ◌+◌, ◌-◌, ◌*◌, ◌/◌, ◌%◌, ◌^◌, ◌≤◌, ◌<◌}
use native.Mathlib.Nat.{add_comm, le_trans, le_of_eq, lt_of_lt_of_le, lt_of_le_of_lt, lt_of_not-le, not-le_of_lt, lt_irrefl, mul-div_cancel, mul-le-mul_right, mul-lt-mul_of_pos_right, le_of_mul-le-mul_right, lt_of_mul-lt-mul_right, mul-one, le_of_suc-le-suc}
use native.Mathlib.Omega.{arith}
use lib.IntN.{ℤ, pos, ◌+ℤ◌, ◌*ℤ◌}
use lib.Dec.{T, leb, ltb→lt, lit≤}
use lib.Pow.{pow_pos, pow-add, pow_mono, shl_lt}
use lib.Ieee.{Float, nan, inf, fin, binary32, up, down, minus, size, le, lt, of_bits, to_bits, fits, is_nan}
use lib.Ieee.Bits.{of_bits-to_bits, is_true}
use lib.Ieee.Digits.{size-lt, size-le}
use lib.Ieee.Exact.{HasValue, odd_sign}
use lib.Ieee.Fits.{down_pos}
use lib.Ieee.Positive.{num, den, positive, le→cross, between, value→cross, den_pos}
use borrow.Author.Tests.{leb-true, leb-false}
use Rattle.log2.specs.Log2.{rounds, quotient, units_of, log_units, log_of, sixty_fourth, sixty_four}
use Rattle.log2.specs.Inner.{offset}
use Rattle.log2.proofs.Rounds.{rounds_lt}
use Rattle.log2.proofs.Numerator.{numerator}
use Rattle.bits.specs.Patterns.{normal, small_is, bits_under}

-- ---- what the two tests say
or_left : (a b : Bool) → T a → T (a || b)
or_left true b t = tt
or_left false b t = absurd t

lt-le : (x y : Float) → T (lt x y) → T (le x y)
unfolding le
lt-le x y h = or_left (lt x y) (lib.Ieee.eq x y) h

above_zero : (q : Float) → T (le sixty_fourth q) → T (lt q sixty_four) → T (positive q)
unfolding lib.Ieee.round
above_zero q a b = between sixty_fourth q sixty_four tt tt a (lt-le q sixty_four b)

under : (q : Float) → T (positive q) → T (lt q sixty_four) → num q < 64 * den q
unfolding lt lib.Ieee.round
under nan p h = absurd p
under (inf s) p h = absurd p
under (fin true m e) p h = absurd p
under (fin false m e) p h = let k = ltb→lt (m * up e * 1) (64 * down e) h in simpler (m * up e) (down e) k
  where
    simpler : (n d : ℕ) → n * 1 < 64 * d → n < 64 * d
    simpler n d h = omega arith

-- ---- in smallest values
-- `omega` takes no number of more than 38 digits, so the powers are variables here
multiplied : (d n P : ℕ) → d ≤ n * 64 → P * d ≤ n * (64 * P)
multiplied d n P h = omega (arith, mul-le-mul_right P h)

multiplied_lt : (d n P : ℕ) → 0 < P → n < 64 * d → n * P < 64 * P * d
multiplied_lt d n P p h = omega (arith, mul-lt-mul_of_pos_right h p)

least : (n d X : ℕ) → 0 < d → d ≤ n * 64 → n * 2 ^ 149 ≡ X * d → 2 ^ 143 ≤ X
least n d X dp h e = le_of_mul-le-mul_right (le_trans (scaled d n h) (le_of_eq e)) dp
  where
    scaled : (d n : ℕ) → d ≤ n * 64 → 2 ^ 143 * d ≤ n * 2 ^ 149
    scaled d n h = multiplied d n (2 ^ 143) h

most : (n d X : ℕ) → n < 64 * d → n * 2 ^ 149 ≡ X * d → X < 2 ^ 155
most n d X h e = lt_of_mul-lt-mul_right d (lt_of_le_of_lt (le_of_eq (sym e)) (scaled d n h))
  where
    scaled : (d n : ℕ) → n < 64 * d → n * 2 ^ 149 < 2 ^ 155 * d
    scaled d n h = multiplied_lt d n (2 ^ 149) (pow_pos 149) h

record Sized (X : ℕ) : Type 0 where
  low : 2 ^ 143 ≤ X
  high : X < 2 ^ 155

units_are : (q : Float) (X : ℕ) → HasValue q false X (2 ^ 149) → units_of q ≡ X
units_are nan X v = absurd v
units_are (inf s) X v = absurd v
units_are (fin s m e) X v = ap (λ (z : ℕ). z / down e) v.1 ∙ mul-div_cancel X (down_pos e)

sized : (q : Float) (X : ℕ) → T (le sixty_fourth q) → T (lt q sixty_four) → HasValue q false X (2 ^ 149) → Sized X
unfolding lib.Ieee.round
sized q X a b v =
    let p = above_zero q a b in
    let e = value→cross q X (2 ^ 149) v in
    record {
      low = least (num q) (den q) X (den_pos q) (drop_one (num q) (den q) (le→cross sixty_fourth q tt p a)) e;
      high = most (num q) (den q) X (under q p b) e;
    }
  where
    drop_one : (n d : ℕ) → 1 * d ≤ n * 64 → d ≤ n * 64
    drop_one n d h = omega arith

-- ---- the bits
pub record Window (q : Float) (b : ℕ) : Type 0 where
  pub low : 1015021568 ≤ b
  pub high : b < 1115684864
  pub value : HasValue q false ((8388608 + b % 8388608) * 2 ^ (b / 8388608 - 1)) (2 ^ 149)

at_least : (t k : ℕ) → t < 16777216 → 2 ^ 143 ≤ t * 2 ^ k → 120 ≤ k
at_least t k h g = le_of_suc-le-suc (lt_of_not-le {n = suc k} {m = 120} (λ (w : suc k ≤ 120). not-le_of_lt (lt_of_lt_of_le (shl_lt 24 k h) (pow_mono {i = 24 + k} {j = 143} (fewer k w))) g))
  where
    fewer : (k : ℕ) → suc k ≤ 120 → 24 + k ≤ 143
    fewer k w = omega arith

at_most : (t k : ℕ) → 8388608 ≤ t → t * 2 ^ k < 2 ^ 155 → k < 132
at_most t k h g = lt_of_not-le (λ (w : 132 ≤ k). not-le_of_lt g (le_trans (pow_mono {i = 155} {j = 23 + k} (more k w)) (le_trans (le_of_eq (pow-add 2 23 k)) (mul-le-mul_right (2 ^ k) h))))
  where
    more : (k : ℕ) → 132 ≤ k → 155 ≤ 23 + k
    more k w = omega arith

from_bits : (b : ℕ) → b < 2139095040 → T (le sixty_fourth (of_bits binary32 b)) → T (lt (of_bits binary32 b) sixty_four) → Window (of_bits binary32 b) b
from_bits b h l g = go (leb 8388608 b) refl
  where
    go : (t : Bool) → leb 8388608 b ≡ t → Window (of_bits binary32 b) b
    go true t =
        let n = leb-true 8388608 b t in
        let m = 8388608 + b % 8388608 in
        let k = b / 8388608 - 1 in
        let w = subst (λ (x : Float). HasValue x false (m * 2 ^ k) (2 ^ 149)) (sym (normal b n h)) (odd_sign 24 false m k 149) in
        let v = sized (of_bits binary32 b) (m * 2 ^ k) l g w in
        let lo : 120 ≤ k = at_least m k (omega arith) v.low in
        let hi : k < 132 = at_most m k (omega arith) v.high in
        record { low = omega arith; high = omega arith; value = w }
    go false t =
        let n = leb-false 8388608 b t in
        let v = sized (of_bits binary32 b) (b * 2 ^ 0) l g (subst (λ (x : Float). HasValue x false (b * 2 ^ 0) (2 ^ 149)) (sym (small_is b n)) (odd_sign 24 false b 0 149)) in
        absurd (tiny v.low n)
      where
        tiny : 2 ^ 143 ≤ b * 1 → b < 8388608 → ⊥
        tiny h g = not-le_of_lt (lt_of_le_of_lt (le_of_eq (mul-one b)) (lt_of_lt_of_le g (lit≤ tt))) h

-- at the definition's ends, and at the code's, which are given by their bit patterns
pub window : (q : Float) → T (fits binary32 q) → T (le sixty_fourth q) → T (lt q sixty_four) → Window q (to_bits binary32 q)
window q f l g =
    let e = of_bits-to_bits binary32 q f in
    subst (λ (x : Float). Window x (to_bits binary32 q)) e
    (from_bits (to_bits binary32 q) (bits_under (to_bits binary32 q) (subst (λ (x : Float). T (positive x)) (sym e) (above_zero q l g)))
    (subst (λ (x : Float). T (le sixty_fourth x)) (sym e) l) (subst (λ (x : Float). T (lt x sixty_four)) (sym e) g))

pub code_window : (q : Float) → T (fits binary32 q) → le (of_bits binary32 1015021568) q ≡ true → lt q (of_bits binary32 1115684864) ≡ true → Window q (to_bits binary32 q)
unfolding of_bits lib.Ieee.round
code_window q f a b = window q f (subst T (sym a) tt) (subst T (sym b) tt)

pub window_plain : (q : Float) → le (of_bits binary32 1015021568) q ≡ true → T (not (is_nan q))
unfolding le of_bits is_nan
window_plain nan a = absurd (false≢true a)
window_plain (inf s) a = tt
window_plain (fin s m e) a = tt

-- ---- the definition at such bits
between_sizes : (k z : ℕ) → 23 + k < z → z ≤ 24 + k → z - 24 ≡ k
between_sizes k z a b = omega arith

dropped : (m k : ℕ) → 8388608 ≤ m → m < 16777216 → size (m * 2 ^ k) - 24 ≡ k
dropped m k a b =
    let s = m * 2 ^ k in
    let lo : 2 ^ (23 + k) ≤ s = le_trans (le_of_eq (pow-add 2 23 k)) (mul-le-mul_right (2 ^ k) a) in
    between_sizes k (size s) (lt_of_not-le (λ (h : size s ≤ 23 + k). lt_irrefl s (lt_of_lt_of_le (size-lt s) (le_trans (pow_mono h) lo)))) (size-le s (24 + k) (shl_lt 24 k b))

units_log : (m k : ℕ) → 8388608 ≤ m → m < 16777216 → k < 149 → log_units (m * 2 ^ k) ≡ offset (k * 1048576 + rounds 20 (128 * m) 0)
unfolding log_units
units_log m k a b h =
    ap (λ (z : ℕ). quotient ((minus z 149 +ℤ pos 23) *ℤ pos 1048576 +ℤ pos (rounds 20 (128 * (m * 2 ^ k / 2 ^ z)) 0)) 1048576) (dropped m k a b)
    ∙ ap (λ (z : ℕ). quotient ((minus k 149 +ℤ pos 23) *ℤ pos 1048576 +ℤ pos (rounds 20 (128 * z) 0)) 1048576) (mul-div_cancel m (pow_pos k))
    ∙ ap (λ (z : ℤ). quotient z 1048576) (numerator k (rounds 20 (128 * m) 0) h (rounds_lt 20 (128 * m) 0))

both : (x y : Bool) (n z : Float) → x ≡ true → y ≡ true → cond (x && y) n z ≡ n
both true true n z a b = refl
both true false n z a b = absurd (false≢true b)
both false y n z a b = absurd (false≢true a)

neither : (x y : Bool) (n z : Float) → (x ≡ false) ⊎ (y ≡ false) → cond (x && y) n z ≡ z
neither true true n z (inl a) = absurd (true≢false a)
neither true true n z (inr a) = absurd (true≢false a)
neither true false n z a = refl
neither false y n z a = refl

pub log_is : (q : Float) (b : ℕ) → T (le sixty_fourth q) → T (lt q sixty_four) → Window q b
    → log_of q ≡ offset ((b / 8388608 - 1) * 1048576 + rounds 20 (128 * (8388608 + b % 8388608)) 0)
unfolding log_of
log_is q b a c w =
    let m = 8388608 + b % 8388608 in
    let k = b / 8388608 - 1 in
    let hi = w.high in
    both (le sixty_fourth q) (lt q sixty_four) (log_units (units_of q)) (fin false 0 (pos 0)) (is_true _ a) (is_true _ c)
    ∙ ap log_units (units_are q (m * 2 ^ k) w.value)
    ∙ units_log m k (omega arith) (omega arith) (omega arith)

pub code_log : (q : Float) (b : ℕ) → le (of_bits binary32 1015021568) q ≡ true → lt q (of_bits binary32 1115684864) ≡ true → Window q b
    → offset ((b / 8388608 - 1) * 1048576 + rounds 20 (128 * (b % 8388608 + 8388608)) 0) ≡ log_of q
unfolding of_bits lib.Ieee.round
code_log q b a c w =
    ap (λ (z : ℕ). offset ((b / 8388608 - 1) * 1048576 + rounds 20 (128 * z) 0)) (add_comm (b % 8388608) 8388608)
    ∙ sym (log_is q b (subst T (sym a) tt) (subst T (sym c) tt) w)

pub no_log : (q : Float) → (le (of_bits binary32 1015021568) q ≡ false) ⊎ (lt q (of_bits binary32 1115684864) ≡ false) → of_bits binary32 0 ≡ log_of q
unfolding of_bits log_of
no_log q h = sym (neither (le sixty_fourth q) (lt q sixty_four) (log_units (units_of q)) (fin false 0 (pos 0)) h)
