-- A whole number divided by 2 ^ 20 or -2 ^ 20 is the nearest f32 to that fraction: up to 2 ^ 24 the whole number itself is exact. Assumes nothing.
use mathlib.Core.Path.{◌≡◌, refl, ap, ◌∙◌}
use mathlib.Core.Bool.{Bool, true, false, true≢false}
use Prim.Native.Nat.{ℕ, ◌*◌, ◌≤◌}
use native.Mathlib.Nat.{mul-pos, zero-lt-suc}
use native.Mathlib.Omega.{arith}
use lib.IntN.{pos}
use lib.Ieee.{Float, nan, inf, fin, binary32, unlike, up, down, round, div, neg, of_bits, of_int}
use lib.Ieee.Exact.{HasValue}
use lib.Ieee.Back.{round_whole}
use lib.Ieee.Fits.{down_pos}
use lib.Ieee.Scale.{round_same}

cross : (a n d : ℕ) → a * 1 ≡ n * d → a * 1 * 1048576 ≡ n * (1048576 * d)
cross a n d h = omega (arith, ap (λ (z : ℕ). z * 1048576) h)

sign : (s : Bool) → unlike false s ≡ s
sign true = refl
sign false = refl

over : (s : Bool) (x : Float) (n : ℕ) → HasValue x false n 1 → div binary32 x (fin s 1 (pos 20)) ≡ round binary32 s n 1048576
unfolding div
over s nan n v = absurd v
over s (inf t) n v = absurd v
over s (fin true m e) n v = absurd (true≢false v.0)
over s (fin false m e) n v =
    ap (λ (t : Bool). round binary32 t (m * up e * 1) (1048576 * down e)) (sign s)
    ∙ round_same binary32 s (m * up e * 1) (1048576 * down e) n 1048576 (mul-pos (zero-lt-suc 1048575) (down_pos e)) (zero-lt-suc 1048575) (cross (m * up e) n (down e) v.1)

-- 1233125376 is the pattern of 2 ^ 20
pub whole_over : (n : ℕ) → n ≤ 16777216 → div binary32 (of_int binary32 (pos n)) (of_bits binary32 1233125376) ≡ round binary32 false n 1048576
unfolding of_int of_bits
whole_over n h = over false (round binary32 false n 1) n (round_whole binary32 false n h)

pub whole_over_neg : (n : ℕ) → n ≤ 16777216 → div binary32 (of_int binary32 (pos n)) (neg (of_bits binary32 1233125376)) ≡ round binary32 true n 1048576
unfolding of_int of_bits neg
whole_over_neg n h = over true (round binary32 false n 1) n (round_whole binary32 false n h)
