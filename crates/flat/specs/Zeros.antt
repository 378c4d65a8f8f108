-- For the proofs: nothing here must be believed.
-- What is at or below zero stays so: a number less one that it does not exceed, and its product with a positive number. And the larger of such a
-- number and zero is a zero. Assumes nothing.
use Rattle.std.specs.Prelude.{◌≡◌, refl, Bool, true, false, not, cond, ◌&&◌, ◌||◌, ℕ, zero, suc, ◌+◌, ◌-◌, ◌*◌, ◌^◌, ◌≤◌, ◌<◌, ℤ, pos, T, ltb, eqb, Float}
use Rattle.std.proofs.Common.{sym, subst, mul-pos, arith, ltb→lt, nltb→le, eqb→eq}
use Rattle.std.proofs.Math.Dec.{eqb-suc-zero}
use Rattle.std.specs.Float.{nan, inf, fin, binary32}
use Rattle.std.specs.Float.Ieee.{up, down, odd, units, round, sum, add, sub, mul, neg, lt, le, is_nan}
use Rattle.std.specs.Float.Ieee.Fits.{up_pos, down_pos, and_l, eq→eqb, round_is}
use Rattle.std.specs.Float.Ieee.Order.{drop, kept}
use Rattle.bits.specs.Zeros.{Zero, zero_factor, round-zero, zero-product, zero_times, or_r}
use Rattle.lane.specs.Lane.{is_minus_zero, max_of, min_of}
use Rattle.lane.specs.Order.{max_in01, min_in01, max_moved}
use Rattle.lane.proofs.Compared.{min_other}

-- ---- at or below zero, and no NaN
abbrev pub non_positive : Float → Bool
non_positive nan = false
non_positive (inf s) = s
non_positive (fin s m e) = s || eqb m 0

of_zero : (x : Float) → Zero x → T (non_positive x)
of_zero nan z = absurd z
of_zero (inf s) z = absurd z
of_zero (fin s m e) z = or_r s (eqb m 0) (eq→eqb z)

odd_negative : (d q k l : ℕ) → T (non_positive (odd d true q k l))
unfolding odd
odd_negative d zero k l = tt
odd_negative d (suc q) k l = tt

units_negative : (q k : ℕ) → T (non_positive (units binary32 true q k))
unfolding units
units_negative q k = go (ltb (q * 2 ^ k) (2 ^ 277))
  where
    go : (b : Bool) → T (non_positive (cond b (odd 25 true q k 149) (inf true)))
    go true = odd_negative 25 q k 149
    go false = tt

round_negative : (a c : ℕ) → T (non_positive (round binary32 true a c))
round_negative a c =
    let k = drop 24 (a * 2 ^ 149) c in
    subst (λ (x : Float). T (non_positive x)) (sym (round_is binary32 true a c)) (units_negative (kept 24 (a * 2 ^ 149) c) k)

none_left : (a b : ℕ) → a ≡ b → a - b ≡ 0
none_left a b e = omega arith

-- A less B, for A at most B
sum_below : (A B c : ℕ) → 0 < c → T (ltb A B || (eqb A B && true)) → T (non_positive (sum binary32 false A true B c))
unfolding sum
sum_below A B c C h = go (ltb A B) (ltb B A) h
  where
    go : (l g : Bool) → T (l || (eqb A B && true)) → T (non_positive (cond l (round binary32 true (B - A) c) (round binary32 (false && g) (A - B) c)))
    go true g t = round_negative (B - A) c
    go false g t = of_zero (round binary32 false (A - B) c) (round-zero false (A - B) c C (none_left A B (eqb→eq A B (and_l (eqb A B) true t))))

pub difference : (x : Float) (n : ℕ) (d : ℤ) → T (le x (fin false n d)) → T (non_positive (sub binary32 x (fin false n d)))
unfolding le sub add neg sum
difference nan n d h = absurd h
difference (inf true) n d h = tt
difference (inf false) n d h = absurd h
difference (fin true m e) n d h = round_negative (m * up e * down d + n * up d * down e) (down e * down d)
difference (fin false m e) n d h = sum_below (m * up e * down d) (n * up d * down e) (down e * down d) (mul-pos (down_pos e) (down_pos d)) h

pub product : (x : Float) (n : ℕ) (d : ℤ) → T (non_positive x) → T (non_positive (mul binary32 x (fin false (suc n) d)))
unfolding mul
product nan n d h = absurd h
product (inf true) n d h = rw eqb-suc-zero tt
product (inf false) n d h = absurd h
product (fin true m e) n d h = round_negative (m * up e * (suc n * up d)) (down e * down d)
product (fin false m e) n d h =
    of_zero (mul binary32 (fin false m e) (fin false (suc n) d)) (zero_times (fin false m e) (fin false (suc n) d) (eqb→eq m 0 h) tt)

-- the larger of such a number and zero, and the smaller of a zero and a number that is not negative: as in document 01, or that zero
max_01 : (x : Float) → T (non_positive x) → Zero (max_in01 x (fin false 0 (pos 0)))
unfolding max_in01 is_nan lt
max_01 nan h = absurd h
max_01 (inf true) h = refl
max_01 (inf false) h = absurd h
max_01 (fin true m e) h = go (ltb 0 (m * up e * 1 + 0 * 1 * down e)) (nltb→le 0 (m * up e * 1 + 0 * 1 * down e))
  where
    none : m * up e * 1 + 0 * 1 * down e ≤ 0 → m * up e ≡ 0
    none l = omega arith

    go : (b : Bool) → (T (not b) → m * up e * 1 + 0 * 1 * down e ≤ 0) → Zero (cond b (fin false 0 (pos 0)) (fin true m e))
    go true g = refl
    go false g = zero_factor m (up e) (up_pos e) (none (g tt))
max_01 (fin false m e) h = go (ltb (m * up e * 1) (0 * 1 * down e))
  where
    go : (b : Bool) → Zero (cond b (fin false 0 (pos 0)) (fin false m e))
    go true = refl
    go false = eqb→eq m 0 h

pub max-zero : (x : Float) → T (non_positive x) → Zero (max_of x (fin false 0 (pos 0)))
max-zero x h = subst Zero (sym (max_moved x (fin false 0 (pos 0)))) (go (is_minus_zero x && true))
  where
    go : (b : Bool) → Zero (cond b (fin false 0 (pos 0)) (max_in01 x (fin false 0 (pos 0))))
    go true = refl
    go false = max_01 x h

min_01 : (x : Float) (n : ℕ) (d : ℤ) → Zero x → Zero (min_in01 x (fin false n d))
unfolding min_in01 is_nan lt
min_01 nan n d z = absurd z
min_01 (inf s) n d z = absurd z
min_01 (fin true m e) n d z = z
min_01 (fin false m e) n d z = go (ltb (n * up d * down e) (m * up e * down d)) (ltb→lt (n * up d * down e) (m * up e * down d))
  where
    never : n * up d * down e < m * up e * down d → ⊥
    never l = omega (arith, zero-product m (up e) (down d) z)

    go : (b : Bool) → (T b → n * up d * down e < m * up e * down d) → Zero (cond b (fin false n d) (fin false m e))
    go true g = absurd (never (g tt))
    go false g = z

pub min-zero : (x : Float) (n : ℕ) (d : ℤ) → Zero x → Zero (min_of x (fin false n d))
min-zero x n d z = subst Zero (sym (min_other x (fin false n d) refl)) (min_01 x n d z)
