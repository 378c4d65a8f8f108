-- For the proofs: nothing here must be believed.
-- A ring's length: an eighth of an accepted rate has a whole part from 1,000 to 48,000, as products keep the order; and the next
-- power of two goes by the number of binary digits. Assumes nothing.
use Rattle.std.specs.Prelude.{◌≡◌, ℕ, zero, suc, ◌-◌, ◌*◌, ◌/◌, max, ◌^◌, ◌<◌, ◌≤◌, Bool, true, false, ◌||◌, T, refl, Float}
use Rattle.std.proofs.Common.{sym, ◌∙◌, ap, subst, true≢false, le_trans, lt_of_lt_of_le, lt_of_not-le, lt_irrefl, le_antisymm, arith, pow_mono}
use Rattle.std.proofs.Math.Nat.{pow-succ'}
use Rattle.std.specs.Float.{binary32}
use Rattle.std.specs.Int.{IsPowerOfTwo}
use Rattle.std.specs.Float.Ieee.{size, mul, le, lt, round, is_nan}
use Rattle.std.specs.Float.Ieee.Digits.{size-lt, size-le}
use Rattle.std.specs.Float.Ieee.Positive.{positive, between, mul_mono}
use Rattle.lane.specs.Floats.{◌⊗◌, whole}
use Rattle.lines.specs.Lines.{rate_refused, max_delay_seconds, next_power}
use Rattle.lines.specs.Order.{le_is}
use Rattle.lines.specs.Whole.{Between, between_wholes}

pub power-is : (n j : ℕ) → 2 ^ j < n → n ≤ 2 ^ suc j → 2 ^ suc j ≡ next_power n
unfolding next_power
power-is n j a b =
    let hi : size (n - 1) ≤ suc j = size-le (n - 1) (suc j) (fewer n (2 ^ j) (2 ^ suc j) a b) in
    let lo : suc j ≤ size (n - 1)
    = lt_of_not-le (λ (h : size (n - 1) ≤ j). lt_irrefl (n - 1) (lt_of_lt_of_le (size-lt (n - 1)) (le_trans (pow_mono h) (least n (2 ^ j) a)))) in
    ap (λ (z : ℕ). 2 ^ z) (le_antisymm lo hi)
  where
    fewer : (n p q : ℕ) → p < n → n ≤ q → n - 1 < q
    fewer n p q a b = omega arith

    least : (n p : ℕ) → p < n → p ≤ n - 1
    least n p h = omega arith

-- what the library's method answers is the least power of two that is n at least
pub next_is : (n r : ℕ) → 2 ≤ n → IsPowerOfTwo r → n ≤ r → r / 2 < max 1 n → r ≡ next_power n
next_is n r two (zero, e) a b = absurd (contradiction e a)
  where
    contradiction : r ≡ 2 ^ 0 → n ≤ r → ⊥
    contradiction e a = omega arith
next_is n r two (suc j, e) a b = e ∙ power-is n j (half (2 ^ j) (e ∙ power)) (subst (λ (z : ℕ). n ≤ z) e a)
  where
    power : 2 ^ suc j ≡ 2 * 2 ^ j
    power = pow-succ' 2 j

    half : (p : ℕ) → r ≡ 2 * p → p < n
    half p e = omega arith

abbrev low : Float
low = whole 8000

abbrev high : Float
high = whole 384000

-- neither NaN, nor below the one, nor above the other
record Accepted (rate : Float) : Type 0 where
  number : is_nan rate ≡ false
  above : lt rate low ≡ false
  below : lt high rate ≡ false

accepted : (rate : Float) → rate_refused rate ≡ false → Accepted rate
unfolding rate_refused
accepted rate h = go (is_nan rate) (lt rate low) (lt high rate) refl refl refl h
  where
    go : (x y z : Bool) → is_nan rate ≡ x → lt rate low ≡ y → lt high rate ≡ z → x || y || z ≡ false → Accepted rate
    go true y z p q r e = absurd (true≢false e)
    go false true z p q r e = absurd (true≢false e)
    go false false true p q r e = absurd (true≢false e)
    go false false false p q r e = record { number = p; above = q; below = r }

holds : (x y : Float) → is_nan x ≡ false → is_nan y ≡ false → lt x y ≡ false → T (le y x)
holds x y p q r = subst T (sym (rw r at (le_is x y p q))) tt

pub eighth : (rate : Float) → rate_refused rate ≡ false → Between 1000 48000 (rate ⊗ max_delay_seconds)
unfolding mul le round is_nan
eighth rate h =
    let g = accepted rate h in
    let a : T (le low rate) = holds rate low g.number refl g.above in
    let b : T (le rate high) = holds high rate refl g.number g.below in
    let p : T (positive rate) = between low rate high tt tt a b in
    between_wholes 1000 48000 (rate ⊗ max_delay_seconds) (omega arith) (omega arith) (omega arith)
    (mul_mono binary32 low rate max_delay_seconds max_delay_seconds tt p tt tt a tt)
    (mul_mono binary32 rate high max_delay_seconds max_delay_seconds p tt tt tt b tt)
