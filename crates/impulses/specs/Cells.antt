-- The program's cells hold the ring of every rate that it takes (document 01, 'Checked figures': 16,384 cells, rates up to 131,015). An eighth of
-- such a rate is 16,376.875 at most, since products keep the order. Assumes nothing.
use Rattle.std.specs.Prelude.{◌≡◌, ℕ, zero, suc, ◌+◌, ◌-◌, ◌*◌, ◌/◌, ◌<◌, ◌≤◌, true, false, T, refl, Float}
use Rattle.std.proofs.Common.{true≢false, div-lt_iff_lt-mul, arith, pow_mono}
use Rattle.std.specs.Float.{nan, inf, fin, binary32}
use Rattle.std.specs.Float.Ieee.{size, up, down, mul, le, lt, round, is_nan, to_unsigned}
use Rattle.std.specs.Float.Ieee.Digits.{size-le}
use Rattle.std.specs.Float.Ieee.Fits.{down_pos}
use Rattle.std.specs.Float.Ieee.Order.{round_mono}
use Rattle.std.specs.Float.Ieee.Positive.{num, den, positive, between, own_value, values_of_le, mul_mono}
use Rattle.lane.specs.Floats.{◌⊗◌, whole, one}
use Rattle.lines.specs.Lines.{whole_part, rate_refused, max_delay_seconds, next_power, ring_len}
use Rattle.impulses.specs.Impulse.{rate_of, cells, highest_rate}

abbrev RingFits : Type 0
RingFits = (rate : ℕ) → rate_refused (rate_of rate) ≡ false → rate ≤ highest_rate → ring_len (rate_of rate) ≤ cells

-- the whole part of a fraction of 16,376.875 at most
whole_part_lem : (x : Float) → T (positive x) → num x * 8 ≤ 131015 * den x → whole_part x ≤ 16376
unfolding to_unsigned
whole_part_lem nan p h = absurd p
whole_part_lem (inf s) p h = absurd p
whole_part_lem (fin true m e) p h = absurd p
whole_part_lem (fin false m e) p h =
    let u : m * up e / down e < 16377 = (div-lt_iff_lt-mul (down_pos e)).1 (strict (m * up e) (down e) (down_pos e) h) in
    omega arith
  where
    strict : (a d : ℕ) → 0 < d → a * 8 ≤ 131015 * d → a < 16377 * d
    strict a d p h = omega arith

eighth : (rate : ℕ) → 1 ≤ rate → rate ≤ 131015 → whole_part (whole rate ⊗ max_delay_seconds) ≤ 16376
unfolding mul round le
eighth rate l h =
    let a : T (le one (whole rate)) = round_mono binary32 1 1 rate 1 (omega arith) (omega arith) (omega arith) in
    let b : T (le (whole rate) (whole 131015)) = round_mono binary32 rate 1 131015 1 (omega arith) (omega arith) (omega arith) in
    let p : T (positive (whole rate)) = between one (whole rate) (whole 131015) tt tt a b in
    let x = whole rate ⊗ max_delay_seconds in
    let c : T (le (one ⊗ max_delay_seconds) x) = mul_mono binary32 one (whole rate) max_delay_seconds max_delay_seconds tt p tt tt a tt in
    let d : T (le x (whole 131015 ⊗ max_delay_seconds)) = mul_mono binary32 (whole rate) (whole 131015) max_delay_seconds max_delay_seconds p tt tt tt b tt in
    let q : T (positive x) = between (one ⊗ max_delay_seconds) x (whole 131015 ⊗ max_delay_seconds) tt tt c d in
    whole_part_lem x q (values_of_le x (whole 131015 ⊗ max_delay_seconds) (num x) (den x) 131015 8 q tt (own_value x q) (refl, refl) d)

power : (n : ℕ) → n ≤ 16376 → next_power (n + 8) ≤ cells
unfolding next_power
power n h = pow_mono {i = size (n + 8 - 1)} {j = 14} (size-le (n + 8 - 1) 14 (omega arith))

zero_refused : rate_refused (rate_of 0) ≡ true
unfolding rate_refused is_nan lt round
zero_refused = refl

pub ring_fits : RingFits
unfolding ring_len
ring_fits zero h l = let z : true ≡ false = cc zero_refused in absurd (true≢false z)
ring_fits (suc n) h l = rw h (power (whole_part (whole (suc n) ⊗ max_delay_seconds)) (eighth (suc n) (omega arith) l))
