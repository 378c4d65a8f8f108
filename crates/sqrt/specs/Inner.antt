-- For the proofs: nothing here must be believed.
-- What the root's inner functions promise. Definitions only. Assumes nothing.
use Rattle.std.specs.Prelude.{◌≡◌, ℕ, ◌+◌, ◌-◌, ◌*◌, ◌/◌, ◌%◌, ◌^◌, ◌<◌, ◌≤◌, not, T, from_bits, is_nan, to_bits, Float}
use Rattle.std.specs.Float.{binary32}
use Rattle.sqrt.specs.Root.{root_of, root_units}
use Rattle.sqrt.specs.declared.Digits.{Digits}

-- n is the whole number nearest √m, and has 24 digits
pub record NearestWhole (m n : ℕ) : Type 0 where
  pub above : n * (n - 1) < m
  pub below : m ≤ n * (n + 1)
  pub low : 8388608 ≤ n
  pub high : n < 16777216

-- the pattern of a normal number
abbrev pub Normal : ℕ → Type 0
Normal b = (8388608 ≤ b) × (b < 2139095040)

-- its significand, with 23 zeros behind it, or 24 where the exponent is odd
abbrev pub scaled : ℕ → ℕ
scaled b = (b % 8388608 + 8388608) * 2 ^ (24 - b / 8388608 % 2)

-- r is from 1 up, below 2, and its 24 digits are the whole number nearest √m. 1056964608 + 2 ^ 23 is the pattern of 1.
pub record HasRoot (m : ℕ) (r : Float) : Type 0 where
  pub n : ℕ
  pub nearest : NearestWhole m n
  pub number : T (not (is_nan r))
  pub pattern : to_bits binary32 r ≡ 1056964608 + n

-- the root of the number with pattern b, by its digits and its exponent
pub record DigitsOf (b : ℕ) (d : Digits) : Type 0 where
  pub least : 8388608 ≤ d.m
  pub most : d.m < 16777216
  pub low : 105 ≤ d.e
  pub high : d.e ≤ 381
  pub is : root_of (from_bits binary32 b) ≡ root_units (d.m * 2 ^ (d.e + 21))
