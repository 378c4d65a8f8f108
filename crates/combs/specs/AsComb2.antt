-- "With offsets 0 and twice the smoothed character, a tick equals Comb2's" (document 02, C-18): of the two kernels, in sample, ring and count.
-- The frame, with its cursor, is run/specs/AsComb2. Assumes nothing.
use Rattle.std.specs.Prelude.{◌≡◌, Bool, true, false, List, T, Float}
use Rattle.std.proofs.Math.Path.{refl, ap}
use Rattle.std.proofs.Common.{◌∙◌, arith}
use Prim.Native.Nat.{ℕ, ◌+◌, ◌*◌, min}
use Rattle.std.specs.Float.{binary32}
use Rattle.std.specs.Float.Ieee.{fits, is_nan, lt, round, add, mul, div, neg}
use Rattle.std.specs.Float.Ieee.Fits.{cond-fits, mul-fits, div-fits}
use Rattle.bits.specs.Values.{times_one}
use Rattle.lane.specs.Floats.{◌⊕◌, ◌⊗◌, ◌⊘◌, ◌‼◌, whole, one, two, half}
use Rattle.lane.specs.Lane.{is_below, max_of, min_of, exp2_of, tan_limit, pi}
use Rattle.lane.specs.Order.{zero_of}
use Rattle.filter.specs.declared.Pitch.{Pitch}
use Rattle.filter.specs.Filter.{ratio_limit, octaves_of, ratio_at, ratio_of, once}
use Rattle.lines.specs.Lines.{ring_read}
use Rattle.extended.specs.declared.Chord.{Chord}
use Rattle.extended.specs.declared.Settings.{Settings}
use Rattle.teeth.specs.Teeth.{teeth_of, tooth_delay, taps_at, taps_sum, taps_mean}
use Rattle.combs.specs.Combs.{feedback_path, comb_end, comb_with, comb_coefficients, comb_over, comb_taps, comb_step}
use Rattle.combs.specs.Combs.{comb_ratio, chord_step, chord_over}

-- two teeth: offset 0, of either sign, and twice the character
pub record TwoTeeth (c : Chord) (character : Float) : Type 0 where
  pub count_is : c.count ≡ 2
  pub sign : Bool
  pub first : c.offsets ‼ 0 ≡ zero_of sign
  pub second : c.offsets ‼ 1 ≡ character ⊗ two

twice : (n : ℕ) → 2 * n ≡ n + n
twice n = omega arith

-- no octave is a factor of 1
no_octave : (s : Bool) → exp2_of (zero_of s) ≡ one
unfolding exp2_of max_of min_of is_below is_nan lt round add mul div neg
no_octave true = refl
no_octave false = refl

-- a ratio is an f32
ratio_fits : (pitch : Pitch) (p : Settings) → T (fits binary32 (comb_ratio pitch p))
unfolding comb_ratio ratio_of ratio_at min_of
ratio_fits pitch p =
    let a = exp2_of (octaves_of pitch) ⊗ p.reference_ratio.0 in
    let left = mul-fits binary32 (exp2_of (octaves_of pitch)) p.reference_ratio.0 in
    let right = div-fits binary32 tan_limit pi in
    cond-fits binary32 (is_nan a) ratio_limit _ right
    (cond-fits binary32 (is_nan ratio_limit) a _ left (cond-fits binary32 (is_below ratio_limit a) ratio_limit a right left))

by_one : (x : Float) → T (fits binary32 x) → x ⊗ one ≡ x
unfolding round
by_one x h = times_one x h

half_is : one ⊘ whole 2 ≡ half
unfolding div round
half_is = refl

module _ (c : Chord) (character : Float) (h : TwoTeeth c character) where
  teeth_are_two : teeth_of c ≡ 2
  unfolding teeth_of
  teeth_are_two = ap (λ (n : ℕ). min n 8) h.count_is

  -- the mean of the two taps
  mean : (read : Float → Float) (ratio : Float) → T (fits binary32 ratio)
      → taps_mean (teeth_of c) (taps_at read ratio c) ≡ (read (one ⊘ ratio) ⊕ read (one ⊘ (ratio ⊗ exp2_of (character ⊗ two)))) ⊗ half
  unfolding taps_sum taps_mean taps_at tooth_delay
  mean read ratio f = rw (teeth_are_two, teeth_are_two, h.first, h.second, no_octave h.sign, by_one ratio f, half_is) refl

module _ (pitch : Pitch) (p : Settings) (h : TwoTeeth p.chord p.character) where
  pub step_as_comb : (len cursor : ℕ) (ring : List Float) (x : Float)
      → chord_step (feedback_path p) (comb_ratio pitch p) p.chord len cursor ring x ≡ comb_step (comb_coefficients pitch p) len cursor ring x
  unfolding chord_step comb_step comb_taps comb_coefficients comb_with
  step_as_comb len cursor ring x =
      ap (λ (taps : Float). comb_end (feedback_path p) len cursor ring taps x)
      (mean p.chord p.character h (λ delay. ring_read len cursor delay ring) (comb_ratio pitch p) (ratio_fits pitch p))

  pub over_as_comb : chord_over pitch p ≡ once (comb_over pitch p) + once (comb_over pitch p)
  unfolding chord_over
  over_as_comb =
      ap (λ (n : ℕ). n * once (comb_over pitch p)) (teeth_are_two p.chord p.character h) ∙ twice (once (comb_over pitch p))
