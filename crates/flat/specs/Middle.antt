-- An instance of `flat`, by computation: at the middle itself, 440 Hz at 48 kHz and no resonance, a sample of 1 into silence meets
-- its conditions, and the first state moves. Assumes nothing.
use Rattle.std.specs.Prelude.{◌≡◌, refl, true, false, List, replicate, Float}
use Rattle.std.specs.Float.Ieee.{round, sum, add, sub, mul, div, neg, lt, eq, le, is_nan}
use Rattle.std.specs.Float.Ieee.Scale.{finite}
use Rattle.lane.specs.Floats.{◌⊖◌, ◌⊘◌, ◌‼◌, whole, zero, one}
use Rattle.lane.specs.Lane.{is_below, max_of, min_of, exp2_of, tan_of}
use Rattle.filter.specs.declared.Pitch.{Pitch}
use Rattle.filter.specs.declared.Ratio.{Ratio}
use Rattle.filter.specs.Filter.{svf_of, gain_of, gain_at, ratio_of, ratio_at, octaves_of}
use Rattle.extended.specs.declared.Settings.{Settings}
use Rattle.extended.specs.Extended.{abs_of, unit_or0}
use Rattle.sweeps.specs.declared.DjSweep.{DjSweep}
use Rattle.sweeps.specs.Sweeps.{neutral_pitch, dj_distance, dj_depth, dj_pitch, dj_k, dj_with, dj_coefficients, dj_stage, dj_filtered, dj_step}
use Rattle.flat.specs.Flat.{near_middle, is_zero}

abbrev pub middle : Pitch
middle = record { 0 = neutral_pitch }

abbrev pub settings : Settings
settings =
    let ratio : Ratio = record { 0 = whole 440 ⊘ whole 48000 } in
    record {
      resonance = zero;
      inv_knee = one;
      character = zero;
      x = zero;
      y = zero;
      z = zero;
      ref_over_rate = ratio;
      reference_ratio = ratio;
      chord = record { count = 0; offsets = replicate 8 zero };
    }

abbrev pub zero_states : List Float
zero_states = replicate 20 zero

unfoldable pub coefficients : DjSweep
unfolding dj_coefficients dj_with dj_distance dj_depth dj_pitch dj_k gain_of gain_at ratio_of ratio_at octaves_of exp2_of tan_of
    unit_or0 abs_of max_of min_of is_below is_nan neg lt mul sub add sum div round
coefficients = dj_coefficients middle settings

pub near : near_middle middle ≡ true
unfolding near_middle dj_distance abs_of max_of min_of is_below is_nan neg lt eq le mul sub add sum div round
near = refl

pub difference_finite : finite (dj_filtered coefficients one (dj_stage coefficients zero_states one) ⊖ one) ≡ true
unfolding coefficients dj_filtered dj_stage svf_of
difference_finite = refl

pub state_moves : is_zero ((dj_step coefficients zero_states one).state ‼ 0) ≡ false
unfolding coefficients is_zero eq dj_step svf_of dj_stage
state_moves = refl
