-- What every extended kernel works with (extended.rs; document 02, C-17, C-18): one tick's settings, the shapers, the marks of each structure.
-- Definitions only. Assumes nothing.
use Rattle.std.specs.Prelude.{ℕ, Bool, ◌||◌, ◌&&◌, List, eqb, leb, Float}
use Rattle.std.specs.Float.Ieee.{neg}
use Rattle.lane.specs.Floats.{◌⊕◌, ◌⊖◌, ◌⊗◌, ◌⊘◌, ◌‼◌, decimal, whole, zero, one}
use Rattle.lane.specs.Lane.{max_of, min_of, soft_clip}
use Rattle.filter.specs.declared.Ratio.{Ratio}
use Rattle.filter.specs.Voice.{RES, INV_KNEE, CHARACTER, MORPH_Z}
use Rattle.extended.specs.declared.Chord.{Chord}
use Rattle.extended.specs.declared.Settings.{Settings}

-- what a kernel's tick gives: its sample, and its 20 states after it
pub record Ticked : Type 0 where
  pub out : Float
  pub state : List Float

abbrev pub ticked : Float → List Float → Ticked
ticked out state = record { out = out; state = state }

-- one tick's settings: from the smoothed numbers, and x and y after steering and lag. z (C-17) is the smoothed one, without either; PoleZero holds it to
-- 0 .. 1. The chord (C-18) is the setup's
unfoldable pub settings_at : Ratio → Chord → (params : List Float) (x y : Float) → Settings
settings_at reference chord params x y =
    record {
      resonance = params ‼ RES;
      inv_knee = params ‼ INV_KNEE;
      character = params ‼ CHARACTER;
      x = x;
      y = y;
      z = params ‼ MORPH_Z;
      ref_over_rate = reference;
      reference_ratio = reference;
      chord = chord;
    }

-- unit: held to 0 .. 1 by max and min, so a NaN becomes 0
unfoldable pub unit_or0 : Float → Float
unit_or0 x = min_of (max_of x zero) one

-- abs
unfoldable pub abs_of : Float → Float
abs_of x = max_of x (neg x)

-- ASYM_BIAS and ASYM_SLOPE
abbrev pub asym_bias : Float
asym_bias = decimal 3 10

unfoldable pub asym_slope : Float
asym_slope =
    let x = asym_bias in
    let x2 = x ⊗ x in
    let den = whole 27 ⊕ whole 9 ⊗ x2 in
    ((whole 27 ⊕ whole 3 ⊗ x2) ⊗ den ⊖ x ⊗ (whole 27 ⊕ x2) ⊗ whole 18 ⊗ x) ⊘ (den ⊗ den)

-- asym: an asymmetric soft clipper with unity slope at zero
unfoldable pub asym_of : Float → Float
asym_of x = (soft_clip (x ⊕ asym_bias) ⊖ soft_clip asym_bias) ⊗ (one ⊘ asym_slope)

-- SMOOTH: TransistorLadder (DRIVEN false), both DiodeLadders, PoleZero
unfoldable pub smooth_mark : ℕ → Bool
smooth_mark code = leb 4 code && leb code 6 || eqb code 8

-- LINES: Comb2 and the chord comb (C-18)
unfoldable pub lines_mark : ℕ → Bool
lines_mark code = eqb code 9 || eqb code 13
