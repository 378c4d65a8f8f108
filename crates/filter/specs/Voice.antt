-- One voice's settings and the eleven numbers that a bank smooths towards (mod.rs; document 02, C-17). Definitions only. Assumes nothing.
use Rattle.std.specs.Prelude.{List, [], ◌∷◌, ◌++◌, Bool, cond, ◌||◌, ℕ, Float}
use Rattle.std.specs.Float.{nan, inf, fin}
use Rattle.std.specs.Float.Ieee.{is_nan}
use Rattle.lane.specs.Floats.{◌⊗◌, ◌⊘◌, decimal, whole, zero, one}
use Rattle.lane.specs.Lane.{max_of, clamp_of, exp2_of, pow10_of}
use Rattle.filter.specs.declared.VoiceParams.{VoiceParams}

-- VoiceParams::default
unfoldable pub default_params : VoiceParams
default_params =
    record {
      resonance = decimal 1 10;
      drive = zero;
      saturation = zero;
      character = zero;
      stereo_offset = zero;
      mix = one;
      level = one;
      morph_x = zero;
      morph_y = zero;
      morph_z = zero;
    }

-- held to 0 .. 1 by Rust's clamp: a NaN stays NaN
unfoldable pub unit_or_nan : Float → Float
unit_or_nan v = clamp_of v zero one

-- DRIVE_DB = 24: the drive's gain into the clipper
unfoldable pub drive_gain : Float → Float
drive_gain drive = pow10_of (drive ⊗ whole 24) (whole 20)

-- SATURATION_OCTAVES = 5, SATURATION_KNEE = 3: one over the resonance saturator's knee
unfoldable pub inverse_knee : Float → Float
inverse_knee saturation = exp2_of (saturation ⊗ whole 5) ⊘ whole 3

-- a NaN or an infinity becomes 0
unfoldable pub finite_or0 : Float → Float
finite_or0 nan = zero
finite_or0 (inf s) = zero
finite_or0 (fin s m e) = fin s m e

-- the level: a NaN or an infinity becomes 0, any other number max(level, 0)
unfoldable pub level_of : Float → Float
level_of nan = zero
level_of (inf s) = zero
level_of (fin s m e) = max_of (fin s m e) zero

-- targets_of, in the order of RES to CHARACTER
unfoldable pub targets_of : VoiceParams → List Float
targets_of p =
    unit_or_nan p.resonance
    ∷ unit_or_nan p.drive
    ∷ drive_gain (unit_or_nan p.drive)
    ∷ inverse_knee (unit_or_nan p.saturation)
    ∷ finite_or0 p.stereo_offset
    ∷ unit_or_nan p.mix
    ∷ level_of p.level
    ∷ unit_or_nan p.character
    ∷ []

-- a NaN becomes 0, else clamped to 0 .. 1
unfoldable pub morph_of : Float → Float
morph_of v = cond (is_nan v) zero (unit_or_nan v)

-- morph_targets_of
unfoldable pub morph_targets_of : VoiceParams → List Float
morph_targets_of p = morph_of p.morph_x ∷ morph_of p.morph_y ∷ []

-- a voice's eleven targets: 8 of targets_of, 2 of morph_targets_of, and z (C-17), treated as morph is
unfoldable pub voice_targets : VoiceParams → List Float
unfolding targets_of morph_targets_of
voice_targets p = targets_of p ++ morph_targets_of p ++ morph_of p.morph_z ∷ []

-- where each stands in targets (mod.rs; MORPH_X and MORPH_Y of extended.rs stand after the eight), all but z in a record too
abbrev pub RES : ℕ
RES = 0

abbrev pub DRIVE : ℕ
DRIVE = 1

abbrev pub DRIVE_GAIN : ℕ
DRIVE_GAIN = 2

abbrev pub INV_KNEE : ℕ
INV_KNEE = 3

abbrev pub OFFSET : ℕ
OFFSET = 4

abbrev pub MIX : ℕ
MIX = 5

abbrev pub LEVEL : ℕ
LEVEL = 6

abbrev pub CHARACTER : ℕ
CHARACTER = 7

abbrev pub MORPH_X : ℕ
MORPH_X = 8

abbrev pub MORPH_Y : ℕ
MORPH_Y = 9

-- C-17: in targets; a record has its smoothed z at another place
abbrev pub MORPH_Z : ℕ
MORPH_Z = 10

-- what refusal 8 names: a NaN resonance, drive, saturation, character or mix
unfoldable pub nan_knob : VoiceParams → Bool
nan_knob p = is_nan p.resonance || is_nan p.drive || is_nan p.saturation || is_nan p.character || is_nan p.mix
