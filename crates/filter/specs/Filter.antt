-- What mod.rs gives the extended kernels: the pitch's way to a ratio and a gain, the state-variable stage, its damping laws.
-- Definitions only. Assumes nothing.
use Rattle.std.specs.Prelude.{Bool, cond, ℕ, Float}
use Rattle.std.specs.Float.Ieee.{neg, lt}
use Rattle.lane.specs.Floats.{◌⊕◌, ◌⊖◌, ◌⊗◌, ◌⊘◌, fma, decimal, whole, one}
use Rattle.lane.specs.Lane.{max_of, min_of, exp2_of, tan_of, saturation_gain, pi, tan_limit}
use Rattle.filter.specs.declared.Pitch.{Pitch}
use Rattle.filter.specs.declared.Ratio.{Ratio}
use Rattle.filter.specs.declared.Stage.{Stage}

-- RATIO_LIMIT: the highest cutoff a stage runs at, in cycles per sample
abbrev pub ratio_limit : Float
ratio_limit = tan_limit ⊘ pi

-- the octaves of a pitch above its reference, pitch 69
unfoldable pub octaves_of : Pitch → Float
octaves_of pitch = (pitch.0 ⊖ whole 69) ⊗ (one ⊘ whole 12)

-- the ratio of so many octaves above the reference: every ratio is capped here
unfoldable pub ratio_at : Float → Ratio → Ratio
ratio_at octaves reference = record { 0 = min_of (exp2_of octaves ⊗ reference.0) ratio_limit }

-- document 02, C-11, the mark of that ratio: whether it was greater than its cap. A NaN is not, nor is an equal one
unfoldable pub over_at : Float → Ratio → Bool
over_at octaves reference = lt ratio_limit (exp2_of octaves ⊗ reference.0)

-- a mark, counted
abbrev pub once : Bool → ℕ
once over = cond over 1 0

-- ratio_of
unfoldable pub ratio_of : Pitch → Ratio → Ratio
ratio_of pitch reference = ratio_at (octaves_of pitch) reference

-- C-11's mark of that ratio
unfoldable pub over_of : Pitch → Ratio → Bool
over_of pitch reference = over_at (octaves_of pitch) reference

-- the prewarped integrator gain of a ratio
unfoldable pub gain_at : Ratio → Float
gain_at ratio = tan_of (ratio.0 ⊗ pi)

-- gain (extended.rs)
unfoldable pub gain_of : Pitch → Ratio → Float
gain_of pitch reference = gain_at (ratio_of pitch reference)

-- svf: one linear trapezoidal state-variable stage with damping k: its outputs and its states after it
unfoldable pub svf_of : Float → Float → Float → Float → Float → Stage
svf_of ic1 ic2 x g k =
    let a1 = one ⊘ fma g (g ⊕ k) one in
    let a2 = g ⊗ a1 in
    let a3 = g ⊗ a2 in
    let v3 = x ⊖ ic2 in
    let band = fma a1 ic1 (a2 ⊗ v3) in
    let low = fma a2 ic1 (fma a3 v3 ic2) in
    record { ic1 = band ⊕ band ⊖ ic1; ic2 = low ⊕ low ⊖ ic2; band = band; low = low }

-- SVF_OVERSHOOT
abbrev pub svf_overshoot : Float
svf_overshoot = decimal 2 100

-- svf_k: the resonance law
unfoldable pub svf_k : Float → Float → Float → Float
svf_k k0 floor r = max_of (fma r (neg k0 ⊗ (one ⊕ svf_overshoot)) k0) floor

-- saturated_k: the law's damping pulled back towards k0 by the saturator's gain at the previous band output
unfoldable pub saturated_k : Float → Float → Float → Float → Float
saturated_k k0 k previous_band inv_knee = fma (k ⊖ k0) (saturation_gain previous_band inv_knee) k0
