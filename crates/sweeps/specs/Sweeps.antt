-- The kernels on state-variable stages: BuzzMorph, DjSweep and Diffuser (extended.rs). Each has two parts: what follows from
-- the pitch and the settings alone, and the step over the input and the states. `..With` is the first part from what follows
-- from the pitch and the character alone. Definitions only. Assumes nothing.
use Rattle.std.specs.Prelude.{ℕ, ◌*◌, ◌+◌, ◌^◌, Bool, true, List, [], ◌∷◌, Float}
use Rattle.std.proofs.lemmas.List.Edits.{sets}
use Rattle.std.specs.Float.{inf}
use Rattle.std.specs.Float.Ieee.{neg}
use Rattle.parts.specs.Parts.{upto}
use Rattle.lane.specs.Floats.{◌⊕◌, ◌⊖◌, ◌⊗◌, ◌⊘◌, ◌‼◌, fma, decimal, whole, zero, one, two}
use Rattle.lane.specs.Lane.{max_of, min_of}
use Rattle.filter.specs.declared.Pitch.{Pitch}
use Rattle.filter.specs.declared.Stage.{Stage}
use Rattle.filter.specs.Filter.{gain_of, over_of, svf_of, svf_k, saturated_k}
use Rattle.extended.specs.declared.Settings.{Settings}
use Rattle.extended.specs.Extended.{Ticked, unit_or0, abs_of, asym_of}
use Rattle.sweeps.specs.declared.BuzzMorph.{BuzzMorph}
use Rattle.sweeps.specs.declared.DjSweep.{DjSweep}
use Rattle.sweeps.specs.declared.Diffuser.{Diffuser}
use Rattle.sweeps.specs.declared.Diffused.{Diffused}

-- K_BUTTERWORTH_2 = SQRT_2
abbrev pub k_butterworth2 : Float
k_butterworth2 = decimal 141421356237309504880168872420969808 (10 ^ 35)

-- f32::NEG_INFINITY
abbrev pub neg_infinity : Float
neg_infinity = inf true

-- ---- BuzzMorph: a resonant stage with an asymmetric shaper before it, its output morphing from low-pass (character 0)
-- through notch to high-pass. BUZZ_KNEE = 3. State: 0 and 1 the stage, 2 its previous band output.

-- `law` is the resonance law's damping
unfoldable pub buzz_with : (g : Float) → Settings → BuzzMorph
buzz_with g p =
    record {
      g = g;
      law = svf_k k_butterworth2 neg_infinity p.resonance;
      inv_knee = p.inv_knee ⊗ whole 3;
      w_low = min_of ((one ⊖ p.character) ⊗ two) one;
      w_high = min_of (p.character ⊗ two) one;
    }

unfoldable pub buzz_coefficients : Pitch → Settings → BuzzMorph
buzz_coefficients pitch p = buzz_with (gain_of pitch p.ref_over_rate) p

unfoldable pub buzz_mix : BuzzMorph → (u k : Float) → Stage → Float
buzz_mix c u k s =
    let high = u ⊖ k ⊗ s.band ⊖ s.low in
    fma c.w_low s.low (c.w_high ⊗ high)

-- k is the damping with the saturator
unfoldable pub buzz_step : BuzzMorph → (state : List Float) (x : Float) → Ticked
buzz_step c state x =
    let k = saturated_k k_butterworth2 c.law (state ‼ 2) c.inv_knee in
    let u = asym_of x in
    let s = svf_of (state ‼ 0) (state ‼ 1) u c.g k in
    record { out = buzz_mix c u k s; state = sets state 0 (s.ic1 ∷ s.ic2 ∷ s.band ∷ []) }

-- ---- DjSweep: one stage whose cutoff control is the sweep, low-pass below its middle and high-pass above, flat around it.
-- State: 0 and 1 the stage.

-- NEUTRAL_PITCH (pole_zero.rs), DJ_FLAT, DJ_FADE, DJ_LOW_PASS, DJ_HIGH_PASS, DJ_K_MIN
abbrev pub neutral_pitch : Float
neutral_pitch = decimal 684 10

abbrev pub dj_flat : Float
dj_flat = decimal 4 100

abbrev pub dj_fade : Float
dj_fade = decimal 1 10

abbrev pub dj_low_pass0 : Float
dj_low_pass0 = decimal 135076 1000

abbrev pub dj_low_pass1 : Float
dj_low_pass1 = decimal 22651 1000

abbrev pub dj_high_pass0 : Float
dj_high_pass0 = decimal 3486 1000

abbrev pub dj_high_pass1 : Float
dj_high_pass1 = decimal 123514 1000

abbrev pub dj_kmin : Float
dj_kmin = decimal 35 100

-- the distance from the middle, -1 .. 1
unfoldable pub dj_distance : Pitch → Float
dj_distance pitch = min_of (max_of ((pitch.0 ⊖ neutral_pitch) ⊗ (one ⊘ neutral_pitch)) (neg one)) one

-- how far past the flat zone
unfoldable pub dj_depth : (d : Float) → Float
dj_depth d = max_of ((abs_of d ⊖ dj_flat) ⊗ (one ⊘ (one ⊖ dj_flat))) zero

-- the sweep's own cutoff, from low_side and the depth u
unfoldable pub dj_pitch : (low_side u : Float) → Pitch
dj_pitch low_side u =
    let lp = fma u (dj_low_pass1 ⊖ dj_low_pass0) dj_low_pass0 in
    let hp = fma u (dj_high_pass1 ⊖ dj_high_pass0) dj_high_pass0 in
    record { 0 = fma low_side (lp ⊖ hp) hp }

-- dj_k
unfoldable pub dj_k : (r : Float) → Float
dj_k r = fma r (dj_kmin ⊖ k_butterworth2) k_butterworth2

unfoldable pub dj_with : (g low_side wet : Float) → Settings → DjSweep
dj_with g low_side wet p = record { g = g; k = dj_k p.resonance; low_side = low_side; wet = wet }

-- low_side is 1 below the middle and 0 from it up; within 1e-6 of the middle, where the sweep is flat, it is a ramp from 1 to 0
unfoldable pub dj_coefficients : Pitch → Settings → DjSweep
dj_coefficients pitch p =
    let d = dj_distance pitch in
    let low_side = unit_or0 (neg d ⊗ whole 1000000) in
    let u = dj_depth d in
    dj_with (gain_of (dj_pitch low_side u) p.ref_over_rate) low_side (min_of (u ⊗ (one ⊘ dj_fade)) one) p

-- document 02, C-11: the mark of the ratio that it caps, which is that of the sweep's own cutoff
unfoldable pub dj_over : Pitch → Settings → Bool
dj_over pitch p =
    let d = dj_distance pitch in
    over_of (dj_pitch (unit_or0 (neg d ⊗ whole 1000000)) (dj_depth d)) p.ref_over_rate

-- the stage's step, and what it makes of x before the mix
unfoldable pub dj_stage : DjSweep → (state : List Float) (x : Float) → Stage
dj_stage c state x = svf_of (state ‼ 0) (state ‼ 1) x c.g c.k

unfoldable pub dj_filtered : DjSweep → (x : Float) → Stage → Float
dj_filtered c x s =
    let high = x ⊖ c.k ⊗ s.band ⊖ s.low in
    fma c.low_side (s.low ⊖ high) high

unfoldable pub dj_step : DjSweep → (state : List Float) (x : Float) → Ticked
dj_step c state x =
    let s = dj_stage c state x in
    record { out = fma c.wet (dj_filtered c x s ⊖ x) x; state = sets state 0 (s.ic1 ∷ s.ic2 ∷ []) }

-- ---- Diffuser: eight all-pass stages in series (DIFFUSER_STAGES), the output crossfading between whole numbers of them.
-- State: 2j and 2j + 1 stage j.

-- diffuser_k, from DIFFUSER_K = [2, 0.2]
unfoldable pub diffuser_k : (r : Float) → Float
diffuser_k r = fma r (decimal 2 10 ⊖ two) two

-- how much stage j weighs in the output at n = character × 7
unfoldable pub diffuser_weight : (n : Float) (j : ℕ) → Float
diffuser_weight n j = max_of (one ⊖ abs_of (n ⊖ whole j)) zero

unfoldable pub diffuser_with : (g : Float) → Settings → Diffuser
diffuser_with g p =
    let k = diffuser_k p.resonance in
    record { g = g; k = k; k2 = k ⊕ k; n = p.character ⊗ whole 7 }

unfoldable pub diffuser_coefficients : Pitch → Settings → Diffuser
diffuser_coefficients pitch p = diffuser_with (gain_of pitch p.ref_over_rate) p

-- stage j, on the states, the signal and the output so far
unfoldable pub diffuse_stage : Diffuser → (j : ℕ) → Diffused → Diffused
diffuse_stage c j d =
    let s = svf_of (d.state ‼ (2 * j)) (d.state ‼ (2 * j + 1)) d.u c.g c.k in
    let u = d.u ⊖ c.k2 ⊗ s.band in
    record { state = sets d.state (2 * j) (s.ic1 ∷ s.ic2 ∷ []); u = u; out = fma (diffuser_weight c.n j) u d.out }

unfoldable pub diffuser_step : Diffuser → (state : List Float) (x : Float) → Ticked
diffuser_step c state x =
    let d = upto (diffuse_stage c) 8 (record { state = state; u = x; out = zero }) in
    record { out = d.out; state = d.state }
