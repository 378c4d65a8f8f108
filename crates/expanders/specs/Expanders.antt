-- The expanders and the K35 (extended.rs). Each kernel has two parts: what follows from the pitch and the settings alone, and the
-- step over the input and the states. `..With` is the first part from what follows from the pitch and the character alone. `base` is the
-- resonance law's feedback; k is the feedback with the saturator. Definitions only. Assumes nothing.
use Rattle.std.specs.Prelude.{List, [], ◌∷◌, Float}
use Rattle.std.proofs.lemmas.List.Edits.{sets}
use Rattle.std.specs.Float.Ieee.{neg}
use Rattle.lane.specs.Floats.{◌⊕◌, ◌⊖◌, ◌⊗◌, ◌⊘◌, ◌‼◌, fma, decimal, whole, zero, one, two}
use Rattle.lane.specs.Lane.{max_of, min_of, saturation_gain}
use Rattle.filter.specs.declared.Pitch.{Pitch}
use Rattle.filter.specs.Filter.{gain_of}
use Rattle.extended.specs.declared.Settings.{Settings}
use Rattle.extended.specs.Extended.{Ticked, unit_or0}
use Rattle.stages.specs.declared.Five.{Five}
use Rattle.stages.specs.declared.Stages.{Stages}
use Rattle.stages.specs.Stages.{ladder_states, ladder_max, ladder_compensation}
use Rattle.expanders.specs.declared.Expander.{Expander}
use Rattle.expanders.specs.declared.K35.{K35}
use Rattle.expanders.specs.declared.Half35.{Half35}

-- ---- Expander: the normal ladder's four one-pole stages, the output a mix of its input and its four stages.
-- State as the transistor ladder's.

unfoldable pub expander_with : (gg h gg4 : Float) → Settings → Expander
expander_with gg h gg4 p = record { gg = gg; h = h; gg4 = gg4; base = p.resonance ⊗ ladder_max; inv_knee = p.inv_knee }

unfoldable pub expander_coefficients : Pitch → Settings → Expander
expander_coefficients pitch p =
    let g = gain_of pitch p.ref_over_rate in
    let gg = g ⊘ (one ⊕ g) in
    let gg2 = gg ⊗ gg in
    expander_with gg (one ⊖ gg) (gg2 ⊗ gg2) p

-- taps: the ladder's input u and its four stages' outputs
unfoldable pub expander_solve : Expander → (state : List Float) (k x : Float) → Five
expander_solve c state k x =
    let b0 = c.h ⊗ state ‼ 0 in
    let b1 = c.h ⊗ state ‼ 1 in
    let b2 = c.h ⊗ state ‼ 2 in
    let b3 = c.h ⊗ state ‼ 3 in
    let sum = fma ((b0 ⊗ c.gg ⊕ b1) ⊗ c.gg ⊕ b2) c.gg b3 in
    let input = x ⊗ fma k ladder_compensation one in
    let y4 = fma c.gg4 input sum ⊘ fma k c.gg4 one in
    let u = input ⊖ k ⊗ y4 in
    let t1 = fma c.gg u b0 in
    let t2 = fma c.gg t1 b1 in
    let t3 = fma c.gg t2 b2 in
    record { 0 = u; 1 = t1; 2 = t2; 3 = t3; 4 = fma c.gg t3 b3 }

unfoldable pub expander_taps : Expander → (state : List Float) (x : Float) → Five
expander_taps c state x = expander_solve c state (c.base ⊗ saturation_gain (state ‼ 4) c.inv_knee) x

abbrev pub stages : (taps : Five) → Stages
stages t = record { y1 = t.1; y2 = t.2; y3 = t.3; y4 = t.4 }

-- BAND: 4 (y2 - 2 y3 + y4)
unfoldable pub band_mix : (taps : Five) → Float
band_mix t = whole 4 ⊗ (t.2 ⊖ t.3 ⊖ t.3 ⊕ t.4)

unfoldable pub band_step : Expander → (state : List Float) (x : Float) → Ticked
band_step c state x =
    let t = expander_taps c state x in
    record { out = band_mix t; state = ladder_states state (stages t) }

-- the multimode's weight of one tap: low-pass to notch over the first half of character, notch to high-pass over the second
unfoldable pub tap_weight : (a c low notch high : Float) → Float
tap_weight a c low notch high = fma c (high ⊖ notch) (fma a (notch ⊖ low) low)

-- EXPANDER_LOW, EXPANDER_NOTCH and EXPANDER_HIGH, tap by tap
unfoldable pub multimode_weights : (character : Float) → Five
multimode_weights character =
    let a = min_of (character ⊗ two) one in
    let c = max_of (character ⊗ two ⊖ one) zero in
    record {
      0 = tap_weight a c zero one one;
      1 = tap_weight a c zero (neg (whole 4)) (neg (whole 4));
      2 = tap_weight a c zero (whole 8) (whole 6);
      3 = tap_weight a c zero (neg (whole 8)) (neg (whole 4));
      4 = tap_weight a c one (whole 4) one;
    }

unfoldable pub multimode_mix : (weights taps : Five) → Float
multimode_mix w t =
    fma w.4 t.4 (fma w.3 t.3 (fma w.2 t.2 (fma w.1 t.1 (fma w.0 t.0 zero))))

unfoldable pub multimode_step : Expander → (weights : Five) (state : List Float) (x : Float) → Ticked
multimode_step c w state x =
    let t = expander_taps c state x in
    record { out = multimode_mix w t; state = ladder_states state (stages t) }

-- ---- K35: a Sallen-Key low-pass and a high-pass, both running, with a saturator on the feedback amplifier; character picks one,
-- crossfading over a tenth of its range. State: 0 to 2 the low-pass's stages, 3 its previous feedback; 4 to 7 the high-pass's.

-- K35_MAX, K35_SWITCH; K35_KNEE = 3
abbrev pub k35_max : Float
k35_max = decimal 204 100

abbrev pub k35_switch0 : Float
k35_switch0 = decimal 45 100

abbrev pub k35_switch1 : Float
k35_switch1 = decimal 55 100

unfoldable pub k35_with : (gg h w : Float) → Settings → K35
k35_with gg h w p = record { gg = gg; h = h; base = p.resonance ⊗ k35_max; inv_knee = p.inv_knee ⊗ whole 3; w = w }

unfoldable pub k35_coefficients : Pitch → Settings → K35
k35_coefficients pitch p =
    let g = gain_of pitch p.ref_over_rate in
    let gg = g ⊘ (one ⊕ g) in
    k35_with gg (one ⊖ gg) (unit_or0 ((p.character ⊖ k35_switch0) ⊗ (one ⊘ (k35_switch1 ⊖ k35_switch0)))) p

-- den_of
unfoldable pub k35_den : K35 → (k : Float) → Float
k35_den c k = one ⊘ (one ⊖ k ⊗ c.gg ⊗ c.h)

-- the low-pass: its output and its four states after it, from its states s0 to s2
unfoldable pub k35_low : K35 → (s0 s1 s2 k x : Float) → Half35
k35_low c s0 s1 s2 k x =
    let y1 = fma c.gg x (c.h ⊗ s0) in
    let y2 = (c.gg ⊗ y1 ⊖ k ⊗ c.gg ⊗ c.h ⊗ s2 ⊕ c.h ⊗ s1) ⊗ k35_den c k in
    let hp3 = c.h ⊗ (y2 ⊖ s2) in
    let lp3 = y2 ⊖ hp3 in
    record { out = y2; s0 = y1 ⊕ y1 ⊖ s0; s1 = y2 ⊕ y2 ⊖ s1; s2 = lp3 ⊕ lp3 ⊖ s2; s3 = k ⊗ hp3 }

-- the high-pass, likewise
unfoldable pub k35_high : K35 → (s0 s1 s2 k x : Float) → Half35
k35_high c s0 s1 s2 k x =
    let y1 = c.h ⊗ (x ⊖ s0) in
    let y2 = c.h ⊗ (y1 ⊕ k ⊗ c.h ⊗ s2 ⊖ s1) ⊗ k35_den c k in
    let lp3 = fma c.gg y2 (c.h ⊗ s2) in
    let v = fma k lp3 y1 in
    let lp1 = x ⊖ y1 in
    let lp2 = v ⊖ y2 in
    record { out = y2; s0 = lp1 ⊕ lp1 ⊖ s0; s1 = lp2 ⊕ lp2 ⊖ s1; s2 = lp3 ⊕ lp3 ⊖ s2; s3 = k ⊗ lp3 }

-- the feedback of a half with the saturator's gain at its previous feedback
unfoldable pub k35_feedback : K35 → (previous : Float) → Float
k35_feedback c previous = c.base ⊗ saturation_gain previous c.inv_knee

unfoldable pub k35_step : K35 → (state : List Float) (x : Float) → Ticked
k35_step c state x =
    let l = k35_low c (state ‼ 0) (state ‼ 1) (state ‼ 2) (k35_feedback c (state ‼ 3)) x in
    let h = k35_high c (state ‼ 4) (state ‼ 5) (state ‼ 6) (k35_feedback c (state ‼ 7)) x in
    record {
      out = fma c.w (h.out ⊖ l.out) l.out;
      state = sets state 0 (l.s0 ∷ l.s1 ∷ l.s2 ∷ l.s3 ∷ h.s0 ∷ h.s1 ∷ h.s2 ∷ h.s3 ∷ []);
    }
