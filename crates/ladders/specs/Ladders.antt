-- The transistor and diode ladders (extended.rs). Each kernel has two parts: what follows from the pitch and the settings alone, and the
-- step over the input and the states. `..With` is the first part from what follows from the pitch and the character alone. `base` is the
-- resonance law's feedback; k is the feedback with the saturator. Definitions only. Assumes nothing.
use Rattle.std.specs.Prelude.{List, Float}
use Rattle.std.specs.Float.Ieee.{neg}
use Rattle.lane.specs.Floats.{◌⊕◌, ◌⊖◌, ◌⊗◌, ◌⊘◌, ◌‼◌, fma, decimal, whole, one, two, half}
use Rattle.lane.specs.Lane.{exp2_of, soft_clip, saturation_gain, log2of10}
use Rattle.filter.specs.declared.Pitch.{Pitch}
use Rattle.filter.specs.Filter.{gain_of}
use Rattle.extended.specs.declared.Settings.{Settings}
use Rattle.extended.specs.Extended.{Ticked, asym_of}
use Rattle.stages.specs.declared.Four.{Four}
use Rattle.stages.specs.declared.Stages.{Stages}
use Rattle.stages.specs.Stages.{ladder_states, ladder_max, ladder_compensation}
use Rattle.ladders.specs.declared.TransistorLadder.{TransistorLadder}
use Rattle.ladders.specs.declared.DrivenLadder.{DrivenLadder}
use Rattle.ladders.specs.declared.Rows.{Rows}
use Rattle.ladders.specs.declared.DiodeLadder.{DiodeLadder}

-- ---- TransistorLadder: four one-pole stages with feedback from the last, each stage's gain falling as its state grows.
-- State: 0 to 3 the stages, 4 the previous fourth-stage output.

unfoldable pub transistor_with : (g : Float) → Settings → TransistorLadder
transistor_with g p = record { g = g; base = p.resonance ⊗ ladder_max; inv_knee = p.inv_knee }

unfoldable pub transistor_coefficients : Pitch → Settings → TransistorLadder
transistor_coefficients pitch p = transistor_with (gain_of pitch p.ref_over_rate) p

-- a stage's gain at its state, with TRANSISTOR_KNEE = 4
unfoldable pub stage_gain : (g state : Float) → Float
stage_gain g state =
    let gi = g ⊗ saturation_gain state (one ⊘ whole 4) in
    gi ⊘ (one ⊕ gi)

unfoldable pub stage_gains : (g : Float) (state : List Float) → Four
stage_gains g state =
    record { 0 = stage_gain g (state ‼ 0); 1 = stage_gain g (state ‼ 1); 2 = stage_gain g (state ‼ 2); 3 = stage_gain g (state ‼ 3) }

-- the feedback from y4 in closed form, then the four stages one after the other
unfoldable pub transistor_solve : (state : List Float) (gg : Four) (k x : Float) → Stages
transistor_solve state gg k x =
    let b0 = (one ⊖ gg.0) ⊗ state ‼ 0 in
    let b1 = (one ⊖ gg.1) ⊗ state ‼ 1 in
    let b2 = (one ⊖ gg.2) ⊗ state ‼ 2 in
    let b3 = (one ⊖ gg.3) ⊗ state ‼ 3 in
    let big_g = gg.0 ⊗ gg.1 ⊗ gg.2 ⊗ gg.3 in
    let sum = fma ((b0 ⊗ gg.1 ⊕ b1) ⊗ gg.2 ⊕ b2) gg.3 b3 in
    let input = x ⊗ fma k ladder_compensation one in
    let y4 = fma big_g input sum ⊘ fma k big_g one in
    let u = input ⊖ k ⊗ y4 in
    let y1 = fma gg.0 u b0 in
    let y2 = fma gg.1 y1 b1 in
    let y3 = fma gg.2 y2 b2 in
    record { y1 = y1; y2 = y2; y3 = y3; y4 = fma gg.3 y3 b3 }

unfoldable pub transistor_step : TransistorLadder → (state : List Float) (x : Float) → Ticked
transistor_step c state x =
    let k = c.base ⊗ saturation_gain (state ‼ 4) c.inv_knee in
    let y = transistor_solve state (stage_gains c.g state) k x in
    record { out = y.y4; state = ladder_states state y }

-- DRIVEN: a soft clipper before it, DRIVEN_DB = 30 at character 1, and DRIVEN_KNEE = 4
unfoldable pub driven_with : (g drive full : Float) → Settings → DrivenLadder
driven_with g drive full p =
    record {
      ladder = record { g = g; base = p.resonance ⊗ ladder_max; inv_knee = p.inv_knee ⊗ whole 4 };
      drive = drive;
      full = full;
    }

unfoldable pub driven_coefficients : Pitch → Settings → DrivenLadder
driven_coefficients pitch p =
    let drive = exp2_of (p.character ⊗ (whole 30 ⊘ whole 20 ⊗ log2of10)) in
    driven_with (gain_of pitch p.ref_over_rate) drive (soft_clip drive) p

unfoldable pub driven_step : DrivenLadder → (state : List Float) (x : Float) → Ticked
driven_step c state x = transistor_step c.ladder state (soft_clip (x ⊗ c.drive) ⊘ c.full)

-- ---- DiodeLadder: four coupled stages, each passing part of its neighbour's current back, with feedback from the last, solved
-- in closed form by elimination. State as the transistor ladder's.

-- DIODE_COUPLING, DIODE_W, DIODE_K, DIODE_OVERSHOOT
abbrev pub diode_coupling : Float
diode_coupling = half

abbrev pub diode_w : Float
diode_w = decimal 10552897 10000000

abbrev pub diode_k : Float
diode_k = decimal 8617769 1000000

abbrev pub diode_overshoot : Float
diode_overshoot = decimal 1025 1000

-- what the elimination's rows have of the pitch alone
unfoldable pub diode_rows : (gain : Float) → Rows
diode_rows gain =
    let g = gain ⊗ (one ⊘ diode_w) in
    let e = g ⊗ diode_coupling in
    let d = one ⊕ g ⊕ e in
    let r1 = one ⊘ d in
    let a1 = e ⊗ r1 in
    let r2 = one ⊘ (d ⊖ g ⊗ a1) in
    let a2 = e ⊗ r2 in
    let r3 = one ⊘ (d ⊖ g ⊗ a2) in
    record { g = g; e = e; r1 = r1; a1 = a1; r2 = r2; a2 = a2; r3 = r3 }

-- the acid ladder (CLEAN false) has ACID_KNEE = 2, the clean ladder (CLEAN true) none
unfoldable pub acid_with : Rows → Settings → DiodeLadder
acid_with rows p = record { rows = rows; base = p.resonance ⊗ (diode_k ⊗ diode_overshoot); inv_knee = p.inv_knee ⊗ two }

unfoldable pub clean_ladder_with : Rows → Settings → DiodeLadder
clean_ladder_with rows p = record { rows = rows; base = p.resonance ⊗ (diode_k ⊗ diode_overshoot); inv_knee = p.inv_knee }

unfoldable pub acid_coefficients : Pitch → Settings → DiodeLadder
acid_coefficients pitch p = acid_with (diode_rows (gain_of pitch p.ref_over_rate)) p

unfoldable pub clean_ladder_coefficients : Pitch → Settings → DiodeLadder
clean_ladder_coefficients pitch p = clean_ladder_with (diode_rows (gain_of pitch p.ref_over_rate)) p

-- row by row, each stage as a × the next + b + d × y4
unfoldable pub diode_solve : Rows → (state : List Float) (k input : Float) → Stages
diode_solve c state k input =
    let b1 = fma c.g input (state ‼ 0) ⊗ c.r1 in
    let d1 = neg c.g ⊗ k ⊗ c.r1 in
    let b2 = fma c.g b1 (state ‼ 1) ⊗ c.r2 in
    let d2 = c.g ⊗ d1 ⊗ c.r2 in
    let p3 = fma c.g d2 c.e ⊗ c.r3 in
    let b3 = fma c.g b2 (state ‼ 2) ⊗ c.r3 in
    let y4 = fma c.g b3 (state ‼ 3) ⊘ (one ⊕ c.g ⊖ c.g ⊗ p3) in
    let y3 = fma p3 y4 b3 in
    let y2 = fma c.a2 y3 (fma d2 y4 b2) in
    let y1 = fma c.a1 y2 (fma d1 y4 b1) in
    record { y1 = y1; y2 = y2; y3 = y3; y4 = y4 }

-- the feedback with the saturator's gain at the previous fourth-stage output
unfoldable pub diode_feedback : DiodeLadder → (state : List Float) → Float
diode_feedback c state = c.base ⊗ saturation_gain (state ‼ 4) c.inv_knee

-- a tick on the ladder's input, with its feedback k
unfoldable pub diode_step : Rows → (state : List Float) (k input : Float) → Ticked
diode_step c state k input =
    let y = diode_solve c state k input in
    record { out = y.y4; state = ladder_states state y }

unfoldable pub acid_step : DiodeLadder → (state : List Float) (x : Float) → Ticked
acid_step c state x =
    let y = diode_solve c.rows state (diode_feedback c state) (asym_of x) in
    record { out = y.y4; state = ladder_states state y }

unfoldable pub clean_ladder_step : DiodeLadder → (state : List Float) (x : Float) → Ticked
clean_ladder_step c state x =
    let k = diode_feedback c state in
    let y = diode_solve c.rows state k (x ⊗ (one ⊕ k)) in
    record { out = y.y4; state = ladder_states state y }
