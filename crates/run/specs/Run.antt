-- One frame of one slot: the body of Run::go's frame loop (document 01, One block goes through, points 1 to 5; document 02, C-11, C-15, C-17, C-18).
-- Definitions only. Assumes nothing.
use Rattle.std.specs.Prelude.{ℕ, ◌+◌, Bool, cond, List, [], ◌∷◌, ◌++◌, eqb, take, drop, Float}
use Rattle.std.proofs.Math.Option.{none, some}
use Rattle.std.proofs.lemmas.List.Edits.{sets}
use Rattle.std.specs.Float.Ieee.{neg}
use Rattle.parts.specs.Parts.{tab}
use Rattle.lane.specs.Floats.{◌⊕◌, ◌⊖◌, ◌⊗◌, ◌⊘◌, ◌‼◌, fma, decimal, whole, zero, one}
use Rattle.lane.specs.Lane.{exp_of, pow10_of, soft_clip}
use Rattle.filter.specs.Voice.{DRIVE, DRIVE_GAIN, OFFSET, MIX, LEVEL, CHARACTER, MORPH_X, MORPH_Y, MORPH_Z}
use Rattle.extended.specs.declared.Chord.{Chord}
use Rattle.extended.specs.declared.Settings.{Settings}
use Rattle.extended.specs.Extended.{settings_at, unit_or0, smooth_mark}
use Rattle.peak.specs.Peak.{peak_of}
use Rattle.pole_zero.specs.declared.Table.{Table}
use Rattle.kernels.specs.Kernels.{Kernel, kernel_of, over_count}
use Rattle.voices.specs.Calls.{Tick, Steering, smoothed_width, targets_width, states_width, record_z}
use Rattle.run.specs.declared.Constants.{Constants}
use Rattle.run.specs.declared.Controls.{Controls}

-- ---- worked out once a block. SMOOTHING_SECONDS = 0.002, CLEAN_DB = 24, SMOOTH_SECONDS = 0.1

-- what clean drive drops the clipper's input by
unfoldable pub clean_drive : Float
clean_drive = pow10_of (neg (whole 24)) (whole 20)

-- and the chord (C-18), which stays as it is
unfoldable pub constants_of : (rate reference : Float) (clean : Bool) → Chord → Constants
constants_of rate reference clean chord =
    record {
      alpha = one ⊖ exp_of (neg one ⊘ (decimal 2 1000 ⊗ rate));
      clip_in = cond clean clean_drive one;
      clip_out = cond clean (one ⊘ clean_drive) one;
      smooth_samples = decimal 1 10 ⊗ rate;
      ref_over_rate = record { 0 = reference ⊘ rate };
      chord = chord;
    }

-- the channel's sign: mono 0, the first of two channels -1, the second 1
unfoldable pub sign_of : (channels channel : ℕ) → Float
sign_of channels c = cond (eqb channels 1) zero (cond (eqb c 0) (neg one) one)

-- ---- 1. smoothing, offset, steering and lag

-- one smoothed number on its way to its target
unfoldable pub glide : (alpha target p : Float) → Float
glide alpha target p = fma (target ⊖ p) alpha p

-- the eight settings, the two morph numbers and z (C-17)
unfoldable pub smooth_of : (alpha : Float) (targets params : List Float) → List Float
smooth_of alpha targets params = tab (λ i. glide alpha (targets ‼ i) (params ‼ i)) targets_width

-- the pitch with the channel's offset
unfoldable pub offset_of : (params : List Float) (sign pitch : Float) → Float
offset_of params sign pitch = fma (params ‼ OFFSET) sign pitch

-- the morph numbers, steered or not, held to 0 .. 1
unfoldable pub steered_x : (params : List Float) → Steering → Float
steered_x params none = unit_or0 (params ‼ MORPH_X)
steered_x params (some s) = unit_or0 (params ‼ MORPH_X ⊕ s.0)

unfoldable pub steered_y : (params : List Float) → Steering → Float
steered_y params none = unit_or0 (params ‼ MORPH_Y)
steered_y params (some s) = unit_or0 (params ‼ MORPH_Y ⊕ s.1)

-- the pitch, x and y before the lag
abbrev pub controls_of : (params : List Float) (sign pitch : Float) → Steering → Controls
controls_of params sign pitch st = record { pitch = offset_of params sign pitch; x = steered_x params st; y = steered_y params st }

-- where the lag keeps its state (extended.rs): whether it has started, then the smoothed pitch, X and Y
abbrev pub LAG_STARTED : ℕ
LAG_STARTED = 16

abbrev pub LAG_PITCH : ℕ
LAG_PITCH = 17

abbrev pub LAG_X : ℕ
LAG_X = 18

abbrev pub LAG_Y : ℕ
LAG_Y = 19

-- the lag's share of the way: time constant SMOOTH_SECONDS × character², all of it at the first input
unfoldable pub lag_share : (smooth_samples character started : Float) → Float
lag_share smooth_samples character started =
    let a = one ⊘ fma (character ⊗ character) smooth_samples one in
    one ⊖ started ⊗ (one ⊖ a)

-- the pitch, x and y after it
unfoldable pub lagged : (smooth_samples character : Float) (state : List Float) → Controls → Controls
lagged smooth_samples character state at =
    let a = lag_share smooth_samples character (state ‼ LAG_STARTED) in
    record {
      pitch = fma (at.pitch ⊖ state ‼ LAG_PITCH) a (state ‼ LAG_PITCH);
      x = fma (at.x ⊖ state ‼ LAG_X) a (state ‼ LAG_X);
      y = fma (at.y ⊖ state ‼ LAG_Y) a (state ‼ LAG_Y);
    }

unfoldable pub lag_state : (state : List Float) → Controls → List Float
lag_state state after = sets state LAG_STARTED (one ∷ after.pitch ∷ after.x ∷ after.y ∷ [])

-- SMOOTH: the lag runs; else everything stays
unfoldable pub controls_after : (code : ℕ) (smooth_samples character : Float) (state : List Float) → Controls → Controls
controls_after code smooth_samples character state at = cond (smooth_mark code) (lagged smooth_samples character state at) at

unfoldable pub state_after : (code : ℕ) (smooth_samples character : Float) (state : List Float) → Controls → List Float
state_after code smooth_samples character state at =
    cond (smooth_mark code) (lag_state state (lagged smooth_samples character state at)) state

-- ---- 2. and 3. drive and soft_clip, then the kernel on one record of settings

unfoldable pub driven_of : Constants → (params : List Float) (input : Float) → Float
driven_of k params input =
    let u = input ⊗ params ‼ DRIVE_GAIN in
    let clipped = soft_clip (u ⊗ k.clip_in) ⊗ k.clip_out in
    fma (clipped ⊖ u) (params ‼ DRIVE) u

abbrev pub settings_of : Constants → (params : List Float) → Controls → Settings
settings_of k params at = settings_at k.ref_over_rate k.chord params at.x at.y

-- ---- 4. the ring is Comb2's and the chord comb's alone: combs/specs/Combs.antt, over lines/specs/Lines.antt

-- ---- 5. mix and level

unfoldable pub mix_of : (params : List Float) (input wet : Float) → Float
mix_of params input wet = fma wet (params ‼ MIX) (input ⊗ (one ⊖ params ‼ MIX)) ⊗ params ‼ LEVEL

-- C-15: where the record has the slot's peak, which `peak_of` raises by the frame's sample, after mix and level
abbrev pub PEAK : ℕ
PEAK = smoothed_width + states_width

-- ---- the frame

-- the smoothed numbers of a record, in the order of targets: the ten that it begins with, and z (C-17), its last
abbrev pub smoothed_in : (rec : List Float) → List Float
smoothed_in rec = take smoothed_width rec ++ rec ‼ record_z ∷ []

-- lag, drive and kernel, on the smoothed numbers and the states apart; `len` is the ring's length
unfoldable pub kernel_tick : (code : ℕ) → Constants → Table → (len cursor : ℕ) (params state : List Float) → Controls
    → (input : Float) (ring : List Float) → Kernel
kernel_tick code k table len cursor params state at input ring =
    let smooth = k.smooth_samples in
    let character = params ‼ CHARACTER in
    let after = controls_after code smooth character state at in
    kernel_of code table len cursor (record { 0 = after.pitch }) (settings_of k params after) (state_after code smooth character state at) ring
    (driven_of k params input)

-- C-11: how often the kernel judges a ratio greater than its cap, at the pitch and the settings that it takes
unfoldable pub over_tick : (code : ℕ) → Constants → Table → (params state : List Float) → Controls → ℕ
over_tick code k table params state at =
    let after = controls_after code k.smooth_samples (params ‼ CHARACTER) state at in
    over_count code table (record { 0 = after.pitch }) (settings_of k params after)

-- points 1 to 5. The record is the ten smoothed numbers, the twenty states, the peak and the smoothed z (C-17)
unfoldable pub tick_with : (code : ℕ) → Constants → Table → (len : ℕ) (sign : Float) (targets : List Float) (cursor : ℕ) (pitch input : Float)
    → Steering → (rec ring : List Float) → Tick
tick_with code k table len sign targets cursor pitch input st rec ring =
    let params = smooth_of k.alpha targets (smoothed_in rec) in
    let state = take states_width (drop smoothed_width rec) in
    let t = kernel_tick code k table len cursor params state (controls_of params sign pitch st) input ring in
    let out = mix_of params input t.out in
    record {
      rec = take smoothed_width params ++ t.state ++ peak_of (rec ‼ PEAK) out ∷ params ‼ MORPH_Z ∷ [];
      ring = t.ring;
      out = out;
      over = over_tick code k table params state (controls_of params sign pitch st);
    }
