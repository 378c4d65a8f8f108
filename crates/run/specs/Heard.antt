-- For the proofs: nothing here must be believed.
-- Numbers that no frame hears: with two axes those after a table's near face (C-17), and of the chord those that make no tooth (C-18).
-- Assumes nothing.
use Rattle.std.specs.Prelude.{◌≡◌, ℕ, List, Bool, drop, Float}
use Rattle.std.proofs.Math.Path.{refl}
use Rattle.std.proofs.Math.ListN.{take}
use Rattle.lane.specs.Floats.{◌‼◌}
use Rattle.filter.specs.Voice.{CHARACTER}
use Rattle.extended.specs.declared.Chord.{Chord}
use Rattle.extended.specs.Extended.{settings_at}
use Rattle.pole_zero.specs.declared.Table.{Table}
use Rattle.kernels.specs.Heard.{other_table, kernel_heard, count_heard, SameTeeth, kernel_chord, count_chord}
use Rattle.voices.specs.Calls.{Steering, smoothed_width, states_width}
use Rattle.run.specs.declared.Constants.{Constants}
use Rattle.run.specs.declared.Controls.{Controls}
use Rattle.run.specs.Run.{constants_of, smooth_of, controls_of, controls_after, state_after, driven_of, settings_of, smoothed_in}
use Rattle.run.specs.Run.{kernel_tick, over_tick, tick_with}

pub tick_heard : (code : ℕ) (k : Constants) (t : Table) (far : List Float) (len : ℕ) (sign : Float) (targets : List Float) (cursor : ℕ)
    (pitch input : Float) (st : Steering) (rec ring : List Float)
    → tick_with code k (other_table t far) len sign targets cursor pitch input st rec ring
    ≡ tick_with code k t len sign targets cursor pitch input st rec ring
unfolding tick_with kernel_tick over_tick
tick_heard code k t far len sign targets cursor pitch input st rec ring =
    rw (kernel_heard code t far _ _ len cursor _ ring _, count_heard code t far _ _) refl

-- ---- the chord

module _ (code : ℕ) (rate reference : Float) (clean : Bool) (c d : Chord) (h : code ≡ 13 → SameTeeth c d) (t : Table) where
  -- what a block has with a chord
  abbrev with_chord_lem : Chord → Constants
  with_chord_lem = constants_of rate reference clean

  abbrev lagged_by : (params state : List Float) → Controls → Controls
  lagged_by params state at = controls_after code (with_chord_lem c).smooth_samples (params ‼ CHARACTER) state at

  kernel_tick_chord : (len cursor : ℕ) (params state : List Float) (at : Controls) (input : Float) (ring : List Float)
      → kernel_tick code (with_chord_lem c) t len cursor params state at input ring ≡ kernel_tick code (with_chord_lem d) t len cursor params state at input ring
  unfolding kernel_tick constants_of driven_of settings_at
  kernel_tick_chord len cursor params state at input ring =
      kernel_chord code t (record { 0 = (lagged_by params state at).pitch }) (settings_of (with_chord_lem c) params (lagged_by params state at)) c d h len cursor
      (state_after code (with_chord_lem c).smooth_samples (params ‼ CHARACTER) state at) ring (driven_of (with_chord_lem c) params input)

  over_tick_chord : (params state : List Float) (at : Controls)
      → over_tick code (with_chord_lem c) t params state at ≡ over_tick code (with_chord_lem d) t params state at
  unfolding over_tick constants_of settings_at
  over_tick_chord params state at =
      count_chord code t (record { 0 = (lagged_by params state at).pitch }) (settings_of (with_chord_lem c) params (lagged_by params state at)) c d h

  pub tick_chord : (len : ℕ) (sign : Float) (targets : List Float) (cursor : ℕ) (pitch input : Float) (st : Steering) (rec ring : List Float)
      → tick_with code (with_chord_lem c) t len sign targets cursor pitch input st rec ring
      ≡ tick_with code (with_chord_lem d) t len sign targets cursor pitch input st rec ring
  unfolding tick_with constants_of
  tick_chord len sign targets cursor pitch input st rec ring =
      let params = smooth_of (with_chord_lem c).alpha targets (smoothed_in rec) in
      let state = take states_width (drop smoothed_width rec) in
      rw (
        kernel_tick_chord len cursor params state (controls_of params sign pitch st) input ring,
        over_tick_chord params state (controls_of params sign pitch st),
      ) refl
