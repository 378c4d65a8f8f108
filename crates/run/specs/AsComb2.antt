-- "With offsets 0 and twice the smoothed character, a tick equals Comb2's" (document 02, C-18): a whole frame, its sample, record, ring and count,
-- and the cursor. Assumes nothing.
use Rattle.std.specs.Prelude.{◌≡◌, List, ℕ, drop, Float}
use Rattle.std.proofs.Math.Path.{refl, ap}
use Rattle.std.proofs.Math.ListN.{take}
use Rattle.lane.specs.Floats.{◌‼◌}
use Rattle.filter.specs.Voice.{CHARACTER}
use Rattle.extended.specs.Extended.{settings_at, smooth_mark, lines_mark}
use Rattle.pole_zero.specs.declared.Table.{Table}
use Rattle.combs.specs.AsComb2.{TwoTeeth, step_as_comb, over_as_comb}
use Rattle.kernels.specs.Kernels.{on_ring, kernel_of, over_count}
use Rattle.voices.specs.Calls.{Steering, smoothed_width, states_width}
use Rattle.run.specs.declared.Constants.{Constants}
use Rattle.run.specs.declared.Controls.{Controls}
use Rattle.run.specs.Run.{smooth_of, controls_of, controls_after, state_after, driven_of, settings_of, smoothed_in, kernel_tick, over_tick, tick_with}

module _ (k : Constants) (t : Table) (params : List Float) (h : TwoTeeth k.chord (params ‼ CHARACTER)) (state : List Float) (at : Controls) where
  kernel_as_comb : (len cursor : ℕ) (input : Float) (ring : List Float)
      → kernel_tick 13 k t len cursor params state at input ring ≡ kernel_tick 9 k t len cursor params state at input ring
  unfolding kernel_tick kernel_of controls_after state_after smooth_mark settings_at
  kernel_as_comb len cursor input ring =
      ap (on_ring state) (step_as_comb (record { 0 = at.pitch }) (settings_of k params at) h len cursor ring (driven_of k params input))

  count_as_comb : over_tick 13 k t params state at ≡ over_tick 9 k t params state at
  unfolding over_tick over_count controls_after smooth_mark settings_at
  count_as_comb = over_as_comb (record { 0 = at.pitch }) (settings_of k params at) h

module _ (k : Constants) (t : Table) (len : ℕ) (sign : Float) (targets : List Float) (cursor : ℕ) (pitch input : Float) (st : Steering)
    (rec ring : List Float) where
  abbrev smoothed : List Float
  smoothed = smooth_of k.alpha targets (smoothed_in rec)

  -- offsets 0 and twice the smoothed character
  pub tick_as_comb : TwoTeeth k.chord (smoothed ‼ CHARACTER)
      → tick_with 13 k t len sign targets cursor pitch input st rec ring ≡ tick_with 9 k t len sign targets cursor pitch input st rec ring
  unfolding tick_with
  tick_as_comb h =
      let state = take states_width (drop smoothed_width rec) in
      let at = controls_of smoothed sign pitch st in
      rw (kernel_as_comb k t smoothed h state at len cursor input ring, count_as_comb k t smoothed h state at) refl

-- a block moves the cursor by this mark
pub cursor_as_comb : lines_mark 13 ≡ lines_mark 9
unfolding lines_mark
cursor_as_comb = refl
