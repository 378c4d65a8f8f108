-- For the proofs: nothing here must be believed.
-- A tick keeps the record's 32 numbers and the ring's length, and judges at most eight ratios, whatever the structure. Assumes nothing.
use Rattle.std.specs.Prelude.{◌≡◌, refl, ℕ, ◌≤◌, Bool, true, false, cond, List, take, drop, Float}
use Rattle.std.proofs.Common.{◌∙◌, arith, length-set}
use Rattle.std.proofs.Math.ListN.{length, length-append, length-drop}
use Rattle.std.proofs.Math.Seq.{length-take-le}
use Rattle.lane.specs.Floats.{◌‼◌}
use Rattle.filter.specs.Voice.{CHARACTER}
use Rattle.extended.specs.Extended.{smooth_mark}
use Rattle.pole_zero.specs.declared.Table.{Table}
use Rattle.kernels.specs.Laws.{SameLengths, kernel_lengths, over_most}
use Rattle.voices.specs.Calls.{smoothed_width, targets_width, states_width, record_width, Steering}
use Rattle.run.specs.declared.Constants.{Constants}
use Rattle.run.specs.declared.Controls.{Controls}
use Rattle.run.specs.Run.{smooth_of, lag_state, state_after, kernel_tick, over_tick, controls_of, smoothed_in, tick_with}

lag_length : (code : ℕ) (smooth character : Float) (state : List Float) (at : Controls)
    → length (state_after code smooth character state at) ≡ length state
unfolding state_after lag_state
lag_length code smooth character state at = go (smooth_mark code) _
  where
    go : (b : Bool) (after : Controls) → length (cond b (lag_state state after) state) ≡ length state
    go true after = simp length-set
    go false after = refl

pub smooth_length : (alpha : Float) (targets params : List Float) → length (smooth_of alpha targets params) ≡ targets_width
unfolding smooth_of
smooth_length alpha targets params = refl

module _ (code : ℕ) (k : Constants) (table : Table) (len cursor : ℕ) (params state : List Float) (at : Controls) (input : Float) (ring : List Float) where
  pub kernel_tick_kept : SameLengths state ring (kernel_tick code k table len cursor params state at input ring)
  unfolding kernel_tick
  kernel_tick_kept =
      let kept = kernel_lengths code table len cursor _ _ (state_after code k.smooth_samples (params ‼ CHARACTER) state at) ring _ in
      record { states = kept.states ∙ lag_length code k.smooth_samples (params ‼ CHARACTER) state at; cells = kept.cells }

pub few_over : (code : ℕ) (k : Constants) (table : Table) (params state : List Float) (at : Controls) → over_tick code k table params state at ≤ 8
unfolding over_tick
few_over code k table params state at = over_most code table _ _

module _ (code : ℕ) (k : Constants) (table : Table) (len : ℕ) (sign : Float) (targets : List Float) (cursor : ℕ) (pitch input : Float)
    (st : Steering) (rec ring : List Float) where
  abbrev params : List Float
  params = smooth_of k.alpha targets (smoothed_in rec)

  abbrev state : List Float
  state = take states_width (drop smoothed_width rec)

  kept : SameLengths state ring (kernel_tick code k table len cursor params state (controls_of params sign pitch st) input ring)
  kept = kernel_tick_kept code k table len cursor params state (controls_of params sign pitch st) input ring

  pub rec_length : length rec ≡ record_width → length (tick_with code k table len sign targets cursor pitch input st rec ring).rec ≡ record_width
  unfolding tick_with
  rec_length h =
      let states : length state ≡ states_width = length-take-le states_width (drop smoothed_width rec) (simp length-drop (omega arith)) in
      let front : length (take smoothed_width params) ≡ smoothed_width
      = length-take-le smoothed_width params (omega (arith, smooth_length k.alpha targets (smoothed_in rec))) in
      simp length-append (omega (arith, front, kept.states, states))

  pub ring_length_lem : length ring ≡ len → length (tick_with code k table len sign targets cursor pitch input st rec ring).ring ≡ len
  unfolding tick_with
  ring_length_lem h = kept.cells ∙ h

  pub tick_judges : (tick_with code k table len sign targets cursor pitch input st rec ring).over ≤ 8
  unfolding tick_with
  tick_judges = few_over code k table params state (controls_of params sign pitch st)
