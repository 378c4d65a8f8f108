-- A frame from its parts: what `smooth`, `steer`, `kernel_tick`, `mix` and `raised` leave is what the definition's tick leaves.
-- Assumes nothing.
use mathlib.Core.Path.{◌≡◌, sym, ap, ◌∙◌}
use mathlib.Core.Option.{some}
use mathlib.Core.List.{List, [], ◌∷◌, ◌++◌, append_assoc}
use native.Mathlib.Omega.{arith}
use lib.ListN.{length, take, drop, length-append}
use lib.Seq.{take_at, drop_at, take-suc, take_all, length-take-le, get_or_at}
use lib.Ieee.{Float, nan}
use Rattle.lane.specs.Floats.{◌⊕◌, ◌‼◌}
use Rattle.lines.specs.declared.Ring.{Ring}
use Rattle.filter.specs.Voice.{MORPH_X, MORPH_Y, MORPH_Z}
use Rattle.extended.specs.Extended.{unit_or0}
use Rattle.kernels.specs.Promises.{KernelLeaves}
use Rattle.voices.specs.Calls.{smoothed_width, targets_width, states_width, record_z}
use Rattle.peak.specs.Peak.{peak_of}
use Rattle.run.specs.declared.Controls.{Controls}
use Rattle.run.specs.declared.FrameInput.{FrameInput}
use Rattle.run.specs.declared.Sample.{Sample}
use Rattle.run.specs.declared.Structure.{Structure}
use Rattle.run.specs.Run.{smooth_of, offset_of, steered_x, steered_y, controls_of, mix_of, PEAK, smoothed_in, tick_with}
use Rattle.run.specs.Promises.{kernel_on, over_on, tick_on, TickLeaves, record_of, Widths}

-- eleven numbers are the first ten and the last
pub ten_and_z : (params : List Float) → length params ≡ targets_width → take smoothed_width params ++ params ‼ MORPH_Z ∷ [] ≡ params
ten_and_z params h = sym (take-suc params smoothed_width nan (omega arith)) ∙ take_all targets_width params (omega arith)

module _ (params state : List Float) (peak : Float) (h : Widths params state) where
  abbrev ten : List Float
  ten = take smoothed_width params

  abbrev z : Float
  z = params ‼ MORPH_Z

  abbrev rest : List Float
  rest = state ++ peak ∷ z ∷ []

  ten_long : length ten ≡ smoothed_width
  ten_long = length-take-le smoothed_width params (omega (arith, h.params))

  whole : record_of params state peak ≡ ten ++ rest
  whole = append_assoc ten state (peak ∷ z ∷ [])

  -- the record's last two numbers are the peak and z
  pub found : record_of params state peak ‼ PEAK ≡ peak
  found = get_or_at (ten ++ state) peak (z ∷ []) nan PEAK (length-append ten state ∙ omega (arith, ten_long, h.state))

  found_z : record_of params state peak ‼ record_z ≡ z
  found_z =
      ap (λ (l : List Float). l ‼ record_z) (sym (append_assoc (ten ++ state) (peak ∷ []) (z ∷ [])))
      ∙ get_or_at (ten ++ state ++ peak ∷ []) z [] nan record_z (simp length-append (omega (arith, ten_long, h.state)))

  -- and its parts come back
  pub params_back : smoothed_in (record_of params state peak) ≡ params
  params_back =
      (λ i. (ap (take smoothed_width) whole ∙ take_at ten rest smoothed_width ten_long) i ++ found_z i ∷ []) ∙ ten_and_z params h.params

  pub state_back : take states_width (drop smoothed_width (record_of params state peak)) ≡ state
  state_back =
      ap (take states_width) (ap (drop smoothed_width) whole ∙ drop_at ten rest smoothed_width ten_long)
      ∙ take_at state (peak ∷ z ∷ []) states_width h.state

module _ (m : Structure) (sections : List Float) (at : Ring) (f : FrameInput) (targets params state : List Float) (peak : Float) (delay : List Float) where
  pub frame : (next : List Float) (c : Controls) (wet s : Sample) (state' : List Float) (peak' : Float) (delay' : List Float)
      → Widths params state
      → next ≡ smooth_of m.k.alpha targets params
      → c.pitch ≡ offset_of next f.sign f.pitch.0
      → c.x ≡ unit_or0 (next ‼ MORPH_X ⊕ f.x)
      → c.y ≡ unit_or0 (next ‼ MORPH_Y ⊕ f.y)
      → KernelLeaves (kernel_on m sections at next state c f.input delay) delay at wet.out state' delay'
      → wet.over ≡ over_on m sections next state c
      → s.out ≡ mix_of next f.input wet.out
      → s.over ≡ wet.over
      → peak' ≡ peak_of peak s.out
      → TickLeaves (tick_on m sections at f targets (record_of params state peak) delay) delay at s (record_of next state' peak') delay'
  unfolding tick_with steered_x steered_y
  frame next c wet s state' peak' delay' h smoothed p px py leaves judged mixed same peaked =
      let controls : c ≡ controls_of next f.sign f.pitch.0 (some (f.x, f.y)) = λ i. record { pitch = p i; x = px i; y = py i } in
      let sample = mixed ∙ ap (mix_of next f.input) leaves.sample in
      rw (found params state peak h, params_back params state peak h, state_back params state peak h, ← smoothed, ← controls)
      (record {
        sample = sample;
        judged = same ∙ judged;
        numbers = λ i. record_of next (leaves.states i) ((peaked ∙ ap (peak_of peak) sample) i);
        cells = leaves.cells;
      })
