-- DjSweep is flat near its middle (document 01, checked figures): at |d| ≤ 0.04, where filtered - x is finite, the sample out is the sample in, in value. Assumes nothing.
use Rattle.std.specs.Prelude.{◌≡◌, true, List, Float}
use Rattle.std.specs.Float.{binary32}
use Rattle.std.specs.Float.Ieee.{eq, fits}
use Rattle.std.specs.Float.Ieee.Scale.{finite}
use Rattle.lane.specs.Floats.{◌⊖◌}
use Rattle.filter.specs.declared.Pitch.{Pitch}
use Rattle.extended.specs.declared.Settings.{Settings}
use Rattle.sweeps.specs.Sweeps.{dj_coefficients, dj_stage, dj_filtered, dj_step}
use Rattle.flat.specs.Flat.{near_middle, flat_sample, flat_wet}

-- ---- together: near the middle the sample out is the sample in
pub flat : (pitch : Pitch) (p : Settings) (state : List Float) (x : Float) → let c = dj_coefficients pitch p in
    near_middle pitch ≡ true → fits binary32 x ≡ true → finite (dj_filtered c x (dj_stage c state x) ⊖ x) ≡ true
    → eq (dj_step c state x).out x ≡ true
unfolding dj_step
flat pitch p state x m f h =
    let c = dj_coefficients pitch p in
    flat_sample c.wet (dj_filtered c x (dj_stage c state x)) x (flat_wet pitch p m) f h
