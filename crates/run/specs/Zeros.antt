-- Zeros that C-14 moved are not heard (document 02): a target of -0 and one of +0 give the same smoothed number, and the lag gives the same X
-- and Y of both. Assumes nothing.
use Rattle.std.specs.Prelude.{◌≡◌, refl, Bool, List, T, Float}
use Rattle.std.specs.Float.{binary32}
use Rattle.std.specs.Float.Ieee.{fits}
use Rattle.bits.specs.Values.{zero_hidden}
use Rattle.lane.specs.Floats.{◌‼◌}
use Rattle.lane.specs.Order.{zero_of}
use Rattle.run.specs.declared.Controls.{Controls}
use Rattle.run.specs.Run.{glide, lag_share, lagged, LAG_STARTED, LAG_X, LAG_Y}

pub glide_sign : (s t : Bool) (alpha p : Float) → T (fits binary32 p) → glide alpha (zero_of s) p ≡ glide alpha (zero_of t) p
unfolding glide
glide_sign s t alpha p h = zero_hidden s t p alpha h

-- the lag is a glide too, from its state to X and Y
pub lag_glides : (smooth_samples character : Float) (state : List Float) (at : Controls)
    → let a = lag_share smooth_samples character (state ‼ LAG_STARTED) in
    let after = lagged smooth_samples character state at in
    (after.x ≡ glide a at.x (state ‼ LAG_X)) × (after.y ≡ glide a at.y (state ‼ LAG_Y))
unfolding lagged glide
lag_glides smooth_samples character state at = (refl, refl)
