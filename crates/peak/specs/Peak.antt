-- A slot's peak (document 02, C-15). Definitions only.
use Rattle.std.specs.Prelude.{Float}
use Rattle.lane.specs.Lane.{max_of}
use Rattle.extended.specs.Extended.{abs_of}

-- after each frame max(peak, |sample|), by the rule of max
unfoldable pub peak_of : (peak out : Float) → Float
peak_of peak out = max_of peak (abs_of out)
