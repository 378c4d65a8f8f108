-- For the proofs: nothing here must be believed.
-- A ratio and a gain with their marks, as the code gives them; a mark counts at most once. Assumes nothing.
use Rattle.std.specs.Prelude.{Bool, true, false, ◌≤◌, Float}
use Rattle.std.proofs.Common.{arith}
use Rattle.filter.specs.declared.Pitch.{Pitch}
use Rattle.filter.specs.declared.Ratio.{Ratio}
use Rattle.filter.specs.declared.Capped.{Capped}
use Rattle.filter.specs.declared.JudgedGain.{JudgedGain}
use Rattle.filter.specs.Filter.{ratio_at, over_at, once, ratio_of, over_of, gain_of}

unfoldable pub capped_at : Float → Ratio → Capped
capped_at octaves reference = record { ratio = ratio_at octaves reference; over = over_at octaves reference }

unfoldable pub capped_of : Pitch → Ratio → Capped
capped_of pitch reference = record { ratio = ratio_of pitch reference; over = over_of pitch reference }

unfoldable pub judged_gain : Pitch → Ratio → JudgedGain
judged_gain pitch reference = record { g = gain_of pitch reference; over = over_of pitch reference }

pub once_most : (b : Bool) → once b ≤ 1
once_most true = omega arith
once_most false = omega arith
