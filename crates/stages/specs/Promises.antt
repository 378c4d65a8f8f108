-- For the proofs: nothing here must be believed.
-- The first four states as one record, for the functions that take them so. Definitions only. Assumes nothing.
use Rattle.std.specs.Prelude.{List, Float}
use Rattle.lane.specs.Floats.{◌‼◌}
use Rattle.stages.specs.declared.Four.{Four}

abbrev pub stages_of : List Float → Four
stages_of state = record { 0 = state ‼ 0; 1 = state ‼ 1; 2 = state ‼ 2; 3 = state ‼ 3 }
