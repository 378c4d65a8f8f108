-- `steady_pitch` meets its contract: an array of one number. Assumes nothing.
use Rattle.std.proofs.Common.{refl}
use Rattle.impulses.proofs.Rendering.{pitches}
use Rattle.impulses.proofs.steady_pitch.Goals as goal

pub returns : goal.returns
returns c = (pitches 4096, refl)
