-- `impulse_audio` meets its contract: zeros with a one in front. Assumes nothing.
use Rattle.std.proofs.Common.{arith, length-set}
use Rattle.impulses.proofs.Rendering.{impulse_made}
use Rattle.impulses.proofs.impulse_audio.Goals as goal

pub returns : goal.returns
returns c =
    let e = c.silence-audio.ensures in
    (impulse_made 4096 _ (omega arith) e.0, simp length-set e.1)
