-- `render` meets its contract: the promises of `open` and `block`, whose checks the verdict has passed. Assumes nothing.
use Rattle.impulses.proofs.Verdicts.{accepted}
use Rattle.impulses.proofs.Rendering.{rendering_is}
use Rattle.impulses.proofs.render.Goals as goal

pub returns : goal.returns
returns c =
    let a = c.requires in
    rendering_is _ _ _ _ _ (accepted _ _ _ a.accepted) a.ring a.pitches _ _ _ _ _ _ _ _ _ _ c.targets-2-1.given c.records-2-1.given c.delay-1.given (rw (c.setup_of-setup.ensures, c.silence-targets.ensures.0, c.silence-records.ensures.0) at c.open.ensures) (rw c.setup_of-setup.ensures at c.block.ensures)
