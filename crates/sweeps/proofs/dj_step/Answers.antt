-- `sweeps::dj_step` meets its contract: each call gives its part of the definition.
use Rattle.sweeps.specs.Sweeps.{dj_stage, dj_step}
use Rattle.sweeps.proofs.dj_step.Goals as goal

pub returns : goal.returns
unfolding dj_step dj_stage
returns c = rw (c.dj_filtered.ensures, c.svf-s.ensures)
