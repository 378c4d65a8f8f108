-- `sweeps::diffuse_stage` meets its contract: each call gives its part of the definition.
use native.Mathlib.Numerals.{add-one}
use Rattle.sweeps.specs.Sweeps.{diffuse_stage}
use Rattle.sweeps.proofs.diffuse_stage.Goals as goal

pub returns : goal.returns
unfolding diffuse_stage
returns c = rw (c.diffuser_weight-w.ensures, c.svf-s.ensures, add-one)
