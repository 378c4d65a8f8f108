-- `poles::pole_stage` meets its contract: each call gives its part of the definition.
use native.Mathlib.Numerals.{add-one}
use Rattle.poles.specs.Poles.{pole_stage}
use Rattle.poles.proofs.pole_stage.Goals as goal

pub returns : goal.returns
unfolding pole_stage
returns c = rw (c.pole_mix.ensures, c.svf-s.ensures, add-one)
