-- `poles::section_at` meets its contract: each number is read where the definition reads it.
use mathlib.Core.Path.{refl}
use Rattle.poles.specs.Numbers.{section_at}
use Rattle.poles.proofs.section_at.Goals as goal

pub returns : goal.returns
unfolding section_at
returns c = refl
