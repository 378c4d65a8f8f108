-- `extended::settings_at` meets its contract: each number is read where the definition reads it.
use mathlib.Core.Path.{refl}
use Rattle.extended.specs.Extended.{settings_at}
use Rattle.extended.proofs.settings_at.Goals as goal

pub returns : goal.returns
unfolding settings_at
returns c = refl
