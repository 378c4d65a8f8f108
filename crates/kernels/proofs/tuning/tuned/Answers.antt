-- `kernels::tuning::tuned` meets its contract: the list is that of the structure's numbers.
use mathlib.Core.Path.{ap}
use mathlib.Core.List.{[], ◌∷◌}
use Rattle.kernels.specs.declared.tuning.Numbers.{Numbers}
use Rattle.kernels.specs.Tuning.{tuning_of}
use Rattle.kernels.proofs.tuning.tuned.Goals as goal

pub returns : goal.returns
unfolding tuning_of
returns c =
    let numbers = c.numbers_of-c.ensures in
    let a = c.args in (
      ap (λ (n : Numbers). n.0 ∷ n.1 ∷ n.2 ∷ n.3 ∷ n.4 ∷ n.5 ∷ n.6 ∷ n.7 ∷ a.pitch.0 ∷ a.p.character ∷ []) numbers.0,
      numbers.1,
    )
