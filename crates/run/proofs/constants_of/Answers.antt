-- `run::constants_of` meets its contract: by the mark, and each call gives its part of the definition.
use mathlib.Core.Path.{refl}
use lib.Ieee.{of_bits, round, div}
use Rattle.run.specs.Run.{constants_of}
use Rattle.run.proofs.constants_of.Goals as goal
use Rattle.run.proofs.constants_of.Goals.{then-clean, else-clean}

pub returns : goal.returns
unfolding constants_of of_bits round div
returns c =
    elim c.if-clean.branch [
      | then-clean w ↦ rw (w.factor-is, w.clean_drive-factor.ensures, c.exp.ensures, w.if-clean.true) refl
      | else-clean w ↦ rw (w.factor-is, c.exp.ensures, w.if-clean.false) refl
    ]
