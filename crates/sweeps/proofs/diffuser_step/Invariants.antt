-- `sweeps::diffuser_step` meets its contract. The loop's invariant: after j turns, the states, the signal and the output are
-- those of j stages.
use mathlib.Core.Path.{◌≡◌}
use Rattle.parts.specs.Parts.{upto}
use Rattle.sweeps.specs.Sweeps.{diffuse_stage}
use Rattle.sweeps.proofs.diffuser_step.Given as goal

abbrev pub invariant-loop-j : goal.invariant-loop-j
invariant-loop-j l = l.d ≡ upto (diffuse_stage l.c) l.j l.initial.d
