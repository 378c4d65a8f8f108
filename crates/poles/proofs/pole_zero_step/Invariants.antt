-- `poles::pole_zero_step` meets its contract. The loop's invariant: after j turns, the states and the signal are those of j
-- sections in series.
use mathlib.Core.Path.{◌≡◌}
use Rattle.parts.specs.Parts.{upto}
use Rattle.extended.specs.Extended.{ticked}
use Rattle.poles.specs.Poles.{pole_stage}
use Rattle.poles.specs.Numbers.{section_at}
use Rattle.poles.proofs.pole_zero_step.Given as goal

abbrev pub invariant-loop-j : goal.invariant-loop-j
invariant-loop-j l = ticked l.u l.state ≡ upto (λ i. pole_stage (section_at l.numbers i) i) l.j (ticked l.initial.u l.initial.state)
