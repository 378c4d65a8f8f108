-- `teeth::plan_teeth` meets its contract: after i teeth their fractions, first cells, places and size are known.
use Rattle.teeth.specs.Placing.{Planning}
use Rattle.teeth.proofs.plan_teeth.Given as goal

abbrev pub invariant-loop-i : goal.invariant-loop-i
invariant-loop-i l = Planning l.len l.ratio l.chord l.i l.plan l.teeth l.firsts l.size
