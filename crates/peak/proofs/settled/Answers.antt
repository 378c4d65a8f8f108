-- `peak::settled` meets its contract: by its comparisons.
use lib.Ieee.{round, of_bits}
use Rattle.peak.specs.Running.{settled_of}
use Rattle.peak.proofs.settled.Goals as goal

pub returns-then-running : goal.returns-then-running
unfolding settled_of round of_bits
returns-then-running c = simp c.if-running.true

pub returns-then-running-2 : goal.returns-then-running-2
unfolding settled_of round of_bits
returns-then-running-2 c = simp (c.if-running.false, c.if-running-2.true)

pub returns-else-running-2 : goal.returns-else-running-2
unfolding settled_of round of_bits
returns-else-running-2 c = simp (c.if-running.false, c.if-running-2.false)
