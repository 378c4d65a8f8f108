-- `peak::larger` meets its contract: by its comparison.
use Rattle.peak.proofs.larger.Goals as goal

pub returns-then-a-b : goal.returns-then-a-b
returns-then-a-b c = simp c.if-a-b.true

pub returns-else-a-b : goal.returns-else-a-b
returns-else-a-b c = simp c.if-a-b.false
