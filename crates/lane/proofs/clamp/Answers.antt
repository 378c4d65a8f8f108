-- `lane::clamp` meets its contract: by the two tests.
use Rattle.lane.specs.Lane.{clamp_of}
use Rattle.lane.proofs.clamp.Goals as goal

pub returns-then-v-lo : goal.returns-then-v-lo
unfolding clamp_of
returns-then-v-lo c = simp c.if-v-lo.true

pub returns-then-v-hi : goal.returns-then-v-hi
unfolding clamp_of
returns-then-v-hi c = simp (c.if-v-lo.false, c.if-v-hi.true)

pub returns-else-v-hi : goal.returns-else-v-hi
unfolding clamp_of
returns-else-v-hi c = simp (c.if-v-lo.false, c.if-v-hi.false)
