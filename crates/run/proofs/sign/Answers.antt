-- `run::sign` meets its contract: by the two tests.
use borrow.Author.Tests.{eq-eqb, ne_eqb}
use lib.Ieee.{of_bits, round}
use Rattle.run.specs.Run.{sign_of}
use Rattle.run.proofs.sign.Goals as goal

pub returns-then-channels-eq1 : goal.returns-then-channels-eq1
unfolding sign_of of_bits round
returns-then-channels-eq1 c = simp (eq-eqb _ _ c.if-channels-eq1.true)

pub returns-then-channel-eq0 : goal.returns-then-channel-eq0
unfolding sign_of of_bits round
returns-then-channel-eq0 c = simp (ne_eqb _ _ c.if-channels-eq1.false, eq-eqb _ _ c.if-channel-eq0.true)

pub returns-else-channel-eq0 : goal.returns-else-channel-eq0
unfolding sign_of of_bits round
returns-else-channel-eq0 c = simp (ne_eqb _ _ c.if-channels-eq1.false, ne_eqb _ _ c.if-channel-eq0.false)
