-- `lines::held` meets its contract: by the two tests, which are the clamp's.
use lib.Ieee.{of_bits, of_int, round}
use Rattle.lines.proofs.Delay.{held_tests}
use Rattle.lines.proofs.held.Goals as goal

pub returns-then-delay-longest : goal.returns-then-delay-longest
unfolding of_bits of_int round
returns-then-delay-longest c = rw (held_tests c.args.len c.args.delay c.requires.0 c.requires.1) (simp (c.if-delay.true, c.if-delay-longest.true))

pub returns-else-delay-longest : goal.returns-else-delay-longest
unfolding of_bits of_int round
returns-else-delay-longest c = rw (held_tests c.args.len c.args.delay c.requires.0 c.requires.1) (simp (c.if-delay.true, c.if-delay-longest.false))

pub returns-else-delay : goal.returns-else-delay
unfolding of_bits round
returns-else-delay c = rw (held_tests c.args.len c.args.delay c.requires.0 c.requires.1) (simp c.if-delay.false)
