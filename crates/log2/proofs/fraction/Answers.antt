-- `fraction` meets its contract. The loop's invariant: the rounds that are left, from the r and f held, give the answer (Rounds.antt). Assumes nothing.
use borrow.Author.Rules.{rules}
use Rattle.log2.proofs.Rounds.{again, done}
use Rattle.log2.proofs.fraction.Goals as goal

pub loop-preserved : goal.loop-preserved
loop-preserved c = again c.args.m c.loop.r c.loop.f c.loop.counter (search rules) c.loop.invariant

pub returns : goal.returns
returns c = done c.args.m c.loop.r c.loop.f c.loop.counter (search rules) (search rules) c.loop.invariant
