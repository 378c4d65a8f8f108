-- `start` meets its contract. The loop's invariant: of the words left, counted from p, the last starts where it is sought. Assumes nothing.
use Rattle.std.proofs.Common.{◌∙◌}
use Rattle.words.proofs.Reading.{start_on, start_end}
use Rattle.words.proofs.start.Goals as goal

pub loop-preserved : goal.loop-preserved
loop-preserved c = start_on _ _ _ _ _ c.loop-test.true c.next-p.ensures ∙ c.loop.invariant

pub returns : goal.returns
returns c = start_end _ _ _ _ c.loop-test.false ∙ c.loop.invariant
