-- `put_samples` meets its contract. The loop's invariant: the lines from frame i on lead where all the lines lead. Assumes nothing.
use Rattle.std.proofs.Common.{sym, ◌∙◌}
use Rattle.impulses.proofs.Writing.{samples_on, samples_end}
use Rattle.impulses.proofs.put_samples.Goals as goal

pub loop-i-preserved : goal.loop-i-preserved
loop-i-preserved c = samples_on _ _ _ _ c.loop-i-test.true c.put_sample-p.ensures ∙ c.loop-i.invariant

pub returns : goal.returns
returns c = sym (samples_end _ _ _ c.loop-i-test.false) ∙ c.loop-i.invariant
