-- `put_bytes` meets its contract. The loop's invariant: what is left to write leads where all the bytes lead. Assumes nothing.
use mathlib.Core.Path.{sym, ◌∙◌}
use Rattle.text.proofs.Writing.{puts_on, puts_end}
use Rattle.text.proofs.put_bytes.Goals as goal

pub loop-b-preserved : goal.loop-b-preserved
loop-b-preserved c = puts_on _ _ _ _ c.loop-b-test.true c.put_byte-p.ensures ∙ c.loop-b.invariant

pub returns : goal.returns
returns c = sym (puts_end _ _ _ c.loop-b-test.false) ∙ c.loop-b.invariant
