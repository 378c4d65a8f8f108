-- `put_runs` meets its contract. Assumes nothing.
use Rattle.std.proofs.Common.{sym, ◌∙◌}
use native.Mathlib.Omega.{arith}
use Rattle.words.proofs.Writing.{run_least, runs_on, runs_end}
use Rattle.words.proofs.put_runs.Goals as goal

pub loop-rest-smaller : goal.loop-rest-smaller
loop-rest-smaller c = omega (arith, run_least _ c.loop-rest.rest.now (omega arith) c.bits_of-bits.ensures, c.run_len-n.ensures, c.split_at.ensures)

pub loop-rest-preserved : goal.loop-rest-preserved
loop-rest-preserved c =
    let n = c.run_len-n in
    runs_on _ c.loop-rest.rest.now _ n.result _ _ (omega arith) c.bits_of-bits.ensures n.ensures.count c.split_at.ensures.back c.put_run-p.ensures ∙ c.loop-rest.invariant

pub returns : goal.returns
returns c = sym (runs_end _ _ (omega arith)) ∙ c.loop-rest.invariant
