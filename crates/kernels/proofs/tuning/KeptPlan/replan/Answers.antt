-- `KeptPlan::replan` meets its contract: what is kept is of the same ratio, or it is worked out.
use Rattle.kernels.proofs.tuning.KeptPlan.replan.Goals as goal

pub returns-then-code-ne13 : goal.returns-then-code-ne13
returns-then-code-ne13 c = (c.requires.1, λ k. absurd (c.if-code-ne13.true k))

pub returns-then-same : goal.returns-then-same
returns-then-same c =
    let kept = c.requires.1 in
    let key = c.same.ensures c.if-same.true in
    (kept, λ k. (kept.planned key.0, key.1))

pub returns : goal.returns
returns c =
    let next = c.plan_teeth.ensures in
    (record { widths = next.0.widths; planned = λ n. next.0 }, λ k. next)
