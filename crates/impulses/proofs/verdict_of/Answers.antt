-- `verdict_of` meets its contract: the setup's refusals are 1 and 5 alone, then come those of `after_setup`. Assumes nothing.
use Rattle.std.proofs.Common.{◌≡◌, true, false, ◌∙◌, rules}
use Rattle.setups.specs.Setup.{within}
use Rattle.impulses.proofs.Verdicts.{refused_is, rate_refused_lem, code_accepted, code_refused}
use Rattle.impulses.proofs.verdict_of.Goals as goal

pub returns-then-rate_refused : goal.returns-then-rate_refused
returns-then-rate_refused c = rate_refused_lem _ _ _ (refused_is _ _ _ _ c.nearest_u32_to_f32.ensures c.rate_refused.ensures c.if-rate_refused.true)

pub returns-then-not-contains : goal.returns-then-not-contains
returns-then-not-contains c =
    let h : within 1 13 c.args.asked.code ≡ false = search rules in
    code_refused _ _ _ (refused_is _ _ _ _ c.nearest_u32_to_f32.ensures c.rate_refused.ensures c.if-rate_refused.false) h

pub returns : goal.returns
returns c =
    let h : within 1 13 c.args.asked.code ≡ true = search rules in
    c.after_setup.ensures ∙ code_accepted _ _ _ (refused_is _ _ _ _ c.nearest_u32_to_f32.ensures c.rate_refused.ensures c.if-rate_refused.false) h
