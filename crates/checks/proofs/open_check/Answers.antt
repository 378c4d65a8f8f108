-- `checks::open_check` meets its contract: the setup's checks, and then the lists'.
use mathlib.Core.Path.{sym, ◌∙◌}
use Rattle.std.proofs.lemmas.Result.{err_from_is_err_and}
use Rattle.voices.specs.Calls.{check}
use Rattle.checks.specs.Checks.{check_of}
use Rattle.checks.specs.Accepted.{refused_by_lem, fine_by}
use Rattle.checks.proofs.Laws.{passes, fails, after_refused, after_fine}
use Rattle.checks.proofs.open_check.Goals as goal

pub returns-in_err-setup_check : goal.returns-in_err-setup_check
unfolding check_of check
returns-in_err-setup_check c =
    let p = err_from_is_err_and c.from_residual.result c.from_residual.ensures.1 in
    rw (p.1, p.2) (sym (after_refused _ _ (refused_by_lem c.setup_check.ensures c.in_err-setup_check.was)))

pub are_long-requires : goal.are_long-requires
unfolding check_of check
are_long-requires c = fine_by c.setup_check.ensures c.in_ok-setup_check.was

pub returns-then-not-are_long : goal.returns-then-not-are_long
unfolding check_of check
returns-then-not-are_long c =
    let o = fine_by c.setup_check.ensures c.in_ok-setup_check.was in
    sym (after_fine _ _ o ∙ rw (fails c.if-not-are_long.true c.are_long.ensures))

pub returns : goal.returns
unfolding check_of check
returns c =
    let o = fine_by c.setup_check.ensures c.in_ok-setup_check.was in
    sym (after_fine _ _ o ∙ rw (passes c.if-not-are_long.false c.are_long.ensures))
