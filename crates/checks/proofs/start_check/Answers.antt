-- `checks::start_check` meets its contract: the checks of open, and then the voice's.
use mathlib.Core.Path.{sym, ◌∙◌}
use borrow.Author.Tests.{lt-ltb, le-ltb}
use Rattle.std.proofs.lemmas.Result.{err_from_is_err_and}
use Rattle.voices.specs.Calls.{check}
use Rattle.checks.specs.Checks.{check_of}
use Rattle.checks.specs.Accepted.{refused_by_lem, fine_by}
use Rattle.checks.proofs.Laws.{after_two_refused, after_two_fine}
use Rattle.checks.proofs.start_check.Goals as goal

pub returns-in_err-open_check : goal.returns-in_err-open_check
unfolding check_of check
returns-in_err-open_check c =
    let p = err_from_is_err_and c.from_residual.result c.from_residual.ensures.1 in
    rw (p.1, p.2) (sym (after_two_refused _ _ _ (refused_by_lem c.open_check.ensures c.in_err-open_check.was)))

pub returns-then-setup-voice : goal.returns-then-setup-voice
unfolding check_of check
returns-then-setup-voice c = sym (after_two_fine _ _ _ (fine_by c.open_check.ensures c.in_ok-open_check.was) ∙ rw (le-ltb _ _ c.if-setup-voice.true))

pub returns : goal.returns
unfolding check_of check
returns c = sym (after_two_fine _ _ _ (fine_by c.open_check.ensures c.in_ok-open_check.was) ∙ rw (lt-ltb _ _ c.if-setup-voice.false))
