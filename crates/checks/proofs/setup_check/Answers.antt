-- `checks::setup_check` meets its contract: the checks up to 5, and then the chord's.
use mathlib.Core.Path.{sym, ◌∙◌}
use Rattle.std.proofs.lemmas.Result.{err_from_is_err_and}
use Rattle.setups.specs.Setup.{setup_check_of}
use Rattle.voices.specs.Calls.{check}
use Rattle.checks.specs.Checks.{check_of}
use Rattle.checks.specs.Accepted.{refused_by_lem, fine_by}
use Rattle.checks.proofs.Laws.{after_refused, after_fine}
use Rattle.checks.proofs.setup_check.Goals as goal

pub returns-in_err-codes_check : goal.returns-in_err-codes_check
unfolding check_of setup_check_of check
returns-in_err-codes_check c =
    let p = err_from_is_err_and c.from_residual.result c.from_residual.ensures.1 in
    rw (p.1, p.2) (sym (after_refused _ _ (refused_by_lem c.codes_check.ensures c.in_err-codes_check.was)))

pub returns-then-chord_refused : goal.returns-then-chord_refused
unfolding check_of setup_check_of check
returns-then-chord_refused c = sym (after_fine _ _ (fine_by c.codes_check.ensures c.in_ok-codes_check.was) ∙ rw (sym c.if-chord_refused.ensures))

pub returns : goal.returns
unfolding check_of setup_check_of check
returns c = sym (after_fine _ _ (fine_by c.codes_check.ensures c.in_ok-codes_check.was) ∙ rw (sym c.if-chord_refused.ensures))
