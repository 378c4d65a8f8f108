-- `checks::set_check` meets its contract: at each return the tests before it passed, and this one did not.
use mathlib.Core.Path.{sym, ◌∙◌}
use native.Mathlib.Omega.{arith}
use borrow.Author.Tests.{eq-eqb, ne_eqb, lt-ltb, le-ltb}
use Rattle.std.proofs.lemmas.Result.{err_from_is_err_and}
use Rattle.voices.specs.Calls.{check, ◌then◌}
use Rattle.checks.specs.Setup.{solo_of}
use Rattle.checks.specs.Checks.{check_of}
use Rattle.setups.proofs.Accepted.{SetupAccepted, setup_accepted}
use Rattle.checks.specs.Accepted.{refused_by_lem, fine_by}
use Rattle.checks.proofs.Laws.{after_refused}
use Rattle.checks.proofs.set_check.Goals as goal

known : (c : goal.After-struct_known-1) → SetupAccepted (solo_of c.args.setup) c.args.setup.voices
known c = setup_accepted _ _ (fine_by c.setup_check.ensures c.in_ok-setup_check.was)

pub returns-in_err-setup_check : goal.returns-in_err-setup_check
unfolding check_of check ◌then◌
returns-in_err-setup_check c =
    let p = err_from_is_err_and c.from_residual.result c.from_residual.ensures.1 in
    rw (p.1, p.2) (sym (after_refused _ _ (refused_by_lem c.setup_check.ensures c.in_err-setup_check.was)))

pub overflow_mul-setup : goal.overflow_mul-setup
unfolding check_of check ◌then◌
overflow_mul-setup c = omega (arith, (known c).voices)

pub returns-then-targets-setup : goal.returns-then-targets-setup
unfolding check_of check ◌then◌
returns-then-targets-setup c = rw (fine_by c.setup_check.ensures c.in_ok-setup_check.was, ne_eqb _ _ c.if-targets-setup.true)

pub returns-then-setup-voice : goal.returns-then-setup-voice
unfolding check_of check ◌then◌
returns-then-setup-voice c =
    let o = fine_by c.setup_check.ensures c.in_ok-setup_check.was in
    rw (o, eq-eqb _ _ c.if-targets-setup.false, le-ltb _ _ c.if-setup-voice.true)

pub returns-then-nan_knob : goal.returns-then-nan_knob
unfolding check_of check ◌then◌
returns-then-nan_knob c =
    let o = fine_by c.setup_check.ensures c.in_ok-setup_check.was in
    rw (o, eq-eqb _ _ c.if-targets-setup.false, lt-ltb _ _ c.if-setup-voice.false, sym c.nan_knob.ensures ∙ c.if-nan_knob.true)

pub returns : goal.returns
unfolding check_of check ◌then◌
returns c =
    let o = fine_by c.setup_check.ensures c.in_ok-setup_check.was in
    rw (o, eq-eqb _ _ c.if-targets-setup.false, lt-ltb _ _ c.if-setup-voice.false, sym c.nan_knob.ensures ∙ c.if-nan_knob.false)
