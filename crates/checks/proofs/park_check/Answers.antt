-- `checks::park_check` meets its contract: the checks of open, the list to be written, and then the axes and the code.
use mathlib.Core.Path.{◌≡◌, sym, ◌∙◌}
use borrow.Author.Tests.{eq-eqb, ne_eqb}
use Prim.Native.Nat.{ℕ}
use Rattle.std.proofs.lemmas.Result.{err_from_is_err_and}
use Rattle.voices.specs.Calls.{fine, check, file_check, file_length}
use Rattle.voices.specs.Accepted.{then_fine}
use Rattle.setups.proofs.Back.{long}
use Rattle.checks.specs.Setup.{solo_of, engine}
use Rattle.checks.specs.declared.Setup.{Setup}
use Rattle.checks.specs.Checks.{check_of, bank_of}
use Rattle.checks.specs.Accepted.{refused_by_lem, fine_by}
use Rattle.checks.proofs.Laws.{after_two_refused, third_refused, after_three_fine}
use Rattle.checks.proofs.park_check.Goals as goal
use Rattle.checks.proofs.park_check.Goals.{then-setup-via-then-setup, then-setup-via-else-setup+then-setup-eq13}
use Rattle.checks.proofs.park_check.Goals.{then-setup-via-else-setup+else-setup-eq13+then-not-is_flat}

-- a file as long as the blocks
filed : (s : Setup) (written n : ℕ) → n ≡ file_length (engine s) s.voices → written ≡ n → file_check (engine s) s.voices written ≡ fine
unfolding check
filed s written n l e = rw (← l, eq-eqb _ _ e)

pub returns-in_err-open_check : goal.returns-in_err-open_check
unfolding check_of check
returns-in_err-open_check c =
    let p = err_from_is_err_and c.from_residual.result c.from_residual.ensures.1 in
    rw (p.1, p.2) (sym (after_two_refused _ _ _ (refused_by_lem c.open_check.ensures c.in_err-open_check.was)))

pub file_length-requires : goal.file_length-requires
unfolding check_of check
file_length-requires c = (then_fine _ _ (fine_by c.open_check.ensures c.in_ok-open_check.was)).0

pub returns-then-written-file_length : goal.returns-then-written-file_length
unfolding check_of check
returns-then-written-file_length c =
    let o = fine_by c.open_check.ensures c.in_ok-open_check.was in
    sym (third_refused _ _ _ _ o (rw (← c.file_length.ensures, ne_eqb _ _ c.if-written-file_length.true)))

pub returns-then-setup : goal.returns-then-setup
unfolding check_of check
returns-then-setup c =
    let o = fine_by c.open_check.ensures c.in_ok-open_check.was in
    sym (after_three_fine _ _ _ _ o (filed c.args.setup _ _ c.file_length.ensures c.if-written-file_length.false)
    ∙ elim c.then-setup.branch [
      | then-setup-via-then-setup w ↦ rw w.if-setup.true
      | then-setup-via-else-setup+then-setup-eq13 w ↦ rw (w.if-setup.false, eq-eqb _ _ w.if-setup-eq13.true)
      | then-setup-via-else-setup+else-setup-eq13+then-not-is_flat w ↦ rw (w.if-setup.false, ne_eqb _ _ w.if-setup-eq13.false, sym w.if-not-is_flat.ensures)
    ])

pub is_flat-requires-clause-lists : goal.is_flat-requires-clause-lists
is_flat-requires-clause-lists c =
    let o = fine_by c.open_check.ensures c.in_ok-open_check.was in
    let a = c.args in
    let l = long (solo_of a.setup) a.setup.voices (bank_of a.targets.now a.records.now a.delay.now 0) (then_fine _ _ o).1 in
    (l.targets, l.records)

pub is_flat-requires-clause-accepted : goal.is_flat-requires-clause-accepted
is_flat-requires-clause-accepted c = (then_fine _ _ (fine_by c.open_check.ensures c.in_ok-open_check.was)).0

pub returns : goal.returns
unfolding check_of check
returns c =
    let o = fine_by c.open_check.ensures c.in_ok-open_check.was in
    sym (after_three_fine _ _ _ _ o (filed c.args.setup _ _ c.file_length.ensures c.if-written-file_length.false)
    ∙ rw (c.if-setup.false, ne_eqb _ _ c.if-setup-eq13.false, sym c.if-not-is_flat.ensures))
