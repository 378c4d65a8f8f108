-- `parking::read_at` meets its contract: by the clean word, then the setup's verdict. Assumes nothing.
use Rattle.std.proofs.lemmas.Result.{err_from_is_err_and}
use Rattle.checks.specs.Accepted.{refused_by_lem, fine_by}
use Rattle.parking.proofs.Reading.{held_refused, held_fine, unclean, setup_says}
use Rattle.parking.proofs.read_at.Goals as goal

pub returns-then-file_word-gt1 : goal.returns-then-file_word-gt1
returns-then-file_word-gt1 c = held_refused _ _ _ (unclean _ _ c.file_word.ensures c.if-file_word-gt1.true)

pub returns-in_err-codes_check : goal.returns-in_err-codes_check
returns-in_err-codes_check c =
    let p = err_from_is_err_and c.from_residual.result c.from_residual.ensures.1 in
    rw (p.1, p.2) (held_refused _ _ _
    (setup_says _ _ _ _ c.file_word.ensures c.if-file_word-gt1.false c.read_setup-setup.ensures (refused_by_lem c.codes_check.ensures c.in_err-codes_check.was)))

pub returns : goal.returns
returns c =
    held_fine _ _ _ _ c.read_setup-setup.ensures c.read_cursor-cursor.ensures
    (setup_says _ _ _ _ c.file_word.ensures c.if-file_word-gt1.false c.read_setup-setup.ensures (fine_by c.codes_check.ensures c.in_ok-codes_check.was))
