-- `parking::restore` meets its contract: the file's checks, then 6, then the lists. Assumes nothing.
use native.Mathlib.Omega.{arith}
use lib.ListN.{get_or-replicate}
use Rattle.std.proofs.lemmas.Result.{err_from_is_err_and}
use Rattle.checks.specs.Accepted.{refused_by_lem, fine_by}
use Rattle.parking.proofs.Restoring.{file_refused, accepted, store_refused, ready, filled}
use Rattle.parking.proofs.restore.Goals as goal

pub returns-in_err-held : goal.returns-in_err-held
returns-in_err-held c =
    let p = err_from_is_err_and c.from_residual.result c.from_residual.ensures.1 in
    rw (p.1, p.2) (file_refused _ _ _ c.read_file.ensures _ _ _ _ c.in_err-held.was)

pub returns-in_err-open_check : goal.returns-in_err-open_check
returns-in_err-open_check c =
    let r = c.from_residual-in_err-open_check in
    let p = err_from_is_err_and r.result r.ensures.1 in
    rw (p.1, p.2) (store_refused _ _ _ c.read_file.ensures _ _ _ _ c.in_ok-held.was _ (refused_by_lem c.open_check.ensures c.in_err-open_check.was))

pub overflow_mul-setup : goal.overflow_mul-setup
overflow_mul-setup c =
    let a = c.args in
    omega (arith, (accepted _ _ _ c.read_file.ensures a.targets.now a.records.now a.delay.now _ c.in_ok-held.was).slots)

pub overflow_add-len : goal.overflow_add-len
overflow_add-len c =
    let a = c.args in
    omega (arith, c.ring_len-len.ensures, (accepted _ _ _ c.read_file.ensures a.targets.now a.records.now a.delay.now _ c.in_ok-held.was).longest)

pub restore_lists-requires : goal.restore_lists-requires
restore_lists-requires c =
    let a = c.args in
    ready _ _ _ c.read_file.ensures a.targets.now a.records.now a.delay.now _ c.in_ok-held.was
    (fine_by c.open_check.ensures c.in_ok-open_check.was) _ c.ring_len-len.ensures (omega arith)

pub returns : goal.returns
returns c =
    filled _ _ _ c.read_file.ensures _ _ _ _ c.in_ok-held.was (fine_by c.open_check.ensures c.in_ok-open_check.was) _ c.ring_len-len.ensures _ _ _
    c.restore_lists.ensures

pub read_file-requires : goal.read_file-requires
read_file-requires c = record { size = (omega arith); clear = λ k l. get_or-replicate 16722 k 0 0 l }
