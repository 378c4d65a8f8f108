-- `parking::read_file` meets its contract: the checks up to 5, then the survey. Assumes nothing.
use native.Mathlib.Omega.{arith}
use Rattle.std.proofs.lemmas.Result.{err_from_is_err_and}
use Rattle.parking.proofs.Surveying.{read_refused, known, small, room, none, read_missing, read_whole}
use Rattle.parking.proofs.read_file.Goals as goal

pub returns-in_err-held : goal.returns-in_err-held
returns-in_err-held c =
    let p = err_from_is_err_and c.from_residual.result c.from_residual.ensures.1 in
    rw (p.1, p.2) (read_refused _ _ c.read_head.ensures _ _ c.in_err-held.was)

pub overflow_mul-sizes : goal.overflow_mul-sizes
overflow_mul-sizes c = omega (arith, (known _ _ c.read_head.ensures _ c.in_ok-held.was).slots)

pub overflow_add-sizes : goal.overflow_add-sizes
overflow_add-sizes c = omega (arith, c.ring_len.ensures, (known _ _ c.read_head.ensures _ c.in_ok-held.was).longest)

pub survey-requires : goal.survey-requires
survey-requires c =
    let clear = c.requires in
    record {
      small = small _ _ c.read_head.ensures _ c.in_ok-held.was _ c.ring_len.ensures;
      fits = room _ _ c.read_head.ensures _ c.in_ok-held.was _ c.ring_len.ensures _ clear;
      clear = none _ _ c.read_head.ensures _ c.in_ok-held.was _ c.ring_len.ensures _ clear;
    }

pub returns-then-not-survey : goal.returns-then-not-survey
returns-then-not-survey c = read_missing _ _ c.read_head.ensures _ c.in_ok-held.was _ c.ring_len.ensures _ _ c.survey.ensures c.if-not-survey.true

pub returns : goal.returns
returns c = read_whole _ _ c.read_head.ensures _ c.in_ok-held.was _ c.ring_len.ensures _ _ c.survey.ensures c.if-not-survey.false
