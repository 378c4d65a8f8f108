-- `sentivolus::calls::sentivolus_audition` meets its contract: the setup is the caller's numbers, and what `audition` leaves is handed on.
use mathlib.Core.Path.{subst}
use Rattle.checks.specs.declared.Setup.{Setup}
use Rattle.checks.specs.Checks.{bank_of, block_from}
use Rattle.sentivolus.specs.Calls.{AuditionLeaves}
use Rattle.sentivolus.proofs.Left.{audition_done, audition_refused}
use Rattle.sentivolus.proofs.calls.sentivolus_audition.Goals as goal

pub returns-in-Ok : goal.returns-in-Ok
returns-in-Ok c =
    let a = c.args in
    let q = block_from a.frames a.pitch.now a.steered a.x.now a.y.now a.audio.now a.counts.now in
    let lent = bank_of a.scratch_targets.now a.scratch_records.now a.scratch_delay.now a.scratch_cursor.now in
    let b = bank_of a.targets.now a.records.now a.delay.now a.cursor in
    let l = c.audition-answer.new in
    subst
    (λ (s : Setup). AuditionLeaves s q lent b a.rendered.now 0 c.in-Ok.block.cursor c.in-Ok.block.frames l.scratch_targets l.scratch_records l.scratch_delay l.audio l.counts)
    c.setup_of-s.ensures
    (audition_done _ q lent b _ _ _ _ _ _ a.rendered.now c.audition-answer.ensures _ c.in-Ok.is)

pub returns-in-Err : goal.returns-in-Err
returns-in-Err c =
    let a = c.args in
    let q = block_from a.frames a.pitch.now a.steered a.x.now a.y.now a.audio.now a.counts.now in
    let lent = bank_of a.scratch_targets.now a.scratch_records.now a.scratch_delay.now a.scratch_cursor.now in
    let b = bank_of a.targets.now a.records.now a.delay.now a.cursor in
    let l = c.audition-answer.new in
    subst
    (λ (s : Setup). AuditionLeaves s q lent b a.rendered.now c.from.result a.scratch_cursor.now a.rendered.now l.scratch_targets l.scratch_records l.scratch_delay l.audio l.counts)
    c.setup_of-s.ensures
    (audition_refused _ q lent b _ _ _ _ _ _ a.rendered.now c.audition-answer.ensures _ _ c.in-Err.is c.from.ensures)
