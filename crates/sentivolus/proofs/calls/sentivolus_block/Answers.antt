-- `sentivolus::calls::sentivolus_block` meets its contract: the setup is the caller's numbers, and what `block` leaves is handed on.
use mathlib.Core.Path.{subst}
use Rattle.checks.specs.declared.Setup.{Setup}
use Rattle.checks.specs.Checks.{bank_of, block_from}
use Rattle.sentivolus.specs.Calls.{BlockLeaves}
use Rattle.sentivolus.proofs.Left.{block_done, block_refused}
use Rattle.sentivolus.proofs.calls.sentivolus_block.Goals as goal

pub returns-in-Ok : goal.returns-in-Ok
returns-in-Ok c =
    let a = c.args in
    let q = block_from a.frames a.pitch.now a.steered a.x.now a.y.now a.audio.now a.counts.now in
    let b = bank_of a.targets.now a.records.now a.delay.now a.cursor.now in
    let l = c.block-answer.new in
    subst (λ (s : Setup). BlockLeaves s q b a.rendered.now 0 c.in-Ok.block.cursor c.in-Ok.block.frames l.records l.delay l.audio l.counts) c.setup_of-s.ensures
    (block_done _ q b _ _ _ _ _ a.rendered.now c.block-answer.ensures _ c.in-Ok.is)

pub returns-in-Err : goal.returns-in-Err
returns-in-Err c =
    let a = c.args in
    let q = block_from a.frames a.pitch.now a.steered a.x.now a.y.now a.audio.now a.counts.now in
    let b = bank_of a.targets.now a.records.now a.delay.now a.cursor.now in
    let l = c.block-answer.new in
    subst (λ (s : Setup). BlockLeaves s q b a.rendered.now c.from.result a.cursor.now a.rendered.now l.records l.delay l.audio l.counts) c.setup_of-s.ensures
    (block_refused _ q b _ _ _ _ _ a.rendered.now c.block-answer.ensures _ _ c.in-Err.is c.from.ensures)
