-- `auditions::audition` meets its contract: by the verdict. A refusal changes nothing; accepted, the scratch lists are as long as the bank's, become
-- their copies, and `block` renders on these.
use mathlib.Core.Path.{◌∙◌}
use native.Mathlib.Omega.{arith}
use Rattle.std.proofs.lemmas.Result.{err_from_is_err_and}
use Rattle.voices.specs.Accepted.{audition_accepted}
use Rattle.checks.specs.Setup.{engine}
use Rattle.checks.specs.Checks.{bank_of, block_from}
use Rattle.checks.specs.Accepted.{refused_by_lem, fine_by}
use Rattle.auditions.proofs.Hearing.{copied, refused_audition, heard_in_scratch}
use Rattle.auditions.proofs.audition.Goals as goal

pub returns-in_err-audition_check : goal.returns-in_err-audition_check
returns-in_err-audition_check c =
    let p = err_from_is_err_and c.from_residual.result c.from_residual.ensures.1 in
    rw (p.1, p.2) (refused_audition _ _ _ _ _ (refused_by_lem c.audition_check.ensures c.in_err-audition_check.was))

-- `block` on the copies
pub returns : goal.returns
returns c =
    let a = c.args in
    let q = block_from a.frames a.pitch.now a.steered a.x.now a.y.now a.audio.now a.counts.now in
    let lent = bank_of a.scratch_targets.now a.scratch_records.now a.scratch_delay.now 0 in
    let b = bank_of a.targets.now a.records.now a.delay.now a.cursor in
    let ok = fine_by c.audition_check.ensures c.in_ok-audition_check.was in
    let long = audition_accepted (engine a.setup) a.setup.voices q lent b ok in
    heard_in_scratch a.setup q lent b ok _ _ _
    (c.copy.ensures ∙ copied _ _ long.targets) (c.copy-2.ensures ∙ copied _ _ long.records) (c.copy-3.ensures ∙ copied _ _ long.delay) _ _ _ _ _ c.block.ensures

pub copy-requires : goal.copy-requires
copy-requires c =
    let a = c.args in
    let q = block_from a.frames a.pitch.now a.steered a.x.now a.y.now a.audio.now a.counts.now in
    let lent = bank_of a.scratch_targets.now a.scratch_records.now a.scratch_delay.now 0 in
    let b = bank_of a.targets.now a.records.now a.delay.now a.cursor in
    let ok = fine_by c.audition_check.ensures c.in_ok-audition_check.was in
    let long = audition_accepted (engine a.setup) a.setup.voices q lent b ok in
    (omega arith, omega (arith, long.targets))

pub copy-requires-2 : goal.copy-requires-2
copy-requires-2 c =
    let a = c.args in
    let q = block_from a.frames a.pitch.now a.steered a.x.now a.y.now a.audio.now a.counts.now in
    let lent = bank_of a.scratch_targets.now a.scratch_records.now a.scratch_delay.now 0 in
    let b = bank_of a.targets.now a.records.now a.delay.now a.cursor in
    let ok = fine_by c.audition_check.ensures c.in_ok-audition_check.was in
    let long = audition_accepted (engine a.setup) a.setup.voices q lent b ok in
    (omega arith, omega (arith, long.records))

pub copy-requires-3 : goal.copy-requires-3
copy-requires-3 c =
    let a = c.args in
    let q = block_from a.frames a.pitch.now a.steered a.x.now a.y.now a.audio.now a.counts.now in
    let lent = bank_of a.scratch_targets.now a.scratch_records.now a.scratch_delay.now 0 in
    let b = bank_of a.targets.now a.records.now a.delay.now a.cursor in
    let ok = fine_by c.audition_check.ensures c.in_ok-audition_check.was in
    let long = audition_accepted (engine a.setup) a.setup.voices q lent b ok in
    (omega arith, omega (arith, long.delay))
