-- `bank::set` meets its contract: by the verdict. A refusal changes nothing; accepted, `set_voice` has written the voice's targets.
use mathlib.Core.List.{[]}
use Rattle.std.proofs.lemmas.Result.{err_from_is_err_and}
use Rattle.voices.specs.Calls.{set_of}
use Rattle.voices.specs.Accepted.{set_accepted}
use Rattle.checks.specs.Setup.{engine}
use Rattle.checks.specs.Checks.{bank_of}
use Rattle.checks.specs.Accepted.{refused_by_lem, fine_by}
use Rattle.bank.specs.Bank.{answer_of}
use Rattle.bank.proofs.set.Goals as goal

pub returns-in_err-set_check : goal.returns-in_err-set_check
unfolding answer_of
returns-in_err-set_check c rs ds =
    let p = err_from_is_err_and c.from_residual.result c.from_residual.ensures.1 in
    rw (p.1, p.2, refused_by_lem c.set_check.ensures c.in_err-set_check.was)

pub returns : goal.returns
unfolding answer_of set_of
returns c rs ds = rw (fine_by c.set_check.ensures c.in_ok-set_check.was, c.set_voice.ensures)

pub set_voice-requires : goal.set_voice-requires
set_voice-requires c =
    let a = c.args in
    let k = set_accepted (engine a.setup) a.setup.voices a.voice a.p (bank_of a.targets.now [] [] 0) (fine_by c.set_check.ensures c.in_ok-set_check.was) in
    (k.voice, k.targets)
