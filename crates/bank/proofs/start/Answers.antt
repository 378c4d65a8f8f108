-- `bank::start` meets its contract: by the verdict. A refusal changes nothing; accepted, `start_voice` has started every channel.
use mathlib.Core.Path.{ap}
use Rattle.std.proofs.lemmas.Result.{err_from_is_err_and}
use Rattle.voices.specs.Calls.{Bank, kept}
use Rattle.voices.specs.Accepted.{start_accepted}
use mathlib.Core.List.{◌∷◌, []}
use Rattle.checks.specs.Setup.{engine}
use Rattle.checks.specs.Checks.{bank_of}
use Rattle.checks.specs.Accepted.{refused_by_lem, fine_by}
use Rattle.bank.specs.Bank.{answer_of}
use Rattle.bank.proofs.start.Goals as goal

pub returns-in_err-start_check : goal.returns-in_err-start_check
unfolding answer_of
returns-in_err-start_check c =
    let p = err_from_is_err_and c.from_residual.result c.from_residual.ensures.1 in
    rw (p.1, p.2, refused_by_lem c.start_check.ensures c.in_err-start_check.was)

pub returns : goal.returns
unfolding answer_of
returns c =
    let cur = c.args.cursor in
    rw (fine_by c.start_check.ensures c.in_ok-start_check.was) (ap (λ (b : Bank). record { bank = b; log = kept cur ∷ [] }) (c.start_voice.ensures cur))

pub start_voice-requires : goal.start_voice-requires
start_voice-requires c =
    let a = c.args in
    let b = bank_of a.targets.now a.records.now a.delay.now 0 in
    let k = start_accepted (engine a.setup) a.setup.voices a.voice b (fine_by c.start_check.ensures c.in_ok-start_check.was) in
    (record { setup = k.setup; lengths = k.lengths }, k.voice)
