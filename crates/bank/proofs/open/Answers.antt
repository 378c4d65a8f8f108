-- `bank::open` meets its contract: by the verdict. A refusal changes nothing; accepted, `open_voices` has set and started every voice.
use mathlib.Core.Path.{refl, ap}
use mathlib.Core.List.{◌∷◌, []}
use Rattle.voices.specs.Calls.{Bank, kept}
use Rattle.voices.specs.Accepted.{open_accepted}
use Rattle.checks.specs.Setup.{engine}
use Rattle.checks.specs.Checks.{bank_of}
use Rattle.checks.specs.Accepted.{refused_by_lem, fine_by}
use Rattle.bank.specs.Bank.{answer_of}
use Rattle.bank.proofs.open.Goals as goal

pub returns-in-Err : goal.returns-in-Err
unfolding answer_of
returns-in-Err c = record { does = rw (refused_by_lem c.open_check.ensures c.in-Err.is); setup = refl }

pub returns : goal.returns
unfolding answer_of
returns c = record {
  does = rw (fine_by c.open_check.ensures c.in_default.is) (ap (λ (b : Bank). record { bank = b; log = kept 0 ∷ [] }) c.open_voices.ensures);
  setup = refl;
}

pub open_voices-requires : goal.open_voices-requires
open_voices-requires c =
    let a = c.args in
    let b = bank_of a.targets.now a.records.now a.delay.now 0 in
    let k = open_accepted (engine a.setup) a.setup.voices b (fine_by c.open_check.ensures c.in_default.is) in
    record { setup = k.setup; lengths = k.lengths }
