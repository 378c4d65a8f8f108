-- `sentivolus::calls::sentivolus_start` meets its contract: the setup is the caller's numbers, and what `start` leaves is handed on.
use mathlib.Core.Path.{subst}
use Rattle.voices.specs.Calls.{call_start, call}
use Rattle.checks.specs.declared.Setup.{Setup}
use Rattle.checks.specs.Setup.{engine}
use Rattle.checks.specs.Checks.{bank_of}
use Rattle.bank.specs.Bank.{before}
use Rattle.sentivolus.specs.Calls.{ListsLeft}
use Rattle.sentivolus.proofs.Left.{lists_left}
use Rattle.sentivolus.proofs.calls.sentivolus_start.Goals as goal

pub returns : goal.returns
returns c =
    let a = c.args in
    subst
    (λ (s : Setup). ListsLeft (call (engine s) s.voices (call_start a.voice) (before (bank_of a.targets.now a.records.now a.delay.now 0))) c.answer_number.result a.targets.now c.start.new.records c.start.new.delay)
    c.setup_of-s.ensures
    (lists_left _ c.start.result _ 0 _ _ _ c.answer_number.ensures c.start.ensures)
