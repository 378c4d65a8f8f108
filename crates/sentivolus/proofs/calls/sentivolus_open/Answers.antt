-- `sentivolus::calls::sentivolus_open` meets its contract: the setup is the caller's numbers, and what `open` leaves is handed on.
use mathlib.Core.Path.{subst}
use Rattle.voices.specs.Calls.{open_verdict}
use Rattle.checks.specs.declared.Setup.{Setup}
use Rattle.checks.specs.Setup.{engine}
use Rattle.checks.specs.Checks.{bank_of}
use Rattle.bank.specs.Bank.{open_by}
use Rattle.sentivolus.specs.Calls.{ListsLeft}
use Rattle.sentivolus.proofs.Left.{lists_left}
use Rattle.sentivolus.proofs.calls.sentivolus_open.Goals as goal

pub returns : goal.returns
returns c =
    let a = c.args in
    let b = bank_of a.targets.now a.records.now a.delay.now 0 in
    subst
    (λ (s : Setup). ListsLeft (open_by (open_verdict (engine s) s.voices b) s b) c.answer_number.result c.open.new.targets c.open.new.records c.open.new.delay)
    c.setup_of-s.ensures
    (lists_left _ c.open.result.answer _ 0 _ _ _ c.answer_number.ensures c.open.ensures.does)
