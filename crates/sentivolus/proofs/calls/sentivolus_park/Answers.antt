-- `sentivolus::calls::sentivolus_park` meets its contract: the setup is the caller's numbers, and what `park` leaves is handed on.
use mathlib.Core.Path.{subst}
use Rattle.checks.specs.declared.Setup.{Setup}
use Rattle.checks.specs.Checks.{bank_of}
use Rattle.sentivolus.specs.Calls.{ParkLeft}
use Rattle.sentivolus.proofs.Held.{park_left}
use Rattle.sentivolus.proofs.calls.sentivolus_park.Goals as goal

pub returns : goal.returns
returns c =
    let a = c.args in
    let b = bank_of a.targets.now a.records.now a.delay.now a.cursor in
    subst (λ (s : Setup). ParkLeft s b a.file.now c.answer_number.result c.park.new.file) c.setup_of-s.ensures (park_left _ b _ _ _ _ c.answer_number.ensures c.park.ensures)
