-- `sentivolus::calls::sentivolus_park_len` meets its contract: the setup is the caller's numbers.
use mathlib.Core.Path.{◌∙◌, ap}
use Rattle.checks.specs.declared.Setup.{Setup}
use Rattle.parking.specs.Parking.{park_length}
use Rattle.sentivolus.proofs.calls.sentivolus_park_len.Goals as goal

pub returns : goal.returns
returns c = c.park_len.ensures ∙ ap (λ (s : Setup). park_length s) c.setup_of-s.ensures
