-- `sentivolus::calls::sentivolus_defaults` meets its contract: the ten numbers of the library's default settings.
use Rattle.sentivolus.specs.Calls.{param_numbers}
use Rattle.sentivolus.proofs.calls.sentivolus_defaults.Goals as goal

pub returns : goal.returns
unfolding param_numbers
returns c = rw c.default_params-p.ensures
