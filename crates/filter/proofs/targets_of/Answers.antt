-- `filter::targets_of` meets its contract: the operations are the definition's.
use Rattle.filter.specs.Voice.{targets_of}
use Rattle.filter.proofs.targets_of.Goals as goal

pub returns : goal.returns
unfolding targets_of
returns c =
    rw (
      c.unit_or_nan-4.ensures,
      c.level.ensures,
      c.unit_or_nan-3.ensures,
      c.finite_or_0.ensures,
      c.inverse_knee.ensures,
      c.unit_or_nan-2.ensures,
      c.drive_gain.ensures,
      c.unit_or_nan.ensures,
      c.unit_or_nan-drive.ensures,
    )
