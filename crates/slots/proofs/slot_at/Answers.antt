-- `slot_at` meets its contract: the slot's place among the slots.
use Rattle.std.proofs.Common.{refl}
use Rattle.slots.proofs.slot_at.Goals as goal

pub returns : goal.returns
returns c =
    let at = c.place_at-number.ensures in (
      record { channel = c.requires.1; voice = c.requires.2; number = at.0; below = at.1; sign = c.sign.ensures },
      refl,
      refl,
    )
