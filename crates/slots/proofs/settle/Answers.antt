-- `settle` meets its contract.
use Rattle.std.proofs.Common.{refl, true≢false}
use Rattle.slots.proofs.settle.Goals as goal

pub returns : goal.returns
returns c = (
  record {
    stays = λ h. absurd (true≢false h);
    rests = λ h. record { as_before = c.is_at_rest.ensures c.if-not-is_at_rest.false; rested = c.rest-f.ensures; counted = refl };
  },
  refl,
)
