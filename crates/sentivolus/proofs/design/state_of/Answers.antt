-- `sentivolus::design::state_of` meets its contract: each point is the definition's.
use native.Mathlib.Nat.{add-zero}
use Rattle.sentivolus.specs.Design.{state_of}
use Rattle.sentivolus.proofs.design.state_of.Goals as goal

pub returns : goal.returns
unfolding state_of
returns c = rw add-zero (cc)
