-- `teeth::is_apart` meets its contract: the test's difference is the distance.
use mathlib.Core.Path.{subst}
use Prim.Native.Nat.{ℕ, ◌<◌}
use borrow.Author.Tests.{ltb-true}
use Rattle.teeth.specs.Needed.{apart_from}
use Rattle.teeth.proofs.is_apart.Goals as goal

pub returns : goal.returns
returns c = λ e. apart_from _ _ (subst (λ (n : ℕ). 3 < n) c.abs_diff.ensures (ltb-true 3 c.abs_diff.result e))
