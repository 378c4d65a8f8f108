-- `places::mark_all` meets its contract. Assumes nothing.
use native.Mathlib.Omega.{arith}
use mathlib.Core.Path.{◌≡◌}
use Prim.Native.Nat.{◌<◌}
use lib.ListN.{get_or}
use Rattle.std.proofs.Math.Decide.{dec_le}
use Rattle.places.proofs.Entering.{number_is, entered_unknown, entered_doubled, entered_more}
use Rattle.places.proofs.mark_all.Goals as goal

pub returns-then-k-n : goal.returns-then-k-n
returns-then-k-n c =
    let k = number_is _ _ _ _ _ _ _ c.index_of-k.ensures c.get_word.ensures in
    let taken : c.index_of-k.result < c.total-n.result → get_or c.loop-b.pos c.index_of-k.result 0 ≡ 0 → ⊥ = λ l e. grind arith in
    elim (dec_le c.total-n.result c.index_of-k.result) [
      | yes h ↦ entered_unknown _ _ _ _ _ _ k c.loop-b-test.true (omega arith) (omega arith)
      | no h ↦ entered_doubled _ _ _ _ _ _ c.loop-b.invariant k c.loop-b-test.true (omega arith) (taken (omega arith)) (omega arith)
    ]

pub loop-b-preserved : goal.loop-b-preserved
loop-b-preserved c =
    entered_more _ _ _ _ _ c.loop-b.invariant (number_is _ _ _ _ _ _ _ c.index_of-k.ensures c.get_word.ensures) (omega arith) (omega arith) (omega arith)
