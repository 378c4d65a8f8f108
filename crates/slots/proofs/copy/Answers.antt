-- `copy` meets its contract.
use Rattle.std.proofs.Common.{◌≡◌, ℕ, ◌+◌, ◌<◌, List, length, get_or, drop, set, sym, ap, ◌∙◌, add-one, arith, length-drop, get_or-drop}
use lib.Ieee.{Float, nan}
use lib.Seq.{paste, paste-zero, paste-suc}
use Rattle.slots.proofs.copy.Goals as goal

-- one more number copied
one_more : (list into : List Float) (from to i : ℕ) → to + i < length into → from + i < length list
    → set (paste into to (drop from list) i) (to + i) (get_or list (from + i) nan) ≡ paste into to (drop from list) (i + 1)
one_more list into from to i a b =
    ap (set (paste into to (drop from list) i) (to + i)) (sym (get_or-drop from list i nan))
    ∙ paste-suc into to (drop from list) i nan a (simp length-drop (omega arith))
    ∙ ap (paste into to (drop from list)) (sym (add-one i))

pub loop-i-init : goal.loop-i-init
loop-i-init c = paste-zero c.args.into.now c.args.to (drop c.args.from c.args.list.now)

pub loop-i-preserved : goal.loop-i-preserved
loop-i-preserved c =
    let l = c.loop-i in
    let a = c.args in
    rw l.invariant (one_more a.list.now a.into.now a.from a.to l.i (omega arith) (omega arith))
