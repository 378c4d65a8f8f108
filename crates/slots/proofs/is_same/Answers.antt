-- `is_same` meets its contract. The loop's invariant: the first i numbers are the same.
use Rattle.std.proofs.Common.{◌≡◌, ℕ, take, drop, sym, ap, ◌∙◌, arith}
use Rattle.slots.proofs.is_same.Goals as goal

pub returns : goal.returns
returns c r =
    let l = c.loop-i in
    let a = c.args in
    let e : l.i ≡ a.n = omega arith in
    ap (λ (k : ℕ). take k a.other.now) (sym e) ∙ l.invariant ∙ ap (λ (k : ℕ). take k (drop a.from a.list.now)) e
