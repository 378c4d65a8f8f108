-- `scaled` meets its contract: the cast is exact, so the division rounds the quotient itself (Over.antt). Assumes nothing.
use native.Mathlib.Omega.{arith}
use mathlib.Core.Path.{◌≡◌, sym, ap, ◌∙◌}
use mathlib.Core.Bool.{true}
use Prim.Native.Nat.{ℕ, suc, ◌-◌}
use lib.IntN.{ℤ}
use lib.Ieee.{binary32, round}
use Rattle.log2.specs.Log2.{quotient}
use Rattle.log2.proofs.Numerator.{minus_ge, minus_lt}
use Rattle.log2.proofs.Over.{whole_over, whole_over_neg}
use borrow.Author.Rules.{rules}
use Rattle.log2.proofs.scaled.Goals as goal

pub returns-then-v-ge132120576 : goal.returns-then-v-ge132120576
returns-then-v-ge132120576 c =
    let v = c.args.v in
    whole_over (v - 132120576) (omega arith) ∙ ap (λ (z : ℤ). quotient z 1048576) (sym (minus_ge v 132120576 (search rules)))

pub returns-else-v-ge132120576 : goal.returns-else-v-ge132120576
returns-else-v-ge132120576 c =
    let v = c.args.v in
    let e : 132120576 - v ≡ suc (132120576 - suc v) = omega arith in
    whole_over_neg (132120576 - v) (omega arith)
    ∙ ap (λ (n : ℕ). round binary32 true n 1048576) e
    ∙ ap (λ (z : ℤ). quotient z 1048576) (sym (minus_lt v 132120576 (search rules)))
