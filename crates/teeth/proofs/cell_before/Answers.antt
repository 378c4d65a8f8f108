-- `teeth::cell_before` meets its contract: the steps back end in the ring, or one turn further.
use mathlib.Core.Path.{ap, ◌∙◌, subst}
use Prim.Native.Nat.{ℕ, ◌+◌, ◌-◌, ◌<◌, ◌≤◌}
use native.Mathlib.Omega.{arith}
use Rattle.teeth.specs.Cells.{cell_near, cell_far}
use Rattle.teeth.proofs.cell_before.Goals as goal

pub returns-then-back-own : goal.returns-then-back-own
returns-then-back-own c =
    let a = c.args in
    let h : a.back ≤ a.own = omega arith in (
      omega arith,
      λ cursor w e. ap (λ (o : ℕ). o - a.back) e
          ∙ cell_near a.len cursor a.back c.requires.0 w c.requires.2 (subst (λ (o : ℕ). a.back ≤ o) e h),
    )

pub returns-else-back-own : goal.returns-else-back-own
returns-else-back-own c =
    let a = c.args in
    let h : a.own < a.back = omega arith in (
      omega arith,
      λ cursor w e. ap (λ (o : ℕ). o + a.len - a.back) e
          ∙ cell_far a.len cursor a.back c.requires.0 w c.requires.2 (subst (λ (o : ℕ). o < a.back) e h),
    )
