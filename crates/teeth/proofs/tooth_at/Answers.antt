-- `teeth::tooth_at` meets its contract: the held delay's whole part is between 2 and len - 3.
use mathlib.Core.Path.{◌≡◌, sym, ap, ◌∙◌, subst}
use Prim.Native.Nat.{ℕ, ◌-◌}
use mathlib.Core.Bool.{true}
use native.Mathlib.Omega.{arith}
use lib.Ieee.{Float, of_int}
use Rattle.lane.specs.Floats.{◌⊖◌, whole}
use Rattle.lines.specs.Lines.{whole_part, held, is_length}
use Rattle.lines.specs.View.{length_of}
use Rattle.lines.specs.Whole.{Between, exact}
use Rattle.lines.proofs.Delay.{held_between}
use Rattle.teeth.specs.Teeth.{first_of}
use Rattle.teeth.proofs.tooth_at.Goals as goal

-- a held delay
between : (len : ℕ) (delay : Float) {d : Float} → is_length len ≡ true → d ≡ held len delay → Between 2 (len - 3) d
between len delay g e = let v = length_of len g in subst (Between 2 (len - 3)) (sym e) (held_between len delay v.least v.most)

pub held-d-requires : goal.held-d-requires
held-d-requires c = let v = length_of c.args.len c.requires in (v.least, v.most)

pub whole_part-w-requires : goal.whole_part-w-requires
whole_part-w-requires c =
    let v = length_of c.args.len c.requires in
    let d = between c.args.len c.args.delay c.requires c.held-d.ensures in
    (omega arith, omega arith)

pub overflow_sub-result : goal.overflow_sub-result
overflow_sub-result c = let d = between c.args.len c.args.delay c.requires c.held-d.ensures in omega (arith, c.whole_part-w.ensures)

pub int_to_float-result : goal.int_to_float-result
int_to_float-result c =
    let v = length_of c.args.len c.requires in
    let d = between c.args.len c.args.delay c.requires c.held-d.ensures in
    exact _ (omega (arith, c.whole_part-w.ensures))

pub returns : goal.returns
unfolding first_of of_int
returns c =
    let a = c.args in
    let h = c.held-d in
    let u = c.whole_part-w in
    let e : u.result ≡ whole_part (held a.len a.delay) = u.ensures ∙ ap (λ (d : Float). whole_part d) h.ensures in
    (ap (λ (n : ℕ). n - 1) e, (λ i. h.ensures i ⊖ whole (e i)))
