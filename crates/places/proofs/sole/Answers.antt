-- `places::sole` meets its contract. Assumes nothing.
use mathlib.Core.Path.{◌≡◌, sym, ap, ◌∙◌}
use Prim.Native.Nat.{ℕ, ◌+◌}
use native.Mathlib.Omega.{arith}
use Rattle.places.specs.Places.{blocks_in, head_in}
use Rattle.places.proofs.Seeking.{head_is, none_yet, hit, miss, one_found, not_found}
use Rattle.places.proofs.sole.Goals as goal
use Rattle.places.proofs.sole.Goals.{then-get_word-head, else-get_word-head}

pub loop-b-init : goal.loop-b-init
loop-b-init c = let z = none_yet (head_in c.args.file.now) c.args.head in (z.0, z.1, omega arith)

pub loop-b-preserved : goal.loop-b-preserved
loop-b-preserved c =
    let l = c.loop-b in
    let f = head_in c.args.file.now in
    let e = head_is c.args.file.now l.b _ c.get_word.ensures in
    elim c.if-get_word-head.branch [
      | then-get_word-head w ↦
          let h = hit f c.args.head l.b (sym e ∙ w.if-get_word-head.true) in (
            w.seen-is ∙ ap (λ (n : ℕ). n + 1) l.invariant.0 ∙ sym h.0,
            w.at-is ∙ sym h.1,
            omega (arith, w.seen-is, l.invariant.2),
          )
      | else-get_word-head w ↦
          let h = miss f c.args.head l.b (λ z. w.if-get_word-head.false (e ∙ z)) in (
            w.seen-is ∙ l.invariant.0 ∙ sym h.0,
            w.at-is ∙ l.invariant.1 ∙ sym h.1,
            omega (arith, w.seen-is, l.invariant.2),
          )
    ]

pub returns-then-seen-eq1 : goal.returns-then-seen-eq1
returns-then-seen-eq1 c = let e : c.loop-b.b ≡ blocks_in c.args.file.now = omega arith in one_found _ _ _ _ _ e c.if-seen-eq1.true c.loop-b.invariant.0 c.loop-b.invariant.1

pub returns-else-seen-eq1 : goal.returns-else-seen-eq1
returns-else-seen-eq1 c = let e : c.loop-b.b ≡ blocks_in c.args.file.now = omega arith in not_found _ _ _ _ e c.if-seen-eq1.false c.loop-b.invariant.0
