-- `digits` meets its contract. The loop's invariant: the digits from i on, after v, spell what all of them spell, and v is within `most`. Assumes nothing.
use mathlib.Core.Path.{refl, ◌∙◌}
use Prim.Native.Nat.{◌+◌, ◌*◌, ◌≤◌, ◌<◌}
use native.Mathlib.Omega.{arith}
use mathlib.Core.List.{[]}
use Rattle.text.proofs.Reading.{number_no_digit, too_large, not_large, number_large, number_on, number_end}
use Rattle.text.proofs.digits.Goals as goal
use Rattle.text.proofs.digits.Goals.{then-d-base-via-then-d-base, then-d-base-via-else-d-base+then-v-most}

pub loop-b-init : goal.loop-b-init
loop-b-init c = (refl, omega arith)

pub returns-then-d-base : goal.returns-then-d-base
returns-then-d-base c = elim c.then-d-base.branch [
  | then-d-base-via-then-d-base w ↦ number_no_digit _ _ _ _ _ _ c.loop-b-test.true c.digit-d.ensures w.if-d-base.true ∙ c.loop-b.invariant.0
  | then-d-base-via-else-d-base+then-v-most w ↦
      let a = c.args in
      let d = c.digit-d.result in
      let v = c.loop-b.v in
      let m : a.most < v * a.base + d = too_large a.base a.most [] 0 v d (omega arith) (omega arith) w.if-v-most.true in
      number_large _ _ _ _ _ _ c.loop-b-test.true c.digit-d.ensures w.if-d-base.false m ∙ c.loop-b.invariant.0
]

-- the next number is within `most`
within : (c : goal.Else-v-most) → c.loop-b.v * c.args.base + c.digit-d.result ≤ c.args.most
within c =
    let a = c.args in
    not_large a.base a.most [] 0 c.loop-b.v c.digit-d.result (omega arith) (omega arith) c.if-v-most.false

pub overflow_mul-v : goal.overflow_mul-v
overflow_mul-v c = omega (arith, within c)

pub overflow_add-v : goal.overflow_add-v
overflow_add-v c = omega (arith, within c)

pub loop-b-preserved : goal.loop-b-preserved
loop-b-preserved c = (number_on _ _ _ _ _ _ c.loop-b-test.true c.digit-d.ensures c.if-d-base.false (within c) ∙ c.loop-b.invariant.0, within c)

pub returns : goal.returns
returns c = number_end _ _ _ _ _ 0 c.loop-b-test.false ∙ c.loop-b.invariant.0
