-- `teeth::add_taps` meets its contract: after each turn the taps so far are made, and the sum is theirs.
use mathlib.Core.Path.{◌≡◌, subst}
use Prim.Native.Nat.{ℕ, ◌+◌}
use native.Mathlib.Omega.{arith}
use Rattle.lane.specs.Floats.{◌‼◌}
use Rattle.teeth.specs.Taps.{tap_of, Summed, summed_first, summed_next}
use Rattle.teeth.proofs.add_taps.Goals as goal

pub loop-tooth-init : goal.loop-tooth-init
loop-tooth-init c = (omega arith, c.requires.0, summed_first _ c.tap_of-first.result c.args.taps.now c.tap_of-first.ensures c.requires.3)

pub add_tap-with-requires : goal.add_tap-with-requires
add_tap-with-requires c =
    let l = c.loop-tooth in
    let t = c.loop-tooth-test.true in
    (omega (arith, c.requires.1), λ k h. c.requires.2 l.tooth k (omega arith) h)

pub add_tap-sum-requires : goal.add_tap-sum-requires
add_tap-sum-requires c =
    let l = c.loop-tooth in
    let t = c.loop-tooth-test.true in
    (omega (arith, c.requires.1), λ k h. c.requires.2 (l.tooth + 1) k t h)

pub loop-tooth-preserved : goal.loop-tooth-preserved
loop-tooth-preserved c =
    let a = c.args in
    let l = c.loop-tooth in
    let t = c.loop-tooth-test.true in
    let m = c.requires.1 in
    let one = c.add_tap-with in
    let two = c.add_tap-sum in
    let turned : l.tooth + 1 + 1 ≡ l.tooth + 2 = omega arith in (
      omega arith,
      omega arith,
      subst (λ (n : ℕ). Summed (λ j. tap_of a.cells.now a.plan.now (a.teeth.now ‼ j) j) n two.result two.new.taps) turned
          (summed_next _ (l.tooth + 1) one.result two.result one.new.taps two.new.taps (omega arith) (omega arith) two.ensures.0 two.ensures.1
          (summed_next _ l.tooth l.sum one.result l.taps one.new.taps l.invariant.0 (omega arith) one.ensures.0 one.ensures.1 l.invariant.2)),
    )

pub add_tap-requires : goal.add_tap-requires
add_tap-requires c =
    let l = c.loop-tooth in
    let t = c.if-tooth-n.true in
    (omega (arith, c.requires.1), λ k h. c.requires.2 l.tooth k t h)

pub returns-then-tooth-n : goal.returns-then-tooth-n
returns-then-tooth-n c =
    let a = c.args in
    let l = c.loop-tooth in
    let m = c.requires.1 in
    let last : l.tooth + 1 ≡ a.n = omega (arith, c.loop-tooth-test.false, c.if-tooth-n.true) in
    let r = c.add_tap in
    subst (λ (n : ℕ). Summed (λ j. tap_of a.cells.now a.plan.now (a.teeth.now ‼ j) j) n r.result r.new.taps) last
    (summed_next _ l.tooth l.sum r.result l.taps r.new.taps l.invariant.0 (omega arith) r.ensures.0 r.ensures.1 l.invariant.2)

pub returns-else-tooth-n : goal.returns-else-tooth-n
returns-else-tooth-n c =
    let a = c.args in
    let l = c.loop-tooth in
    let last : l.tooth ≡ a.n = omega (arith, c.if-tooth-n.false, l.invariant.1) in
    subst (λ (n : ℕ). Summed (λ j. tap_of a.cells.now a.plan.now (a.teeth.now ‼ j) j) n l.sum l.taps) last l.invariant.2

pub tap_of-first-requires : goal.tap_of-first-requires
tap_of-first-requires c = (omega arith, λ k l. c.requires.2 0 k c.requires.0 l)
