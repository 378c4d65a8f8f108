-- `teeth::plan_teeth` meets its contract: after i teeth their fractions, first cells, places and size are known.
use mathlib.Core.Path.{◌≡◌, refl, ap, ◌∙◌, subst}
use Prim.Native.Nat.{ℕ, ◌<◌}
use native.Mathlib.Omega.{arith}
use lib.Ieee.{Float}
use Rattle.lines.specs.View.{length_of}
use Rattle.teeth.specs.Teeth.{teeth_of, tooth_delay, first_of}
use Rattle.teeth.specs.Promises.{fraction_of}
use Rattle.teeth.specs.Placing.{first_inside, few_teeth, Planning, planning_none, firsts_more, placed_before, planning_more, planning_done}
use Rattle.teeth.proofs.plan_teeth.Goals as goal

pub loop-i-init : goal.loop-i-init
loop-i-init c = let a = c.args in planning_none a.len a.ratio a.chord a.plan.now a.teeth.now _ c.requires.1 refl

pub tooth_delay-requires : goal.tooth_delay-requires
tooth_delay-requires c = let m = few_teeth c.args.chord in omega arith

pub offset_bounds-teeth-i : goal.offset_bounds-teeth-i
offset_bounds-teeth-i c = let m = few_teeth c.args.chord in omega arith

pub bounds-teeth-i : goal.bounds-teeth-i
bounds-teeth-i c = let m = few_teeth c.args.chord in omega arith

pub offset_bounds-firsts-i : goal.offset_bounds-firsts-i
offset_bounds-firsts-i c = let m = few_teeth c.args.chord in omega arith

pub bounds-firsts-i : goal.bounds-firsts-i
bounds-firsts-i c = let m = few_teeth c.args.chord in omega arith

pub place_tooth-size-requires : goal.place_tooth-size-requires
place_tooth-size-requires c =
    let n = few_teeth c.args.chord in
    let k = c.loop-i in
    let a = c.args in
    let t = c.tooth_at-tooth in
    let l : k.i < 8 = omega arith in
    let e = t.ensures.0 ∙ ap (λ (d : Float). first_of a.len d) c.tooth_delay.ensures in
    let m = firsts_more a.len a.ratio a.chord k.i k.plan k.teeth k.firsts k.size k.invariant l t.result.first e k.i (omega arith) in
    let b = first_inside a.len (tooth_delay a.ratio a.chord k.i) c.requires.0 in
    let v = length_of a.len c.requires.0 in
    (l, omega arith, placed_before a.len a.ratio a.chord k.i k.plan k.teeth k.firsts k.size k.invariant l t.result.first e)

pub loop-i-preserved : goal.loop-i-preserved
loop-i-preserved c =
    let n = few_teeth c.args.chord in
    let k = c.loop-i in
    let a = c.args in
    let t = c.tooth_at-tooth in
    let p = c.place_tooth-size.ensures in
    planning_more a.len a.ratio a.chord k.i k.plan k.teeth k.firsts k.size k.invariant (omega arith) t.result.first
    (t.ensures.0 ∙ ap (λ (d : Float). first_of a.len d) c.tooth_delay.ensures)
    c.requires.0 t.result.fraction
    (t.ensures.1 ∙ ap (λ (d : Float). fraction_of a.len d) c.tooth_delay.ensures) _ _ p.0 p.1

pub returns : goal.returns
returns c =
    let k = c.loop-i in
    let a = c.args in
    let e : k.i ≡ teeth_of a.chord = omega arith in
    planning_done a.len a.ratio a.chord k.plan k.teeth k.firsts k.size c.requires.0
    (subst (λ (i : ℕ). Planning a.len a.ratio a.chord i k.plan k.teeth k.firsts k.size) e k.invariant)
