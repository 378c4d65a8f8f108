-- `teeth::place_cell` meets its contract: an earlier tooth that needs the cell has its place.
use mathlib.Core.Path.{refl}
use Prim.Native.Nat.{◌+◌, ◌-◌}
use native.Mathlib.Omega.{arith}
use Rattle.teeth.specs.Needed.{inside_of, fresh_some, fresh_none}
use Rattle.teeth.specs.Placing.{kept, placed_new, placed_old}
use Rattle.teeth.proofs.place_cell.Goals as goal

pub overflow_sub-back : goal.overflow_sub-back
overflow_sub-back c = (inside_of _ _ c.in-Some.ensures.1).least

pub place_of-requires : goal.place_of-requires
place_of-requires c =
    let (l, e) = c.in-Some.ensures in
    let w = inside_of _ _ e in
    let i = c.requires.0.tooth in
    (omega arith, omega arith)

pub returns-in-Some : goal.returns-in-Some
returns-in-Some c =
    let a = c.args in
    let j = c.in-Some.j in
    let (l, e) = c.in-Some.ensures in
    let w = inside_of _ _ e in
    let f = kept a.firsts.now in (
      fresh_some f a.i j a.back a.size l e,
      rw c.place_of.ensures (placed_old f a.i a.at a.back a.plan.now a.size c.requires.0 c.requires.1 j (a.back - f j) l (omega arith) (omega arith)),
    )

pub returns-in_default : goal.returns-in_default
returns-in_default c =
    let a = c.args in
    let f = kept a.firsts.now in (
      fresh_none f a.i a.back a.size c.in_default.ensures,
      placed_new f a.i a.at a.back a.plan.now a.size c.requires.0 c.requires.1 (a.at + 1) (a.size + 1) refl refl _ c.append.ensures,
    )
