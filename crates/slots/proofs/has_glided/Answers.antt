-- `has_glided` meets its contract: smoothing left the smoothed numbers as they were.
use Rattle.std.proofs.Common.{◌≡◌, List, length, take, sym, ap, ◌∙◌, arith, take_all}
use lib.Ieee.{Float}
use Rattle.run.specs.Run.{smooth_of}
use Rattle.run.specs.Laws.{smooth_length}
use Rattle.run.specs.Promises.{Glided}
use Rattle.slots.proofs.has_glided.Goals as goal

long : (alpha : Float) (targets params next : List Float) → next ≡ smooth_of alpha targets params → length next ≡ 11
long alpha targets params next e = ap length e ∙ smooth_length alpha targets params

glided : (alpha : Float) (targets params next : List Float) → length params ≡ 11 → next ≡ smooth_of alpha targets params
    → take 11 params ≡ take 11 next → Glided alpha targets params
glided alpha targets params next l e h =
    let k : length next ≡ 11 = long alpha targets params next e in
    sym e ∙ sym (take_all 11 next (omega (arith, k))) ∙ sym h ∙ take_all 11 params (omega (arith, l))

pub returns : goal.returns
returns c r =
    let a = c.args in
    glided a.alpha a.targets.now a.params.now c.smooth.new.params c.requires c.smooth.ensures (c.is_same.ensures r)
