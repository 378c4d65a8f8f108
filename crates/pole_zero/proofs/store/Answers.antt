-- `store` meets its contract.
use Rattle.std.proofs.Common.{◌≡◌, ◌*◌, ◌∙◌, add-one, arith}
use lib.Ieee.{nan}
use lib.Seq.{paste-zero, paste-suc}
use Rattle.parts.specs.Laws.{patch_paste}
use Rattle.pole_zero.proofs.store.Goals as goal

pub loop-i-init : goal.loop-i-init
loop-i-init c = paste-zero c.args.sections (c.args.n * 20) c.args.t

pub loop-i-preserved : goal.loop-i-preserved
loop-i-preserved c =
    let a = c.args in
    rw (add-one, c.loop-i.invariant) (paste-suc a.sections (a.n * 20) a.t c.loop-i.i nan (omega arith) (omega arith))

pub returns : goal.returns
returns c =
    let e : c.loop-i.i ≡ 20 = omega arith in
    let a = c.args in
    c.loop-i.invariant ∙ rw e (patch_paste 20 a.n a.t a.sections (omega arith))
