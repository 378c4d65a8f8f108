-- `rest` meets its contract. The loop's invariant is the contract at f.
use Rattle.std.proofs.Common.{◌≡◌, subst, arith}
use Rattle.slots.specs.Slots.{Rested}
use Rattle.slots.specs.Resting.{rested_again}
use Rattle.slots.proofs.rest.Goals as goal

pub returns : goal.returns
returns c =
    let a = c.args in
    let l = c.loop-f in
    let e : l.f ≡ a.e.frames = omega (arith, c.requires.3, c.loop-f-test.false) in
    subst (Rested a.e a.by.pitch.now a.by.x.now a.by.y.now a.p a.input a.audio.now l.audio) e l.invariant

pub loop-f-preserved : goal.loop-f-preserved
loop-f-preserved c =
    let a = c.args in
    let l = c.loop-f in
    rested_again a.e a.by.pitch.now a.by.x.now a.by.y.now a.p a.input a.audio.now c.requires.0 c.requires.1 l.f l.audio l.invariant
    c.loop-f-test.true (c.is_same_frame.ensures c.if-not-is_same_frame.false) c.place_at-at.result c.place_at-at.ensures.0
