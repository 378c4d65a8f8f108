-- `frame` meets its contract: the places are those of the definitions, the view is good, and the tick is the definitions' tick.
use Rattle.std.proofs.Common.{arith}
use Rattle.parts.specs.Laws.{piece_fits}
use Rattle.lines.proofs.Laws.{view_good}
use Rattle.voices.specs.Calls.{cursor_after}
use Rattle.slots.specs.Slots.{slot_run}
use Rattle.slots.specs.Frame.{frame_is}
use Rattle.slots.proofs.frame.Goals as goal

pub tick-s-requires : goal.tick-s-requires
tick-s-requires c =
    let e = c.args.e in
    let p = c.args.p in (
      c.requires.4,
      view_good e.len p.number _ c.requires.0.good (omega (arith, c.requires.2.delay, piece_fits e.len p.number e.slots c.requires.1.below)),
      c.requires.5,
      c.requires.6,
    )

pub returns : goal.returns
unfolding cursor_after
returns c =
    let a = c.args in
    let at = c.place_at-at in
    let from = c.place_at-from in
    let cursor = c.cursor_after in
    let tick = c.tick-s.ensures in (
      λ b runs. (
        (tick.0 b runs).0,
        λ k. frame_is a.e a.sections.now a.targets.now a.by.pitch.now a.by.x.now a.by.y.now a.p a.f
            (slot_run a.rec.now.params a.rec.now.state b a.rec.now.peak a.delay.now a.audio.now k) c.requires.0 c.requires.1
            at.result from.result cursor.result _ _ _ _ _
            at.ensures.0 from.ensures.0 cursor.ensures
            c.steering_at.ensures c.steering_at-2.ensures
            (tick.0 b runs).1,
      ),
      tick.1,
      tick.2,
      tick.3,
      tick.4,
    )
