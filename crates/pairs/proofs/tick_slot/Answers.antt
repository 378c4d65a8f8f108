-- `tick_slot` meets its contract. The slot is past the frame and nothing moves, or its next frame is `next_frame`'s.
use Rattle.std.proofs.Common.{◌≡◌, ℕ, ◌<◌, ◌%◌, length, arith}
use Rattle.pairs.specs.Pairs.{abreast_of, hand_of, store_of, seat_of, run_of}
use Rattle.pairs.specs.Ticking.{advances_one, goes_on_lem, sound_after, steps_after}
use Rattle.pairs.proofs.tick_slot.Goals as goal

pub returns : goal.returns
returns c =
    let a = c.args in
    let n = c.next_frame in
    let below : a.s < 2 = omega (arith, c.requires.3, c.requires.1.most) in
    let next : a.f ≡ (run_of a.runs.now a.s).next = omega (arith, c.requires.5, c.if-f-runs.false) in
    let row : ℕ = (seat_of a.seats.now a.s).row % 2 in
    let low : row < 2 = omega arith in
    let ld : length n.new.delay ≡ length a.delay.now = omega arith in
    let la : length n.new.audio ≡ length a.audio.now = omega arith in (
      sound_after a.e a.sections.now a.by.pitch.now a.by.x.now a.by.y.now (abreast_of a.wide a.seats.now)
          (hand_of a.runs.now a.delay.now a.audio.now) (store_of a.kept.now a.comb.now) a.s row n.new.run n.new.delay n.new.audio n.new.kept n.new.comb
          c.requires.1 c.requires.2 c.requires.3 n.ensures.0 low (omega (arith, next, c.requires.4)) n.ensures.1 ld la,
      goes_on_lem a.e a.sections.now a.by.pitch.now a.by.x.now a.by.y.now (abreast_of a.wide a.seats.now) c.requires.1
          (hand_of a.runs.now a.delay.now a.audio.now) _ a.s 1 c.requires.3 c.requires.2.alone
          (steps_after a.e a.sections.now a.by.pitch.now a.by.x.now a.by.y.now (abreast_of a.wide a.seats.now)
          (hand_of a.runs.now a.delay.now a.audio.now) (store_of a.kept.now a.comb.now) a.s row n.new.run n.new.delay n.new.audio n.new.kept n.new.comb
          c.requires.1 c.requires.2 c.requires.3 n.ensures.0),
      advances_one a.s a.f a.runs.now n.new.run (omega (arith, below, c.requires.2.runs)) next n.ensures.0.next,
    )
