-- `tick_slots` meets its contract. The loop's invariant: the slots from lo up to s have come to the next frame, those after them stand where they stood.
use Rattle.std.proofs.Common.{◌+◌}
use Rattle.pairs.specs.Pairs.{abreast_of, hand_of, store_of, Sound, Goes, Advances}
use Rattle.pairs.proofs.tick_slots.Given as goal

abbrev pub invariant-loop-s : goal.invariant-loop-s
invariant-loop-s l =
    Sound l.e l.sections l.by.pitch.now l.by.x.now l.by.y.now (abreast_of l.wide l.seats) (hand_of l.runs l.delay l.audio) (store_of l.kept l.comb)
    × Goes l.e l.sections l.by.pitch.now l.by.x.now l.by.y.now (abreast_of l.wide l.seats)
    (hand_of l.initial.runs l.initial.delay l.initial.audio) (hand_of l.runs l.delay l.audio)
    × Advances l.lo l.s (l.f + 1) l.initial.runs l.runs
