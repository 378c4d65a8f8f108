-- `run_span` meets its contract. The loop's invariant: the slots have come to frame f.
use Rattle.pairs.specs.Pairs.{abreast_of, hand_of, store_of, Sound, Goes, Advances}
use Rattle.pairs.proofs.run_span.Given as goal

abbrev pub invariant-loop-f : goal.invariant-loop-f
invariant-loop-f l =
    Sound l.e l.sections l.by.pitch.now l.by.x.now l.by.y.now (abreast_of l.wide l.seats) (hand_of l.runs l.delay l.audio) (store_of l.kept l.comb)
    × Goes l.e l.sections l.by.pitch.now l.by.x.now l.by.y.now (abreast_of l.wide l.seats)
    (hand_of l.initial.runs l.initial.delay l.initial.audio) (hand_of l.runs l.delay l.audio)
    × Advances l.span.lo l.span.hi l.f l.initial.runs l.runs
