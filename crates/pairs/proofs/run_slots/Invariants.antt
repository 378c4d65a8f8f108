-- `run_slots` meets its contract. The loop's invariant: after t turns what is in hand is sound, and each slot's frames up to its next one are worked.
use Rattle.pairs.specs.Pairs.{abreast_of, hand_of, store_of}
use Rattle.pairs.specs.Slotwise.{Turning}
use Rattle.pairs.proofs.run_slots.Given as goal

abbrev pub invariant-loop-t : goal.invariant-loop-t
invariant-loop-t l =
    Turning l.e l.sections l.by.pitch.now l.by.x.now l.by.y.now (abreast_of l.wide l.seats) (hand_of l.initial.runs l.initial.delay l.initial.audio)
    (hand_of l.runs l.delay l.audio) (store_of l.kept l.comb) l.t
