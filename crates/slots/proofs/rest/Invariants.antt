-- `rest` meets its contract. The loop's invariant is the contract at f.
use Rattle.slots.specs.Slots.{Rested}
use Rattle.slots.proofs.rest.Given as goal

abbrev pub invariant-loop-f : goal.invariant-loop-f
invariant-loop-f l = Rested l.e l.by.pitch.now l.by.x.now l.by.y.now l.p l.input l.initial.audio l.audio l.f
