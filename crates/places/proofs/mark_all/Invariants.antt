-- `places::mark_all` meets its contract. Assumes nothing.
use Rattle.blocks.specs.Blocks.{total}
use Rattle.places.specs.Places.{number_at}
use Rattle.places.specs.Marks.{Marked}
use Rattle.places.proofs.mark_all.Given as goal

abbrev pub invariant-loop-b : goal.invariant-loop-b
invariant-loop-b l = Marked (number_at l.z.voices l.z.slots l.z.parts l.file) (total l.z.voices l.z.slots l.z.parts) l.b l.pos
