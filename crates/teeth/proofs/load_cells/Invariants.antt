-- `teeth::load_cells` meets its contract: after k turns the first k cells of the plan are loaded.
use Rattle.parts.specs.Parts.{piece}
use Rattle.teeth.specs.Taps.{Loaded}
use Rattle.teeth.proofs.load_cells.Given as goal

abbrev pub invariant-loop-k : goal.invariant-loop-k
invariant-loop-k l = Loaded l.len l.cursor (piece l.len l.slot l.buf) l.plan l.k l.cells
