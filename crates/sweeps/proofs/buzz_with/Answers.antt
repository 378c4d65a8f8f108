-- `sweeps::buzz_with` meets its contract: the operations are the definition's.
use lib.Ieee.{of_bits, round, neg, div}
use Rattle.sweeps.specs.Sweeps.{buzz_with}
use Rattle.sweeps.proofs.buzz_with.Goals as goal

pub returns : goal.returns
unfolding buzz_with of_bits round neg div
returns c = rw (c.min-2.ensures, c.min.ensures, c.svf_k.ensures)
