-- `parking::parked_setup` meets its contract: a new table of places is clear. Assumes nothing.
use native.Mathlib.Omega.{arith}
use lib.ListN.{get_or-replicate}
use Rattle.parking.proofs.parked_setup.Goals as goal

pub read_file-requires : goal.read_file-requires
read_file-requires c = record { size = (omega arith); clear = λ k l. get_or-replicate 16722 k 0 0 l }
