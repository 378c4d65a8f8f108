-- `parking::read_cursor` meets its contract. Assumes nothing.
use Prim.Native.Nat.{◌+◌, ◌*◌}
use Rattle.setups.specs.Parked.{cursor_in}
use Rattle.parking.proofs.read_cursor.Goals as goal

pub returns : goal.returns
unfolding cursor_in
returns c = λ t. c.file_word.ensures t + c.file_word-2.ensures t * 4294967296
