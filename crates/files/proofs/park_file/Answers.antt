-- `files::park_file` meets its contract. Assumes nothing.
use Rattle.files.specs.Asks.{image_of}
use Rattle.files.proofs.Writing.{all_blocks}
use Rattle.files.proofs.park_file.Goals as goal

pub returns : goal.returns
returns c =
    let a = c.args in
    all_blocks (image_of a.voices a.slots a.len a.parts a.setup.now a.targets.now a.records.now a.delay.now) a.out.now c.requires.room.room
    _ _ _ _ _ _ _ _ _ c.requires.room.whole.setup c.split_at.ensures.front c.split_at.ensures.back
    c.head_of.ensures c.put_block.ensures c.head_of-2.ensures c.put_block-2.ensures
    (rw c.target_rows.ensures at c.put_rows.ensures) (rw c.record_rows.ensures at c.put_rows-2.ensures) (rw c.ring_rows.ensures at c.put_rows-3.ensures)
