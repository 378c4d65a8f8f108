-- `blocks::put_block` meets its contract. Assumes nothing.
use Rattle.file_words.specs.Laws.{lent}
use Rattle.blocks.proofs.put_block.Goals as goal

pub returns : goal.returns
returns c = lent 512 _ _ _ _ c.fill_block.ensures
