-- `file_words::get_word` meets its contract. Assumes nothing.
use Rattle.file_words.specs.Laws.{word_is}
use Rattle.file_words.proofs.get_word.Goals as goal

pub returns : goal.returns
returns c = rw word_is c.from_le_bytes.ensures
