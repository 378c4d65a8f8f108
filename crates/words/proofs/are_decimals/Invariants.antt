-- The kind of words that `are_decimals` asks of all. Assumes nothing.
use Rattle.words.specs.Words.{is_decimal}
use Rattle.words.proofs.are_decimals.Given as goal

abbrev pub ghost-are_all : goal.ghost-are_all
ghost-are_all a = is_decimal
