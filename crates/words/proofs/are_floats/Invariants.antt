-- The kind of words that `are_floats` asks of all. Assumes nothing.
use Rattle.words.specs.Words.{is_float}
use Rattle.words.proofs.are_floats.Given as goal

abbrev pub ghost-are_all : goal.ghost-are_all
ghost-are_all a = is_float
