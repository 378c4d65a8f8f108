-- `parking::read_table` meets its contract. Assumes nothing.
use mathlib.Core.Path.{ap, ◌∙◌}
use mathlib.Core.Bool.{false}
use Rattle.file_words.specs.Words.{float_of}
use Rattle.parking.specs.Asks.{table_in}
use Rattle.parking.proofs.read_table.Goals as goal

pub returns : goal.returns
unfolding table_in
returns c =
    λ t. record {
      active = c.file_word-active.ensures t;
      three = false;
      sections = c.read_sections-sections.ensures t;
      gain = (c.float_of-gain.ensures ∙ ap float_of c.file_word.ensures) t;
    }
