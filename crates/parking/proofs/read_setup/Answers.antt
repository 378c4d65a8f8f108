-- `parking::read_setup` meets its contract. Assumes nothing.
use mathlib.Core.Path.{ap, ◌∙◌}
use lib.Dec.{eqb}
use lib.ListN.{replicate}
use lib.Ieee.{of_bits, binary32, round}
use Rattle.file_words.specs.Words.{float_of}
use Rattle.setups.specs.Parked.{solo_in, voices_in}
use Rattle.parking.specs.Parking.{setup_in}
use Rattle.parking.specs.Asks.{sections_in, table_in}
use Rattle.parking.proofs.read_setup.Goals as goal

pub returns : goal.returns
unfolding of_bits round setup_in solo_in voices_in table_in sections_in
returns c =
    λ t. record {
      code = c.file_word-code.ensures t;
      rate = (c.float_of-rate.ensures ∙ ap float_of c.file_word.ensures) t;
      reference = (c.float_of-reference.ensures ∙ ap float_of c.file_word-2.ensures) t;
      voices = c.file_word-voices.ensures t;
      channels = c.file_word-channels.ensures t;
      clean = eqb (c.file_word-clean.ensures t) 1;
      table = c.read_table-table.ensures t;
      chord = record { count = 0; offsets = replicate 8 (of_bits binary32 0) };
    }
