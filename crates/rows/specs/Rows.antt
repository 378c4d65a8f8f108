-- A list of rows in blocks (document 02, C-12: targets by voice, records by slot, ring cells by slot and part). Of a row of L numbers the first C are
-- carried, cut into parts of 126, a block a part, and read back from the blocks that carry its heads; any others come back as +0 (C-17). Definitions only.
use Rattle.std.specs.Prelude.{ℕ, ◌+◌, ◌*◌, ◌/◌, ◌%◌, List, ltb, Float}
use Rattle.lane.specs.Floats.{◌‼◌}
use Rattle.parts.specs.Parts.{tab}
use Rattle.text.specs.Text.{bits_of}
use Rattle.file_words.specs.Words.{float_of}
use Rattle.blocks.specs.Blocks.{head_of, block_bytes, content_at}
use Rattle.places.specs.Places.{pick, block_with}

-- ---- parking

-- number c of row r as a word; past the numbers that are carried, zero
unfoldable pub cell_word : (C L : ℕ) → List Float → (r c : ℕ) → ℕ
cell_word C L xs r c = pick (ltb c C) (bits_of (xs ‼ (r * L + c))) 0

-- the content of part q of row r: its numbers from 126 q on
unfoldable pub row_words : (C L : ℕ) → List Float → (r q : ℕ) → List ℕ
row_words C L xs r q = tab (λ w. cell_word C L xs r (q * 126 + w)) 126

-- the block of that part
abbrev pub row_block : (kind C L : ℕ) → List Float → (r q : ℕ) → List ℕ
row_block kind C L xs r q = block_bytes (head_of kind r q) (row_words C L xs r q)

-- ---- restoring

-- number i of the list: of row i / L the number i % L, the word 0 where it is not carried
unfoldable pub number_from : List ℕ → (kind C L i : ℕ) → Float
number_from file kind C L i =
    float_of (pick (ltb (i % L) C) (content_at (block_with file (head_of kind (i / L) (i % L / 126))) (i % L % 126)) 0)

-- the first n
unfoldable pub numbers_in : List ℕ → (kind C L n : ℕ) → List Float
numbers_in file kind C L n = tab (number_from file kind C L) n
