-- For the proofs: nothing here must be believed.
-- The blocks of a list by one number, block j holding part j % p of row j / p; what the code asks and promises. Definitions only.
use Rattle.std.specs.Prelude.{◌≡◌, ℕ, ◌+◌, ◌*◌, ◌/◌, ◌%◌, ◌≤◌, ◌<◌, List, T, ltb, length, get_or, Float}
use Rattle.std.specs.Float.Ieee.{nan, fits}
use Rattle.std.specs.Float.{binary32}
use Rattle.parts.specs.Parts.{upto, tab, patch}
use Rattle.text.specs.Text.{bits_of}
use Rattle.file_words.specs.Words.{float_of}
use Rattle.blocks.specs.Blocks.{head_of, block_bytes, content_at}
use Rattle.places.specs.Places.{pick}
use Rattle.rows.specs.Rows.{row_words}

abbrev pub part_words : (C L p : ℕ) → List Float → ℕ → List ℕ
part_words C L p xs j = row_words C L xs (j / p) (j % p)

abbrev pub rows_block : (kind C L p : ℕ) → List Float → ℕ → List ℕ
rows_block kind C L p xs j = block_bytes (head_of kind (j / p) (j % p)) (part_words C L p xs j)

-- n blocks written from block `first` on
unfoldable pub rows_written : (first kind C L p : ℕ) → List Float → ℕ → List ℕ → List ℕ
rows_written first kind C L p xs n out = upto (λ j. patch 512 (first + j) (rows_block kind C L p xs j)) n out

-- ---- restoring: block j of the kind is `found j`

unfoldable pub cell_at : (ℕ → List ℕ) → (C L p i : ℕ) → Float
cell_at found C L p i = float_of (pick (ltb (i % L) C) (content_at (found (i / L * p + i % L / 126)) (i % L % 126)) 0)

-- n numbers
unfoldable pub restored_rows : (ℕ → List ℕ) → (C L p n : ℕ) → List Float
unfolding cell_at
restored_rows found C L p n = tab (cell_at found C L p) n

-- a list of f32s
abbrev pub F32s : List Float → Type 0
F32s xs = (i : ℕ) → i < length xs → T (fits binary32 (get_or xs i nan))

-- what is not carried has no bit set
abbrev pub Blank : (C L : ℕ) → List Float → (n : ℕ) → Type 0
Blank C L xs n = (i : ℕ) → i < n → C ≤ i % L → bits_of (get_or xs i nan) ≡ 0

-- ---- what the code asks

-- room for the blocks of `rows` rows from block `first` on
pub record Parked (first kind rows C L p listed written : ℕ) : Type 0 where
  pub kinds : kind ≤ 255
  pub few : rows ≤ 256
  pub carried : C ≤ L
  pub some_part : 0 < p
  pub parts : p ≤ 65536
  pub list : rows * L ≤ listed
  pub room : (first + rows * p) * 512 ≤ written

-- every entry names a block of the file, plus 1
pub record Lent (first rows L p : ℕ) (pos : List ℕ) (bytes : ℕ) : Type 0 where
  pub some : 0 < L
  pub hold : L ≤ p * 126
  pub table : first + rows * p ≤ length pos
  pub named : (j : ℕ) → j < rows * p → 1 ≤ get_or pos (first + j) 0
  pub inside : (j : ℕ) → j < rows * p → get_or pos (first + j) 0 * 512 ≤ bytes
