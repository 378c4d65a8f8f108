-- Words of 32 bits in a list of bytes, low byte first, and an f32 from a word (document 02, C-12: "All is little-endian"). Word i stands at bytes 4 i to
-- 4 i + 3. `bits_of` (text/specs/Text) is an f32 as a word, a NaN's 7fc00000; every NaN's pattern is read as the one NaN. Definitions only.
use Rattle.std.specs.Prelude.{ℕ, ◌+◌, ◌*◌, ◌/◌, ◌%◌, List, [], ◌∷◌, get_or, Float}
use Rattle.std.specs.Float.{binary32}
use Rattle.std.specs.Float.Ieee.{of_bits}
use Rattle.parts.specs.Parts.{piece}

-- the four bytes of a word
unfoldable pub word_bytes : ℕ → List ℕ
word_bytes w = w % 256 ∷ w / 256 % 256 ∷ w / 65536 % 256 ∷ w / 16777216 ∷ []

-- the word of four bytes
unfoldable pub word_of : List ℕ → ℕ
word_of b = get_or b 0 0 + get_or b 1 0 * 256 + get_or b 2 0 * 65536 + get_or b 3 0 * 16777216

-- word i of a file
unfoldable pub word_at : List ℕ → ℕ → ℕ
word_at file i = word_of (piece 4 i file)

-- the f32 of a word
abbrev pub float_of : ℕ → Float
float_of = of_bits binary32
