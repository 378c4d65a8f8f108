-- A block of 512 bytes (document 02, C-12): 128 words, that is the head, 126 words of content and the word that makes the sum of all of them zero
-- modulo 2 ^ 32 = 4294967296; and how many blocks a bank takes. Definitions only.
use Rattle.std.specs.Prelude.{ℕ, zero, suc, ◌+◌, ◌-◌, ◌*◌, ◌/◌, ◌%◌, Bool, cond, List, ◌∷◌, ltb, eqb, get_or}
use Rattle.parts.specs.Parts.{flat}
use Rattle.file_words.specs.Words.{word_bytes, word_at}

-- ---- the head: "byte 0 kind, byte 1 voice or slot, bytes 2 and 3 part number", as the block's first word

unfoldable pub head_of : (kind who part : ℕ) → ℕ
head_of kind who part = kind + who * 256 + part * 65536

unfoldable pub kind_of : ℕ → ℕ
kind_of head = head % 256

unfoldable pub who_of : ℕ → ℕ
who_of head = head / 256 % 256

unfoldable pub part_of : ℕ → ℕ
part_of head = head / 65536

-- ---- a block written: "then 504 bytes as 126 words, then a word that makes the sum of all 128 words zero modulo 2^32"

-- g 0 + g 1 + .. + g (n - 1)
abbrev pub sum_to : (ℕ → ℕ) → ℕ → ℕ
sum_to g zero = 0
sum_to g (suc k) = sum_to g k + g k

-- what brings a sum to a multiple of 2 ^ 32
unfoldable pub closing : ℕ → ℕ
closing s = (4294967296 - s % 4294967296) % 4294967296

-- the head, then the content; "unused words are written zero"
unfoldable pub body_word : (head : ℕ) (content : List ℕ) → ℕ → ℕ
body_word head content j = get_or (head ∷ content) j 0

unfoldable pub block_word : (head : ℕ) (content : List ℕ) → ℕ → ℕ
block_word head content j = cond (ltb j 127) (body_word head content j) (closing (sum_to (body_word head content) 127))

unfoldable pub block_bytes : (head : ℕ) (content : List ℕ) → List ℕ
block_bytes head content = flat (λ j. word_bytes (block_word head content j)) 128

-- ---- a block read

-- its words sum to zero
unfoldable pub sound_block : List ℕ → Bool
sound_block b = eqb (sum_to (word_at b) 128 % 4294967296) 0

-- word j of its content
unfoldable pub content_at : List ℕ → ℕ → ℕ
content_at b j = word_at b (1 + j)

-- ---- how many: "ring cells of a slot, 126 a part"

abbrev pub parts_of : (cells : ℕ) → ℕ
parts_of cells = (cells + 125) / 126

-- of a bank of v voices and s slots with rings of p parts: two of the setup, one a voice, one a slot, p a ring
abbrev pub total : (v s p : ℕ) → ℕ
total v s p = 2 + v + s + s * p
