-- The blocks of a file (document 02, C-12): their heads and sums, the block with a given head wherever it stands, and whether every block that a bank
-- calls for stands exactly once and no other does ("missing, doubled or unknown"). v voices, s slots, p parts of a ring. Definitions only.
use Rattle.std.specs.Prelude.{ℕ, zero, suc, ◌+◌, ◌*◌, ◌/◌, Bool, true, false, ◌&&◌, List, ltb, eqb, length}
use Rattle.parts.specs.Parts.{piece}
use Rattle.file_words.specs.Words.{word_at}
use Rattle.blocks.specs.Blocks.{kind_of, who_of, part_of, sound_block, total}

-- ---- of the numbers f 0, .., f (N - 1)

-- a where the test holds, else b
abbrev pub pick : Bool → ℕ → ℕ → ℕ
pick true a b = a
pick false a b = b

-- one more where it holds
abbrev pub tally : Bool → ℕ → ℕ
tally true n = suc n
tally false n = n

-- how many are k
unfoldable pub count : (ℕ → ℕ) → ℕ → ℕ → ℕ
count f k zero = 0
count f k (suc N) = tally (eqb (f N) k) (count f k N)

-- where k stands: the last place, 0 where there is none
unfoldable pub place_of : (ℕ → ℕ) → ℕ → ℕ → ℕ
place_of f k zero = 0
place_of f k (suc N) = pick (eqb (f N) k) N (place_of f k N)

-- p holds of 0, .., n - 1
unfoldable pub every : (ℕ → Bool) → ℕ → Bool
every p zero = true
every p (suc n) = every p n && p n

-- every number below n stands exactly once, and no other stands
unfoldable pub exactly : (ℕ → ℕ) → (N n : ℕ) → Bool
exactly f N n = every (λ b. ltb (f b) n) N && every (λ k. eqb (count f k N) 1) n

-- ---- a file's blocks

abbrev pub blocks_in : List ℕ → ℕ
blocks_in file = length file / 512

-- block b's head
abbrev pub head_in : List ℕ → ℕ → ℕ
head_in file b = word_at (piece 512 b file) 0

-- the words of every block sum to zero
unfoldable pub sound_file : List ℕ → Bool
sound_file file = every (λ b. sound_block (piece 512 b file)) (blocks_in file)

-- a head stands exactly once
unfoldable pub is_once : List ℕ → (head : ℕ) → Bool
is_once file head = eqb (count (head_in file) head (blocks_in file)) 1

-- the block with a head, wherever it stands: "the reader takes any order"
unfoldable pub block_with : List ℕ → (head : ℕ) → List ℕ
block_with file head = piece 512 (place_of (head_in file) head (blocks_in file)) file

-- ---- the blocks that a bank calls for, numbered in the order of parking: "by kind, then by voice or slot, then by part"

-- the total for a head that is not called for
unfoldable pub number_of : (v s p kind who part : ℕ) → ℕ
number_of v s p kind who part =
    pick (eqb kind 1) (pick (eqb who 0 && ltb part 2) part (total v s p))
    (pick (eqb kind 2) (pick (ltb who v && eqb part 0) (2 + who) (total v s p))
    (pick (eqb kind 3) (pick (ltb who s && eqb part 0) (2 + v + who) (total v s p))
    (pick (eqb kind 4) (pick (ltb who s && ltb part p) (2 + v + s + (who * p + part)) (total v s p))
    (total v s p))))

-- of a head, of a block, and of block b of a file
unfoldable pub index_of : (v s p head : ℕ) → ℕ
index_of v s p head = number_of v s p (kind_of head) (who_of head) (part_of head)

abbrev pub number_in : (v s p : ℕ) → List ℕ → ℕ
number_in v s p block = index_of v s p (word_at block 0)

abbrev pub number_at : (v s p : ℕ) → List ℕ → ℕ → ℕ
number_at v s p file b = number_in v s p (piece 512 b file)

-- none is missing, doubled or unknown
abbrev pub is_whole : (v s p : ℕ) → List ℕ → Bool
is_whole v s p file = exactly (number_at v s p file) (blocks_in file) (total v s p)
