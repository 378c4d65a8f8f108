-- For the proofs: nothing here must be believed.
-- Laws of blocks: what was written is what is read, a written block is sound, a block in the making, and the words of a block of a file. Assumes nothing.
use Rattle.std.specs.Prelude.{◌≡◌, refl, Bool, true, cond, ℕ, zero, suc, ◌+◌, ◌*◌, ◌%◌, ◌<◌, List, ◌∷◌, ◌++◌, length, get_or, drop}
use Rattle.std.proofs.Common.{sym, ap, ◌∙◌, le_refl, arith, lt-ltb, eq-eqb}
use Rattle.std.proofs.Math.Nat.{le_step}
use Rattle.parts.specs.Parts.{flat, piece, patch}
use Rattle.parts.specs.Laws.{piece_get}
use Rattle.parts.specs.Flat.{flat_piece, flat_at, flat_next, flat_whole, length_flat}
use Rattle.file_words.specs.Words.{word_bytes, word_of, word_at}
use Rattle.file_words.specs.Laws.{length_word, word_is, word_of_bytes}
use Rattle.blocks.specs.Blocks.{head_of, kind_of, who_of, part_of, sum_to, closing, body_word, block_word, block_bytes, sound_block, content_at}

pub sum_same : (f g : ℕ → ℕ) (n : ℕ) → ((k : ℕ) → k < n → f k ≡ g k) → sum_to f n ≡ sum_to g n
sum_same f g zero h = refl
sum_same f g (suc n) h = λ i. sum_same f g n (λ k l. h k (le_step l)) i + h n (le_refl (suc n)) i

pub closed : (s : ℕ) → (s + closing s) % 4294967296 ≡ 0
unfolding closing
closed s = omega arith

pub length_block : (head : ℕ) (xs : List ℕ) → length (block_bytes head xs) ≡ 512
unfolding block_bytes
length_block head xs = length_flat 4 (λ j. word_bytes (block_word head xs j)) 128 (λ k l. length_word (block_word head xs k))

pub block_word_lem : (head : ℕ) (xs : List ℕ) (j : ℕ) → j < 128 → word_at (block_bytes head xs) j ≡ block_word head xs j
unfolding block_bytes word_at
block_word_lem head xs j h =
    ap word_of (flat_at 4 (λ k. word_bytes (block_word head xs k)) 128 j (λ k l. length_word (block_word head xs k)) h) ∙ word_of_bytes (block_word head xs j)

pub body_word_lem : (head : ℕ) (xs : List ℕ) (j : ℕ) → j < 127 → block_word head xs j ≡ body_word head xs j
unfolding block_word
body_word_lem head xs j h = ap (λ (b : Bool). cond b (body_word head xs j) (closing (sum_to (body_word head xs) 127))) (lt-ltb j 127 h)

pub last_word : (head : ℕ) (xs : List ℕ) → block_word head xs 127 ≡ closing (sum_to (body_word head xs) 127)
unfolding block_word
last_word head xs = refl

-- what was written is what is read
pub block_head : (head : ℕ) (xs : List ℕ) → word_at (block_bytes head xs) 0 ≡ head
unfolding body_word
block_head head xs = block_word_lem head xs 0 (omega arith) ∙ body_word_lem head xs 0 (omega arith)

pub block_content : (head : ℕ) (xs : List ℕ) (j : ℕ) → j < 126 → content_at (block_bytes head xs) j ≡ get_or xs j 0
unfolding body_word content_at
block_content head xs j h =
    let e : 1 + j ≡ suc j = omega arith in
    block_word_lem head xs (1 + j) (omega arith) ∙ body_word_lem head xs (1 + j) (omega arith) ∙ ap (λ (k : ℕ). get_or (head ∷ xs) k 0) e

-- a written block is sound
pub block_sum : (head : ℕ) (xs : List ℕ)
    → sum_to (word_at (block_bytes head xs)) 128 ≡ sum_to (body_word head xs) 127 + closing (sum_to (body_word head xs) 127)
block_sum head xs =
    λ i. sum_same (word_at (block_bytes head xs)) (body_word head xs) 127 (λ k l. block_word_lem head xs k (le_step l) ∙ body_word_lem head xs k l) i
    + (block_word_lem head xs 127 (omega arith) ∙ last_word head xs) i

pub block_sound : (head : ℕ) (xs : List ℕ) → sound_block (block_bytes head xs) ≡ true
unfolding sound_block
block_sound head xs =
    eq-eqb (sum_to (word_at (block_bytes head xs)) 128 % 4294967296) 0
    (ap (λ (s : ℕ). s % 4294967296) (block_sum head xs) ∙ closed (sum_to (body_word head xs) 127))

pub head_kind : (k w p : ℕ) → k < 256 → w < 256 → kind_of (head_of k w p) ≡ k
unfolding head_of kind_of
head_kind k w p hk hw = omega arith

pub head_who : (k w p : ℕ) → k < 256 → w < 256 → who_of (head_of k w p) ≡ w
unfolding head_of who_of
head_who k w p hk hw = omega arith

pub head_part : (k w p : ℕ) → k < 256 → w < 256 → part_of (head_of k w p) ≡ p
unfolding head_of part_of
head_part k w p hk hw = omega arith

pub head_parts : (h : ℕ) → head_of (kind_of h) (who_of h) (part_of h) ≡ h
unfolding head_of kind_of who_of part_of
head_parts h = omega arith

-- ---- a block in the making: its first j words, then what stood there

unfoldable pub started : ℕ → List ℕ → ℕ → List ℕ → List ℕ
started head xs j part = flat (λ k. word_bytes (block_word head xs k)) j ++ drop (j * 4) part

pub started_none : (head : ℕ) (xs part : List ℕ) → part ≡ started head xs 0 part
unfolding started
started_none head xs part = refl

pub started_next : (head : ℕ) (xs part : List ℕ) (j w : ℕ) → length part ≡ 512 → j < 128 → w ≡ block_word head xs j
    → patch 4 j (word_bytes w) (started head xs j part) ≡ started head xs (suc j) part
unfolding started
started_next head xs part j w l h e =
    ap (λ (v : ℕ). patch 4 j (word_bytes v) (started head xs j part)) e
    ∙ flat_next 4 (λ k. word_bytes (block_word head xs k)) j part (λ k u. length_word (block_word head xs k)) (omega arith)

-- the sum of its words, all but the last written
pub started_sum : (head : ℕ) (xs part : List ℕ) → sum_to (word_at (started head xs 127 part)) 127 ≡ sum_to (body_word head xs) 127
unfolding started word_at
started_sum head xs part =
    sum_same (word_at (started head xs 127 part)) (body_word head xs) 127
    (λ k h. ap word_of (flat_piece 4 (λ j. word_bytes (block_word head xs j)) 127 k (drop 508 part) (λ j u. length_word (block_word head xs j)) h)
    ∙ word_of_bytes (block_word head xs k)
    ∙ body_word_lem head xs k h)

pub started_whole : (head : ℕ) (xs part : List ℕ) → length part ≡ 512 → started head xs 128 part ≡ block_bytes head xs
unfolding started block_bytes
started_whole head xs part l = flat_whole 4 (λ k. word_bytes (block_word head xs k)) 128 part l

-- ---- a block of a file

-- word j of block b
pub word_block : (file : List ℕ) (b j : ℕ) → j < 128 → word_at (piece 512 b file) j ≡ word_at file (b * 128 + j)
word_block file b j h =
    word_is (piece 512 b file) j
    ∙ (λ t. (first ∙ at 0 (omega arith) ∙ none) t + at 1 (omega arith) t * 256 + at 2 (omega arith) t * 65536 + at 3 (omega arith) t * 16777216)
    ∙ sym (word_is file (b * 128 + j))
  where
    first : get_or (piece 512 b file) (j * 4) 0 ≡ get_or (piece 512 b file) (j * 4 + 0) 0
    first = let e : j * 4 ≡ j * 4 + 0 = omega arith in ap (λ (i : ℕ). get_or (piece 512 b file) i 0) e

    at : (k : ℕ) → k < 4 → get_or (piece 512 b file) (j * 4 + k) 0 ≡ get_or file ((b * 128 + j) * 4 + k) 0
    at k l =
        let e : b * 512 + (j * 4 + k) ≡ (b * 128 + j) * 4 + k = omega arith in
        piece_get 512 b (j * 4 + k) file 0 (omega arith) ∙ ap (λ (i : ℕ). get_or file i 0) e

    none : get_or file ((b * 128 + j) * 4 + 0) 0 ≡ get_or file ((b * 128 + j) * 4) 0
    none = let e : (b * 128 + j) * 4 + 0 ≡ (b * 128 + j) * 4 = omega arith in ap (λ (i : ℕ). get_or file i 0) e
