-- For the proofs: nothing here must be believed.
-- What was parked comes back: restoring the blocks of a list of f32s gives the list, if its numbers that are not carried have no bit set. Number i stands
-- in row i / L, so in part i % L / 126 of it, at word i % L % 126; each of the three is read back from the block's number. Assumes nothing.
use Rattle.std.specs.Prelude.{◌≡◌, ℕ, ◌+◌, ◌*◌, ◌/◌, ◌%◌, ◌≤◌, ◌<◌, List, ltb, length, get_or, Float}
use Rattle.std.proofs.Math.Path.{sym, ap, subst}
use Rattle.std.proofs.Common.{◌∙◌, mod-lt, div-lt_iff_lt-mul, arith, lt-ltb, le-ltb}
use Rattle.std.proofs.Math.Nat.{div-add-mod'}
use Rattle.std.proofs.Math.Decide.{dec_le}
use Rattle.std.proofs.Math.Seq.{ext_get_or}
use Rattle.std.specs.Float.Ieee.{nan}
use Rattle.parts.specs.Parts.{tab}
use Rattle.parts.specs.Laws.{length_tab, tab_at, tab_same, flat_lt}
use Rattle.text.specs.Text.{bits_of}
use Rattle.file_words.specs.Words.{float_of}
use Rattle.file_words.specs.Laws.{float_of_bits}
use Rattle.blocks.specs.Blocks.{head_of, block_bytes, content_at}
use Rattle.blocks.specs.Laws.{block_content}
use Rattle.places.specs.Places.{pick, block_with}
use Rattle.places.specs.ByHead.{row_of, part_of_lem}
use Rattle.rows.specs.Rows.{cell_word, row_words, number_from, numbers_in}
use Rattle.rows.specs.Asks.{part_words, cell_at, restored_rows, F32s, Blank}
use Rattle.blocks.specs.Blocks.{parts_of}

pub parts_hold : (L : ℕ) → L ≤ parts_of L * 126
parts_hold L = omega arith

module _ (L p : ℕ) (some : 0 < L) (hold : L ≤ p * 126) where
  part_below : (i : ℕ) → i % L / 126 < p
  part_below i = (div-lt_iff_lt-mul {k = 126} {x = i % L} {y = p} (omega arith)).1 (below (mod-lt i some))
    where
      below : i % L < L → i % L < p * 126
      below h = omega arith

  -- the block of number i is one of the list's
  pub block_below : (i rows : ℕ) → i < rows * L → i / L * p + i % L / 126 < rows * p
  block_below i rows l = flat_lt rows p (i / L) (i % L / 126) ((div-lt_iff_lt-mul {k = L} {x = i} {y = rows} some).1 l) (part_below i)

module _ (C L p : ℕ) (xs : List Float) (some : 0 < L) (hold : L ≤ p * 126) where
  -- the word of the content that number i is parked in
  cell_parked : (i : ℕ)
      → cell_word C L xs ((i / L * p + i % L / 126) / p) ((i / L * p + i % L / 126) % p * 126 + i % L % 126)
      ≡ pick (ltb (i % L) C) (bits_of (get_or xs i nan)) 0
  unfolding cell_word
  cell_parked i =
      let r = row_of p (i / L) (i % L / 126) (part_below L p some hold i) in
      let q = part_of_lem p (i / L) (i % L / 126) (part_below L p some hold i) in
      let w : i % L / 126 * 126 + i % L % 126 ≡ i % L = div-add-mod' (i % L) 126 in
      (λ t. cell_word C L xs (r t) (q t * 126 + i % L % 126))
      ∙ ap (cell_word C L xs (i / L)) w
      ∙ (λ t. pick (ltb (i % L) C) (bits_of (get_or xs (div-add-mod' i L t) nan)) 0)

  word_parked : (j w : ℕ) → w < 126 → get_or (part_words C L p xs j) w 0 ≡ cell_word C L xs (j / p) (j % p * 126 + w)
  unfolding row_words
  word_parked j w h = tab_at (λ x. cell_word C L xs (j / p) (j % p * 126 + x)) 126 w 0 h

  -- and the word that it is restored from
  cell_word_lem : (found : ℕ → List ℕ) (head : ℕ → ℕ) (rows : ℕ) → Blank C L xs (rows * L)
      → ((j : ℕ) → j < rows * p → found j ≡ block_bytes (head j) (part_words C L p xs j))
      → (i : ℕ) → i < rows * L
      → pick (ltb (i % L) C) (content_at (found (i / L * p + i % L / 126)) (i % L % 126)) 0 ≡ bits_of (get_or xs i nan)
  cell_word_lem found head rows blank is i l =
      let j : ℕ = i / L * p + i % L / 126 in
      let w : ℕ = i % L % 126 in
      let lw : w < 126 = mod-lt (i % L) (omega arith) in
      let lj : j < rows * p = block_below L p some hold i rows l in
      elim (dec_le C (i % L)) [
        | yes h ↦ (λ t. pick (le-ltb (i % L) C h t) (content_at (found j) w) 0) ∙ sym (blank i l h)
        | no h ↦
            let lc : i % L < C = omega arith in
            (λ t. pick (lt-ltb (i % L) C lc t) (content_at (found j) w) 0)
            ∙ ap (λ (b : List ℕ). content_at b w) (is j lj)
            ∙ block_content (head j) (part_words C L p xs j) w lw
            ∙ word_parked j w lw
            ∙ cell_parked i
            ∙ (λ t. pick (lt-ltb (i % L) C lc t) (bits_of (get_or xs i nan)) 0)
      ]

  cell : (found : ℕ → List ℕ) (head : ℕ → ℕ) (rows : ℕ) → length xs ≡ rows * L → F32s xs → Blank C L xs (rows * L)
      → ((j : ℕ) → j < rows * p → found j ≡ block_bytes (head j) (part_words C L p xs j))
      → (i : ℕ) → i < rows * L → cell_at found C L p i ≡ get_or xs i nan
  unfolding cell_at
  cell found head rows len good blank is i l =
      ap float_of (cell_word_lem found head rows blank is i l)
      ∙ float_of_bits (get_or xs i nan) (good i (subst (λ (n : ℕ). i < n) (sym len) l))

  pub rows_back : (found : ℕ → List ℕ) (head : ℕ → ℕ) (rows : ℕ) → length xs ≡ rows * L → F32s xs → Blank C L xs (rows * L)
      → ((j : ℕ) → j < rows * p → found j ≡ block_bytes (head j) (part_words C L p xs j))
      → restored_rows found C L p (rows * L) ≡ xs
  unfolding restored_rows cell_at
  rows_back found head rows len good blank is =
      ext_get_or nan (tab (cell_at found C L p) (rows * L)) xs (length_tab (cell_at found C L p) (rows * L) ∙ sym len)
      (λ i l.
      let li : i < rows * L = subst (λ (n : ℕ). i < n) (length_tab (cell_at found C L p) (rows * L)) l in
      tab_at (cell_at found C L p) (rows * L) i nan li ∙ cell found head rows len good blank is i li)

-- where all of a row is carried there is no such number
pub all_carried : (L : ℕ) (xs : List Float) (n : ℕ) → 0 < L → Blank L L xs n
all_carried L xs n some i l h = let b : i % L < L = mod-lt i some in absurd (omega arith)

pub length_row : (C L : ℕ) (xs : List Float) (r q : ℕ) → length (row_words C L xs r q) ≡ 126
unfolding row_words
length_row C L xs r q = length_tab (λ w. cell_word C L xs r (q * 126 + w)) 126

-- the same blocks give the same list
pub rows_same : (C L p : ℕ) → 0 < L → L ≤ p * 126 → (a b : ℕ → List ℕ) (rows : ℕ) → ((j : ℕ) → j < rows * p → a j ≡ b j)
    → restored_rows a C L p (rows * L) ≡ restored_rows b C L p (rows * L)
unfolding restored_rows cell_at
rows_same C L p some hold a b rows h =
    tab_same (cell_at a C L p) (cell_at b C L p) (rows * L)
    (λ i l. ap (λ (x : List ℕ). float_of (pick (ltb (i % L) C) (content_at x (i % L % 126)) 0))
    (h (i / L * p + i % L / 126) (block_below L p some hold i rows l)))

-- read by heads: block j has the head of row j / p and part j % p
pub numbers_are : (file : List ℕ) (kind C L p : ℕ) → 0 < L → L ≤ p * 126 → (rows : ℕ)
    → numbers_in file kind C L (rows * L) ≡ restored_rows (λ j. block_with file (head_of kind (j / p) (j % p))) C L p (rows * L)
unfolding numbers_in number_from restored_rows cell_at
numbers_are file kind C L p some hold rows =
    tab_same (number_from file kind C L) (cell_at (λ j. block_with file (head_of kind (j / p) (j % p))) C L p) (rows * L)
    (λ i l.
    let h : i % L / 126 < p = part_below L p some hold i in
    sym (λ t. float_of (pick (ltb (i % L) C)
    (content_at (block_with file (head_of kind (row_of p (i / L) (i % L / 126) h t) (part_of_lem p (i / L) (i % L / 126) h t))) (i % L % 126)) 0)))
