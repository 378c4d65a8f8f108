-- For the proofs: nothing here must be believed.
-- Restoring what was parked gives the image back, if its z numbers have no bit set. Block k of a parked file has number k, so each head stands once, at
-- its number; then each list is `rows_back`'s. Assumes nothing.
use Rattle.std.specs.Prelude.{◌≡◌, true, ltb, eqb, length, Float}
use Rattle.std.proofs.Common.{sym, ◌∙◌, subst, mod-lt, div-add-mod', div-lt_iff_lt-mul, lt-ltb, le-ltb, eqb-true}
use Rattle.std.proofs.Math.Path.{ap}
use Prim.Native.Nat.{ℕ, ◌+◌, ◌-◌, ◌*◌, ◌/◌, ◌%◌, ◌≤◌, ◌<◌}
use native.Mathlib.Omega.{arith}
use mathlib.Core.List.{List}
use Rattle.std.proofs.Math.ListN.{get_or}
use Rattle.std.specs.Float.{nan}
use Rattle.parts.specs.Parts.{piece}
use Rattle.parts.specs.Laws.{piece_get}
use Rattle.parts.specs.Flat.{flat_at, length_flat}
use Rattle.voices.specs.Calls.{targets_width, record_width, target_z, record_z, is_clear}
use Rattle.text.specs.Text.{bits_of}
use Rattle.blocks.specs.Blocks.{head_of, block_bytes, content_at, sound_block}
use Rattle.blocks.specs.Laws.{block_head, block_content, length_block, block_sound}
use Rattle.places.specs.Places.{place_of, blocks_in, sound_file, is_once, block_with, index_of, number_in, number_at, is_whole}
use Rattle.places.specs.Once.{Placed, placed_exactly, place_is, every_at, every_of}
use Rattle.places.specs.Heads.{head_at, index_head, setup_head}
use Rattle.places.specs.Order.{placed_in_order}
use Rattle.places.specs.ByHead.{target_heads, record_heads, ring_head_lem, head_once, with_number}
use Rattle.rows.specs.Rows.{row_words, numbers_in}
use Rattle.rows.specs.Asks.{part_words}
use Rattle.rows.specs.Asks.{F32s, Blank}
use Rattle.rows.proofs.Back.{all_carried, numbers_are, rows_back}
use Rattle.files.specs.File.{parked_targets, parked_record}
use Rattle.files.specs.Image.{Image, either, content_of, block_at, blocks_of, image_file, Whole}

-- ---- the blocks of a parked file

pub length_at : (im : Image) (k : ℕ) → length (block_at im k) ≡ 512
unfolding block_at
length_at im k = length_block (head_at im.v im.s im.p k) (content_of im k)

pub parked_length : (im : Image) → length (image_file im) ≡ blocks_of im * 512
unfolding image_file
parked_length im = length_flat 512 (block_at im) (blocks_of im) (λ k l. length_at im k)

pub parked_blocks : (im : Image) → blocks_in (image_file im) ≡ blocks_of im
parked_blocks im = let e : length (image_file im) ≡ blocks_of im * 512 = parked_length im in omega arith

pub parked_piece : (im : Image) (k : ℕ) → k < blocks_of im → piece 512 k (image_file im) ≡ block_at im k
unfolding image_file
parked_piece im k l = flat_at 512 (block_at im) (blocks_of im) k (λ j u. length_at im j) l

pub parked_sound : (im : Image) (k : ℕ) → k < blocks_of im → sound_block (piece 512 k (image_file im)) ≡ true
unfolding block_at
parked_sound im k l = ap sound_block (parked_piece im k l) ∙ block_sound (head_at im.v im.s im.p k) (content_of im k)

pub parked_number : (im : Image) → Whole im → (k : ℕ) → k < blocks_of im → number_in im.v im.s im.p (piece 512 k (image_file im)) ≡ k
unfolding block_at
parked_number im w k l =
    ap (number_in im.v im.s im.p) (parked_piece im k l)
    ∙ ap (index_of im.v im.s im.p) (block_head (head_at im.v im.s im.p k) (content_of im k))
    ∙ index_head im.v im.s im.p k w.voices w.slots l

-- none is missing, doubled or unknown
pub parked_placed : (im : Image) → Whole im → Placed (number_at im.v im.s im.p (image_file im)) (blocks_in (image_file im)) (blocks_of im)
parked_placed im w =
    subst (λ (N : ℕ). Placed (number_at im.v im.s im.p (image_file im)) N (blocks_of im)) (sym (parked_blocks im))
    (placed_in_order (number_in im.v im.s im.p) (λ b. piece 512 b (image_file im)) (blocks_of im) (parked_number im w))

-- the block with a number's head is that number's
pub parked_with : (im : Image) → Whole im → (k : ℕ) → k < blocks_of im → block_with (image_file im) (head_at im.v im.s im.p k) ≡ block_at im k
parked_with im w k l =
    let n : ℕ → ℕ = number_at im.v im.s im.p (image_file im) in
    let pl = parked_placed im w in
    let here : k < blocks_in (image_file im) = subst (λ (N : ℕ). k < N) (sym (parked_blocks im)) l in
    with_number im.v im.s im.p (image_file im) w.voices w.slots pl k l
    ∙ ap (λ (b : ℕ). piece 512 b (image_file im)) (ap (λ (x : ℕ). place_of n x (blocks_in (image_file im))) (sym (parked_number im w k l))
    ∙ place_is n (blocks_in (image_file im)) (blocks_of im) pl k here)
    ∙ parked_piece im k l

-- ---- z, which alone of a row is not carried (C-17)

-- all numbers of a row are carried but its last, which has no bit set
clear_blank : (C rows : ℕ) (xs : List Float) → is_clear (C + 1) C rows xs ≡ true → Blank C (C + 1) xs (rows * (C + 1))
unfolding is_clear
clear_blank C rows xs e i l h =
    let some : 0 < C + 1 = omega arith in
    let r : i / (C + 1) < rows = (div-lt_iff_lt-mul {k = C + 1} {x = i} {y = rows} some).1 l in
    let c : C ≡ i % (C + 1) = omega (arith, mod-lt i some) in
    let z : bits_of (get_or xs (i / (C + 1) * (C + 1) + C) nan) ≡ 0
    = eqb-true _ 0 (every_at (λ k. eqb (bits_of (get_or xs (k * (C + 1) + C) nan)) 0) rows (i / (C + 1)) e r) in
    sym (ap (λ (k : ℕ). bits_of (get_or xs k nan)) (ap (λ (k : ℕ). i / (C + 1) * (C + 1) + k) c ∙ div-add-mod' i (C + 1))) ∙ z

-- ---- the content of a block, by kind

module _ (im : Image) where
  pub setup_content : (k : ℕ) → k < 2 → content_of im k ≡ piece 126 k im.setup
  unfolding content_of
  setup_content k h = λ i. either (lt-ltb k 2 h i) (piece 126 k im.setup) rest
    where
      rest : List ℕ
      rest =
          either (ltb k (2 + im.v)) (row_words parked_targets targets_width im.targets (k - 2) 0)
          (either (ltb k (2 + im.v + im.s)) (row_words parked_record record_width im.records (k - (2 + im.v)) 0)
          (row_words im.L im.L im.delay ((k - (2 + im.v + im.s)) / im.p) ((k - (2 + im.v + im.s)) % im.p)))

  pub target_content : (j : ℕ) → j < im.v * 1 → content_of im (2 + j) ≡ part_words parked_targets targets_width 1 im.targets j
  unfolding content_of
  target_content j h =
      let k : ℕ = 2 + j in
      let e : k - 2 ≡ j / 1 = omega arith in
      let q : 0 ≡ j % 1 = omega arith in
      (λ i. either (le-ltb k 2 (omega arith) i) (piece 126 k im.setup)
      (either (lt-ltb k (2 + im.v) (omega arith) i) (row_words parked_targets targets_width im.targets (e i) (q i))
      (either (ltb k (2 + im.v + im.s)) (row_words parked_record record_width im.records (k - (2 + im.v)) 0)
      (row_words im.L im.L im.delay ((k - (2 + im.v + im.s)) / im.p) ((k - (2 + im.v + im.s)) % im.p)))))

  pub record_content : (j : ℕ) → j < im.s * 1 → content_of im (2 + im.v + j) ≡ part_words parked_record record_width 1 im.records j
  unfolding content_of
  record_content j h =
      let k : ℕ = 2 + im.v + j in
      let e : k - (2 + im.v) ≡ j / 1 = omega arith in
      let q : 0 ≡ j % 1 = omega arith in
      (λ i. either (le-ltb k 2 (omega arith) i) (piece 126 k im.setup)
      (either (le-ltb k (2 + im.v) (omega arith) i) (row_words parked_targets targets_width im.targets (k - 2) 0)
      (either (lt-ltb k (2 + im.v + im.s) (omega arith) i) (row_words parked_record record_width im.records (e i) (q i))
      (row_words im.L im.L im.delay ((k - (2 + im.v + im.s)) / im.p) ((k - (2 + im.v + im.s)) % im.p)))))

  pub ring_content : (j : ℕ) → content_of im (2 + im.v + im.s + j) ≡ part_words im.L im.L im.p im.delay j
  unfolding content_of
  ring_content j =
      let k : ℕ = 2 + im.v + im.s + j in
      let e : k - (2 + im.v + im.s) ≡ j = omega arith in
      (λ i. either (le-ltb k 2 (omega arith) i) (piece 126 k im.setup)
      (either (le-ltb k (2 + im.v) (omega arith) i) (row_words parked_targets targets_width im.targets (k - 2) 0)
      (either (le-ltb k (2 + im.v + im.s) (omega arith) i) (row_words parked_record record_width im.records (k - (2 + im.v)) 0)
      (row_words im.L im.L im.delay (e i / im.p) (e i % im.p)))))

  -- ---- the round trip

  module _ (w : Whole im) where
    abbrev F : List ℕ
    F = image_file im

    block_with_lem : (first j head : ℕ) (xs : List ℕ) → first + j < blocks_of im → head_at im.v im.s im.p (first + j) ≡ head
        → content_of im (first + j) ≡ xs
        → block_with F head ≡ block_bytes head xs
    unfolding block_at
    block_with_lem first j head xs l h e =
        ap (block_with F) (sym h) ∙ parked_with im w (first + j) l ∙ (λ i. block_bytes (h i) (e i))

    pub setup_back : (i : ℕ) → i < 252 → content_at (block_with F (head_of 1 0 (i / 126))) (i % 126) ≡ get_or im.setup i 0
    unfolding block_at
    setup_back i l =
        let k : ℕ = i / 126 in
        let hk : k < 2 = omega arith in
        let hw : i % 126 < 126 = omega arith in
        let h : head_at im.v im.s im.p k ≡ head_of 1 0 k = setup_head im.v im.s im.p k hk in
        ap (λ (b : List ℕ). content_at b (i % 126))
        (ap (block_with F) (sym h) ∙ parked_with im w k (omega arith) ∙ (λ t. block_bytes (h t) (setup_content k hk t)))
        ∙ block_content (head_of 1 0 k) (piece 126 k im.setup) (i % 126) hw
        ∙ piece_get 126 k (i % 126) im.setup 0 hw
        ∙ ap (λ (j : ℕ). get_or im.setup j 0) (div-add-mod' i 126)

    -- a list whose blocks, of one kind, stand from block `first` on
    list_back : (first kind C L p rows : ℕ) (xs : List Float) → 0 < L → L ≤ p * 126 → length xs ≡ rows * L → F32s xs → Blank C L xs (rows * L)
        → first + rows * p ≤ blocks_of im
        → ((j : ℕ) → j < rows * p → head_at im.v im.s im.p (first + j) ≡ head_of kind (j / p) (j % p))
        → ((j : ℕ) → j < rows * p → content_of im (first + j) ≡ part_words C L p xs j)
        → numbers_in F kind C L (rows * L) ≡ xs
    list_back first kind C L p rows xs some hold len good blank fit head content =
        numbers_are F kind C L p some hold rows
        ∙ rows_back C L p xs some hold (λ j. block_with F (head_of kind (j / p) (j % p))) (λ j. head_of kind (j / p) (j % p)) rows len good blank
        (λ j l. block_with_lem first j (head_of kind (j / p) (j % p)) (part_words C L p xs j) (omega arith) (head j l) (content j l))

    pub targets_back : F32s im.targets → is_clear targets_width target_z im.v im.targets ≡ true
        → numbers_in F 2 parked_targets targets_width (im.v * targets_width) ≡ im.targets
    targets_back good clear =
        list_back 2 2 parked_targets targets_width 1 im.v im.targets (omega arith) (omega arith) w.targets good
        (clear_blank parked_targets im.v im.targets clear) (omega arith)
        (target_heads im.v im.s im.p) target_content

    pub records_back : F32s im.records → is_clear record_width record_z im.s im.records ≡ true
        → numbers_in F 3 parked_record record_width (im.s * record_width) ≡ im.records
    records_back good clear =
        list_back (2 + im.v) 3 parked_record record_width 1 im.s im.records (omega arith) (omega arith) w.records good
        (clear_blank parked_record im.s im.records clear) (omega arith)
        (record_heads im.v im.s im.p) record_content

    pub delay_back : F32s im.delay → numbers_in F 4 im.L im.L (im.s * im.L) ≡ im.delay
    delay_back good =
        list_back (2 + im.v + im.s) 4 im.L im.L im.p im.s im.delay w.some w.hold w.delay good
        (all_carried im.L im.delay (im.s * im.L) w.some) (omega arith)
        (λ j l. ring_head_lem im.v im.s im.p j) (λ j l. ring_content j)

    -- ---- so the reader's questions find nothing to refuse

    pub setup_once : (k : ℕ) → k < 2 → is_once F (head_of 1 0 k) ≡ true
    setup_once k h =
        ap (is_once F) (sym (setup_head im.v im.s im.p k h))
        ∙ head_once im.v im.s im.p F w.voices w.slots (parked_placed im w) k (omega arith)

    pub parked_whole : is_whole im.v im.s im.p F ≡ true
    parked_whole = placed_exactly (number_at im.v im.s im.p F) (blocks_in F) (blocks_of im) (parked_placed im w)

pub parked_multiple : (im : Image) → length (image_file im) % 512 ≡ 0
parked_multiple im = let e : length (image_file im) ≡ blocks_of im * 512 = parked_length im in omega arith

pub parked_sums : (im : Image) → sound_file (image_file im) ≡ true
unfolding sound_file
parked_sums im =
    every_of (λ b. sound_block (piece 512 b (image_file im))) (blocks_in (image_file im))
    (λ b l. parked_sound im b (subst (λ (N : ℕ). b < N) (parked_blocks im) l))
