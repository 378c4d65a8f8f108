-- For the proofs: nothing here must be believed.
-- A file written block by block from the front is the parked file: what stands after n blocks, and what each run of blocks adds. By induction over the
-- blocks. Assumes nothing.
use Rattle.std.specs.Prelude.{◌≡◌, ltb, length, Float}
use Rattle.std.proofs.Math.Path.{sym, ap}
use Rattle.std.proofs.Common.{◌∙◌, le_refl, lt-ltb, le-ltb}
use Prim.Native.Nat.{ℕ, zero, suc, ◌+◌, ◌-◌, ◌*◌, ◌/◌, ◌%◌, ◌≤◌, ◌<◌}
use Rattle.std.proofs.Math.Nat.{le_step}
use native.Mathlib.Omega.{arith}
use mathlib.Core.List.{List, ◌++◌}
use Rattle.std.proofs.Math.ListN.{drop}
use Rattle.parts.specs.Parts.{piece, patch, flat}
use Rattle.parts.specs.Flat.{flat_next, flat_whole}
use Rattle.voices.specs.Calls.{targets_width, record_width}
use Rattle.blocks.specs.Blocks.{head_of, block_bytes}
use Rattle.places.specs.Places.{pick}
use Rattle.places.specs.Heads.{head_at}
use Rattle.rows.specs.Asks.{rows_block, rows_written}
use Rattle.files.specs.File.{parked_targets, parked_record}
use Rattle.files.specs.Image.{Image, block_at, blocks_of, image_file}
use Rattle.files.specs.Trip.{length_at, setup_content, target_content, record_content, ring_content}

-- n blocks, then what stood there
unfoldable pub made : Image → ℕ → List ℕ → List ℕ
made im n out = flat (block_at im) n ++ drop (n * 512) out

module _ (im : Image) (out : List ℕ) (room : length out ≡ blocks_of im * 512) where
  pub made_none : out ≡ made im 0 out
  unfolding made
  made_none = let e : 0 ≡ 0 * 512 = omega arith in ap (λ (k : ℕ). drop k out) e

  pub made_next : (n : ℕ) (b : List ℕ) → n < blocks_of im → b ≡ block_at im n → patch 512 n b (made im n out) ≡ made im (suc n) out
  unfolding made
  made_next n b l e = ap (λ (x : List ℕ). patch 512 n x (made im n out)) e
      ∙ flat_next 512 (block_at im) n out (λ k u. length_at im k) (omega (arith, room))

  pub made_whole : made im (blocks_of im) out ≡ image_file im
  unfolding made image_file
  made_whole = flat_whole 512 (block_at im) (blocks_of im) out room

  -- a run of n blocks from block `first` on
  pub made_rows : (first kind C L p : ℕ) (xs : List Float) (n : ℕ) → first + n ≤ blocks_of im
      → ((j : ℕ) → j < n → rows_block kind C L p xs j ≡ block_at im (first + j))
      → rows_written first kind C L p xs n (made im first out) ≡ made im (first + n) out
  unfolding rows_written
  made_rows first kind C L p xs zero l h = let e : first ≡ first + 0 = omega arith in ap (λ (k : ℕ). made im k out) e
  made_rows first kind C L p xs (suc n) l h =
      let e : suc (first + n) ≡ first + suc n = omega arith in
      ap (patch 512 (first + n) (rows_block kind C L p xs n)) (made_rows first kind C L p xs n (omega arith) (λ j u. h j (le_step u)))
      ∙ made_next (first + n) (rows_block kind C L p xs n) (omega arith) (h n (le_refl (suc n)))
      ∙ ap (λ (k : ℕ). made im k out) e

-- ---- what the code writes is the block of its number

module _ (im : Image) where
  abbrev v : ℕ
  v = im.v

  abbrev s : ℕ
  s = im.s

  abbrev p : ℕ
  p = im.p

  abbrev ring_head : ℕ → ℕ
  ring_head k = head_of 4 ((k - (2 + v + s)) / p) ((k - (2 + v + s)) % p)

  pub setup_block : (k : ℕ) → k < 2 → block_bytes (head_of 1 0 k) (piece 126 k im.setup) ≡ block_at im k
  unfolding block_at head_at
  setup_block k h =
      sym
      (λ i. block_bytes
      (pick (lt-ltb k 2 h i) (head_of 1 0 k) (pick (ltb k (2 + v)) (head_of 2 (k - 2) 0) (pick (ltb k (2 + v + s)) (head_of 3 (k - (2 + v)) 0) (ring_head k))))
      (setup_content im k h i))

  pub target_block : (j : ℕ) → j < v * 1 → rows_block 2 parked_targets targets_width 1 im.targets j ≡ block_at im (2 + j)
  unfolding block_at head_at
  target_block j h =
      let k : ℕ = 2 + j in
      let e : k - 2 ≡ j / 1 = omega arith in
      let q : 0 ≡ j % 1 = omega arith in
      sym
      (λ i. block_bytes
      (pick (le-ltb k 2 (omega arith) i) (head_of 1 0 k)
      (pick (lt-ltb k (2 + v) (omega arith) i) (head_of 2 (e i) (q i)) (pick (ltb k (2 + v + s)) (head_of 3 (k - (2 + v)) 0) (ring_head k))))
      (target_content im j h i))

  pub record_block : (j : ℕ) → j < s * 1 → rows_block 3 parked_record record_width 1 im.records j ≡ block_at im (2 + v + j)
  unfolding block_at head_at
  record_block j h =
      let k : ℕ = 2 + v + j in
      let e : k - (2 + v) ≡ j / 1 = omega arith in
      let q : 0 ≡ j % 1 = omega arith in
      sym
      (λ i. block_bytes
      (pick (le-ltb k 2 (omega arith) i) (head_of 1 0 k)
      (pick (le-ltb k (2 + v) (omega arith) i) (head_of 2 (k - 2) 0) (pick (lt-ltb k (2 + v + s) (omega arith) i) (head_of 3 (e i) (q i)) (ring_head k))))
      (record_content im j h i))

  pub ring_block : (j : ℕ) → rows_block 4 im.L im.L p im.delay j ≡ block_at im (2 + v + s + j)
  unfolding block_at head_at
  ring_block j =
      let k : ℕ = 2 + v + s + j in
      let e : k - (2 + v + s) ≡ j = omega arith in
      sym
      (λ i. block_bytes
      (pick (le-ltb k 2 (omega arith) i) (head_of 1 0 k)
      (pick (le-ltb k (2 + v) (omega arith) i) (head_of 2 (k - 2) 0)
      (pick (le-ltb k (2 + v + s) (omega arith) i) (head_of 3 (k - (2 + v)) 0) (head_of 4 (e i / p) (e i % p)))))
      (ring_content im j i))
