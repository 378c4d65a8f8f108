-- For the proofs: nothing here must be believed.
-- A bank as it is parked, its file block by block, block k carrying the head number k. Definitions only.
use Rattle.std.specs.Prelude.{ℕ, ◌+◌, ◌-◌, ◌*◌, ◌/◌, ◌%◌, ◌≤◌, ◌<◌, ◌≡◌, Bool, true, false, List, ltb, length, Float}
use Rattle.parts.specs.Parts.{flat, piece}
use Rattle.voices.specs.Calls.{targets_width, record_width}
use Rattle.blocks.specs.Blocks.{block_bytes, total}
use Rattle.places.specs.Heads.{head_at}
use Rattle.rows.specs.Rows.{row_words}
use Rattle.files.specs.File.{parked_targets, parked_record}

pub record Image : Type 0 where
  -- voices, slots, cells of a ring, parts of a ring
  pub v : ℕ
  pub s : ℕ
  pub L : ℕ
  pub p : ℕ
  pub setup : List ℕ
  pub targets : List Float
  pub records : List Float
  pub delay : List Float

abbrev pub either : Bool → List ℕ → List ℕ → List ℕ
either true a b = a
either false a b = b

-- the content of block k
unfoldable pub content_of : Image → ℕ → List ℕ
content_of im k =
    either (ltb k 2) (piece 126 k im.setup)
    (either (ltb k (2 + im.v)) (row_words parked_targets targets_width im.targets (k - 2) 0)
    (either (ltb k (2 + im.v + im.s)) (row_words parked_record record_width im.records (k - (2 + im.v)) 0)
    (row_words im.L im.L im.delay ((k - (2 + im.v + im.s)) / im.p) ((k - (2 + im.v + im.s)) % im.p))))

unfoldable pub block_at : Image → ℕ → List ℕ
unfolding content_of
block_at im k = block_bytes (head_at im.v im.s im.p k) (content_of im k)

abbrev pub blocks_of : Image → ℕ
blocks_of im = total im.v im.s im.p

unfoldable pub image_file : Image → List ℕ
unfolding block_at
image_file im = flat (block_at im) (blocks_of im)

-- lists as long as they should be
pub record Whole (im : Image) : Type 0 where
  pub voices : im.v ≤ 256
  pub slots : im.s ≤ 256
  pub some : 0 < im.L
  pub hold : im.L ≤ im.p * 126
  pub setup : length im.setup ≡ 170
  pub targets : length im.targets ≡ im.v * targets_width
  pub records : length im.records ≡ im.s * record_width
  pub delay : length im.delay ≡ im.s * im.L
