-- For the proofs: nothing here must be believed.
-- What the code of parking and restoring asks and promises. Definitions only.
use Rattle.std.specs.Prelude.{◌≡◌, true, ℕ, suc, ◌*◌, ◌≤◌, ◌<◌, List, length, get_or, Float}
use Rattle.voices.specs.Calls.{targets_width, record_width}
use Rattle.blocks.specs.Blocks.{total}
use Rattle.places.specs.Places.{place_of, blocks_in, number_at, is_whole}
use Rattle.rows.specs.Rows.{numbers_in}
use Rattle.files.specs.File.{parked_targets, parked_record}
use Rattle.files.specs.Image.{Image, blocks_of, Whole}

abbrev pub image_of : (v s L p : ℕ) (setup : List ℕ) (targets records delay : List Float) → Image
image_of v s L p w t r d = record { v = v; s = s; L = L; p = p; setup = w; targets = t; records = r; delay = d }

-- a list as long as the file
pub record Room (im : Image) (written : ℕ) : Type 0 where
  pub whole : Whole im
  pub some_part : 0 < im.p
  pub parts : im.p ≤ 65536
  pub room : written ≡ blocks_of im * 512

-- the reader's table, and lists as long as the setup says
pub record Ready (v s L p : ℕ) (file pos : List ℕ) (targets records delay : ℕ) : Type 0 where
  pub voices : v ≤ 256
  pub slots : s ≤ 256
  pub once : is_whole v s p file ≡ true
  pub places : (k : ℕ) → k < total v s p → get_or pos k 0 ≡ suc (place_of (number_at v s p file) k (blocks_in file))
  pub table : total v s p ≤ length pos
  pub some : 0 < L
  pub hold : L ≤ p * 126
  pub targets_length : targets ≡ v * targets_width
  pub records_length : records ≡ s * record_width
  pub delay_length : delay ≡ s * L

pub record Restored (v s L : ℕ) (file : List ℕ) (targets records delay : List Float) : Type 0 where
  pub targets_are : targets ≡ numbers_in file 2 parked_targets targets_width (v * targets_width)
  pub records_are : records ≡ numbers_in file 3 parked_record record_width (s * record_width)
  pub delay_are : delay ≡ numbers_in file 4 L L (s * L)
