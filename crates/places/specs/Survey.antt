-- For the proofs: nothing here must be believed.
-- What the reader's survey of a file promises: it decides `exactly`, and where that holds its table has the places, each plus 1. Definitions only.
use Rattle.std.specs.Prelude.{◌≡◌, Bool, true, false, ℕ, suc, ◌*◌, ◌≤◌, ◌<◌, List, length, get_or}
use Rattle.places.specs.Places.{exactly, place_of}
use Rattle.places.specs.Marks.{Marked}
use Rattle.blocks.specs.Blocks.{total}
use Rattle.places.specs.Places.{number_at, blocks_in}

-- after every block was entered, or one was refused
pub record Entered (f : ℕ → ℕ) (N n : ℕ) (pos : List ℕ) (r : Bool) : Type 0 where
  pub marked : r ≡ true → Marked f n N pos
  pub refused : r ≡ false → exactly f N n ≡ false
  pub size : n ≤ length pos

pub record Surveyed (v s p : ℕ) (file pos : List ℕ) (r : Bool) : Type 0 where
  pub decides : r ≡ exactly (number_at v s p file) (blocks_in file) (total v s p)
  pub places : r ≡ true → (k : ℕ) → k < total v s p → get_or pos k 0 ≡ suc (place_of (number_at v s p file) k (blocks_in file))

-- a setup's sizes: voices, slots, parts of a ring
pub record Small (v s p : ℕ) : Type 0 where
  pub voices : v ≤ 16
  pub slots : s ≤ 32
  pub parts : p ≤ 521
  pub ring : s * p ≤ 16672
