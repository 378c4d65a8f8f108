-- For the proofs: nothing here must be believed.
-- What the functions of parking ask and promise each other. Definitions only.
use Rattle.std.specs.Prelude.{◌≡◌, true, false, List, ◌++◌, ℕ, suc, ◌+◌, ◌-◌, ◌<◌, ltb, leb, length, get_or, replicate, Float, Result}
use Rattle.lane.specs.Floats.{◌‼◌, zero}
use Rattle.parts.specs.Parts.{tab}
use Rattle.text.specs.Text.{bits_of}
use Rattle.voices.specs.Calls.{Check, fine, check, ◌then◌}
use Rattle.file_words.specs.Words.{float_of}
use Rattle.blocks.specs.Blocks.{head_of, parts_of, total}
use Rattle.places.specs.Places.{pick, place_of, blocks_in, head_in, is_once, number_at}
use Rattle.pole_zero.specs.declared.Table.{Table}
use Rattle.setups.specs.Parked.{setup_word, voices_in, slots_in, ring_in, damaged_check, head_check, solo_check, file_verdict}
use Rattle.checks.specs.declared.Refusal.{Refusal}
use Rattle.parking.specs.declared.Held.{Held}
use Rattle.parking.specs.Parking.{told, held_by}

-- word i of kind 1: the nine in front, the table's numbers, its gain
unfoldable pub word_from : List ℕ → List Float → ℕ → ℕ → ℕ
word_from front sections gain i = pick (ltb i 9) (get_or front i 0) (pick (ltb i 169) (bits_of (sections ‼ (i - 9))) gain)

unfoldable pub words_from : List ℕ → List Float → ℕ → List ℕ
words_from front sections gain = tab (word_from front sections gain) 170

-- the setup's two heads stand once, at the places a and b
pub record SetupAt (file : List ℕ) (a b : ℕ) : Type 0 where
  pub once0 : is_once file (head_of 1 0 0) ≡ true
  pub once1 : is_once file (head_of 1 0 1) ≡ true
  pub first : a ≡ place_of (head_in file) (head_of 1 0 0) (blocks_in file)
  pub second : b ≡ place_of (head_in file) (head_of 1 0 1) (blocks_in file)

unfoldable pub sections_in : List ℕ → List Float
sections_in file = tab (λ i. float_of (setup_word file (9 + i))) 160 ++ replicate 160 zero

unfoldable pub table_in : List ℕ → Table
table_in file = record { active = setup_word file 8; three = false; sections = sections_in file; gain = float_of (setup_word file 169) }

-- the checks from the clean word to 5, and those up to 5
unfoldable pub setup_verdict : List ℕ → Check
setup_verdict file = check (leb (setup_word file 3) 1) 13 then solo_check file

unfoldable pub head_verdict : List ℕ → Check
head_verdict file = damaged_check file then head_check file then solo_check file

-- a table of places in which nothing is entered
pub record ClearTable (pos : List ℕ) : Type 0 where
  pub size : length pos ≡ 16722
  pub clear : (k : ℕ) → k < 16722 → get_or pos k 0 ≡ 0

-- the file's answer but for 6, and where its blocks stand if it is accepted
pub record FileRead (file pos : List ℕ) (r : Result Held Refusal) : Type 0 where
  pub held : told r ≡ held_by (file_verdict file) file
  pub places : file_verdict file ≡ fine → (k : ℕ) → k < total (voices_in file) (slots_in file) (parts_of (ring_in file))
      → get_or pos k 0 ≡ suc (place_of (number_at (voices_in file) (slots_in file) (parts_of (ring_in file)) file) k (blocks_in file))
