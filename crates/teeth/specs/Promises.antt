-- For the proofs: nothing here must be believed.
-- What is kept of the teeth from frame to frame, and what the reading promises. Definitions only. Assumes nothing.
use Rattle.std.specs.Prelude.{◌≡◌, ℕ, ◌+◌, ◌*◌, ◌<◌, ◌≤◌, List, length, get_or, Float}
use Rattle.lane.specs.Floats.{◌⊖◌, ◌‼◌, whole}
use Rattle.lines.specs.Lines.{whole_part, held}
use Rattle.extended.specs.declared.Chord.{Chord}
use Rattle.teeth.specs.Teeth.{teeth_of, tooth_delay, tooth_first, cells_needed, taps_mean, chord_read, chord_size}

-- ---- a plan: 32 cells' steps back, where each tooth's four stand among them, and how many they are
abbrev pub plan_at : List ℕ → ℕ → ℕ
plan_at plan i = get_or plan i 0

abbrev pub place_of : List ℕ → (tooth cell : ℕ) → ℕ
place_of plan j k = plan_at plan (32 + (j * 4 + k))

abbrev pub size_in : List ℕ → ℕ
size_in plan = plan_at plan 64

-- how far between its second and third cell a read is
abbrev pub fraction_of : (len : ℕ) (delay : Float) → Float
fraction_of len delay = held len delay ⊖ whole (whole_part (held len delay))

-- the two lists are as long as they should be
pub record Widths (plan : List ℕ) (teeth : List Float) : Type 0 where
  pub cells : length plan ≡ 65
  pub fractions : length teeth ≡ 9

-- the plan and the fractions are those of the ratio that stands last among the fractions
pub record Planned (len : ℕ) (c : Chord) (plan : List ℕ) (teeth : List Float) : Type 0 where
  pub widths : Widths plan teeth
  pub size_is : size_in plan ≡ cells_needed len (teeth ‼ 8) c
  pub few : size_in plan ≤ 32
  pub inside : (m : ℕ) → m < size_in plan → plan_at plan m < len
  pub place : (j k : ℕ) → j < teeth_of c → k < 4 → place_of plan j k < size_in plan
  pub back : (j k : ℕ) → j < teeth_of c → k < 4 → plan_at plan (place_of plan j k) ≡ tooth_first len (teeth ‼ 8) c j + k
  pub fraction : (j : ℕ) → j < teeth_of c → teeth ‼ j ≡ fraction_of len (tooth_delay (teeth ‼ 8) c j)

-- the plan of a ratio
abbrev pub PlannedFor : (len : ℕ) → Chord → (ratio : Float) (plan : List ℕ) (teeth : List Float) → Type 0
PlannedFor len c ratio plan teeth = Planned len c plan teeth × (teeth ‼ 8 ≡ ratio)

-- ---- a reading

-- of n teeth with these taps: the list of them, and their mean
pub record TapsLeft (n : ℕ) (of : List Float) (mean : Float) (taps : List Float) : Type 0 where
  pub mean_is : mean ≡ taps_mean n of
  pub list : taps ≡ of

-- through a view
pub record ChordLeaves (xs : List Float) (len cursor slot : ℕ) (ratio : Float) (c : Chord) (size : ℕ) (taps : List Float) : Type 0 where
  pub cells : size ≡ chord_size xs len slot ratio c
  pub values : taps ≡ chord_read xs len cursor slot ratio c
