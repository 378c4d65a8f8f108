-- For the proofs: nothing here must be believed.
-- What the kernels' functions promise each other. Definitions only. Assumes nothing.
use Rattle.std.specs.Prelude.{◌≡◌, false, List, ℕ, Float}
use Rattle.std.specs.Float.Ieee.{is_nan}
use Rattle.lane.specs.Floats.{◌‼◌}
use Rattle.lines.specs.declared.Ring.{Ring}
use Rattle.lines.specs.Ring.{cells_at, with_cells}
use Rattle.filter.specs.declared.Pitch.{Pitch}
use Rattle.filter.specs.declared.Ratio.{Ratio}
use Rattle.extended.specs.declared.Chord.{Chord}
use Rattle.extended.specs.declared.Settings.{Settings}
use Rattle.teeth.specs.Promises.{Widths, Planned, PlannedFor}
use Rattle.combs.specs.Combs.{comb_ratio}
use Rattle.pole_zero.specs.declared.Table.{Table}
use Rattle.poles.specs.declared.Series.{Series}
use Rattle.poles.specs.Poles.{pad_of}
use Rattle.poles.specs.Numbers.{pole_numbers}
use Rattle.kernels.specs.Kernels.{Kernel, kernel_of}
use Rattle.kernels.specs.Tuning.{tuning_of, tuned_over, kept_pad, blended_over, key_of}

-- a table of its sections and the rest
abbrev pub table_with : Series → (sections : List Float) → Table
table_with s sections = record { active = s.active; three = s.three; sections = sections; gain = s.gain }

-- ---- what is kept from frame to frame

-- a kept list and count: unless the list's pitch is NaN, they are those of its pitch and character
unfoldable pub Kept : (code : ℕ) → Ratio → Chord → (tuning : List Float) (over : ℕ) → Type 0
Kept code reference chord t over =
    is_nan (t ‼ 8) ≡ false
    → (t ≡ tuning_of code (record { 0 = t ‼ 8 }) (key_of reference chord (t ‼ 9)))
    × (over ≡ tuned_over code (record { 0 = t ‼ 8 }) (key_of reference chord (t ‼ 9)) over)

-- PoleZero's: unless the list's pitch is NaN, they are those of its pitch, x, y and z
unfoldable pub KeptSections : (code : ℕ) → Table → Ratio → (blended : List Float) (over : ℕ) → Type 0
KeptSections code table reference t over =
    is_nan (t ‼ 40) ≡ false
    → (t ≡ pole_numbers table.sections table.active reference (record { 0 = t ‼ 40 }) (kept_pad table.three t))
    × (over ≡ blended_over code table reference (record { 0 = t ‼ 40 }) (kept_pad table.three t) over)

-- the chord comb's: unless its ratio is NaN, the plan is that of its ratio
pub record KeptTeeth (len : ℕ) (chord : Chord) (plan : List ℕ) (teeth : List Float) : Type 0 where
  pub widths : Widths plan teeth
  pub planned : is_nan (teeth ‼ 8) ≡ false → Planned len chord plan teeth

-- of code 13 the plan is that of a pitch and settings
abbrev pub PlannedAt : (code len : ℕ) → Pitch → Settings → (plan : List ℕ) (teeth : List Float) → Type 0
PlannedAt code len pitch p plan teeth = code ≡ 13 → PlannedFor len p.chord (comb_ratio pitch p) plan teeth

-- a list's key is this one, and no NaN
pub record TunedAt (t : List Float) (pitch character : Float) : Type 0 where
  pub number : is_nan (t ‼ 8) ≡ false
  pub pitch_is : t ‼ 8 ≡ pitch
  pub character_is : t ‼ 9 ≡ character

-- the kept list is the driven ladder's of this character, and its pitch no NaN
pub record DrivenAt (code : ℕ) (t : List Float) (character : Float) : Type 0 where
  pub driven : code ≡ 7
  pub number : is_nan (t ‼ 8) ≡ false
  pub character_is : t ‼ 9 ≡ character

pub record BlendedAt (t : List Float) (pitch x y z : Float) : Type 0 where
  pub number : is_nan (t ‼ 40) ≡ false
  pub pitch_is : t ‼ 40 ≡ pitch
  pub x-is : t ‼ 41 ≡ x
  pub y_is : t ‼ 42 ≡ y
  pub z_is : t ‼ 43 ≡ z

-- both lists are those of a pitch and settings; PoleZero alone reads the second
pub record Tuned (code : ℕ) (table : Table) (pitch : Pitch) (p : Settings) (tuning blended : List Float) : Type 0 where
  pub numbers : tuning ≡ tuning_of code pitch p
  pub sections : code ≡ 8 → blended ≡ pole_numbers table.sections table.active p.ref_over_rate pitch (pad_of table.three p)

-- ---- what a kernel leaves

-- the kernel on the ring `at` of a delay list
abbrev pub kernel_at : (code : ℕ) → Table → Ring → Pitch → Settings → (state delay : List Float) (x : Float) → Kernel
kernel_at code table at pitch p state delay x = kernel_of code table at.len at.cursor pitch p state (cells_at delay at) x

-- a kernel t leaves its sample, its states, and its slot's ring in the lent delay list, every other cell as it was
pub record KernelLeaves (t : Kernel) (before : List Float) (at : Ring) (out : Float) (state delay : List Float) : Type 0 where
  pub sample : out ≡ t.out
  pub states : state ≡ t.state
  pub cells : delay ≡ with_cells before at t.ring
