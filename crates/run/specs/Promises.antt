-- For the proofs: nothing here must be believed.
-- What the functions of a tick promise each other. Definitions only. Assumes nothing.
use Rattle.std.specs.Prelude.{◌≡◌, ℕ, List, [], ◌∷◌, ◌++◌, length, take, Float}
use Rattle.std.proofs.Math.Option.{some}
use Rattle.lane.specs.Floats.{◌‼◌}
use Rattle.lines.specs.declared.Ring.{Ring}
use Rattle.filter.specs.Voice.{MORPH_Z}
use Rattle.lines.specs.Ring.{cells_at, with_cells}
use Rattle.pole_zero.specs.declared.Table.{Table}
use Rattle.kernels.specs.Kernels.{Kernel}
use Rattle.kernels.specs.Promises.{Kept, KeptSections, KeptTeeth}
use Rattle.voices.specs.Calls.{smoothed_width, targets_width, states_width, Tick}
use Rattle.run.specs.declared.Controls.{Controls}
use Rattle.run.specs.declared.FrameInput.{FrameInput}
use Rattle.run.specs.declared.Sample.{Sample}
use Rattle.run.specs.declared.Structure.{Structure}
use Rattle.run.specs.Run.{smooth_of, kernel_tick, over_tick, tick_with}
use Rattle.peak.specs.Running.{settled_of}

-- the glide has ended: smoothing leaves the smoothed numbers as they are
abbrev pub Glided : (alpha : Float) (targets params : List Float) → Type 0
Glided alpha targets params = smooth_of alpha targets params ≡ params

-- the setup's table
abbrev pub table_for : Structure → (sections : List Float) → Table
table_for m sections = record { active = m.active; three = m.three; sections = sections; gain = m.gain }

-- what is kept from frame to frame is right for the structure, the ring's length and the table's sections
pub record Keeps (m : Structure) (len : ℕ) (sections tuning blended : List Float) (over : ℕ) (plan : List ℕ) (teeth : List Float) : Type 0 where
  pub numbers : Kept m.code m.k.ref_over_rate m.k.chord tuning over
  pub blends : KeptSections m.code (table_for m sections) m.k.ref_over_rate blended over
  pub planned : KeptTeeth len m.k.chord plan teeth

-- lag, drive and kernel on the ring `at` of a delay list
abbrev pub kernel_on : Structure → (sections : List Float) → Ring → (params state : List Float) → Controls
    → (input : Float) (delay : List Float) → Kernel
kernel_on m sections at params state controls input delay =
    kernel_tick m.code m.k (table_for m sections) at.len at.cursor params state controls input (cells_at delay at)

-- what the kernel judges
abbrev pub over_on : Structure → (sections params state : List Float) → Controls → ℕ
over_on m sections params state controls = over_tick m.code m.k (table_for m sections) params state controls

-- the tick on the ring `at` of a delay list; an unsteered frame is steered by zeros (Unsteered)
abbrev pub tick_on : Structure → (sections : List Float) → Ring → FrameInput → (targets rec delay : List Float) → Tick
tick_on m sections at f targets rec delay =
    tick_with m.code m.k (table_for m sections) at.len f.sign targets at.cursor f.pitch.0 f.input
    (some (f.x, f.y)) rec (cells_at delay at)

-- a slot's record by its parts: the smoothed numbers, of which z stands last, the twenty states and the peak
abbrev pub record_of : (params state : List Float) (peak : Float) → List Float
record_of params state peak = take smoothed_width params ++ state ++ peak ∷ params ‼ MORPH_Z ∷ []

-- the same while a block runs that began with the peak b: p runs in its place
abbrev pub held_record : (params state : List Float) (b p : Float) → List Float
held_record params state b p = record_of params state (settled_of b p)

-- its parts are as long as they should be
pub record Widths (ps ss : List Float) : Type 0 where
  pub params : length ps ≡ targets_width
  pub state : length ss ≡ states_width

-- a tick t leaves its sample and what it judged, its record, and its slot's ring in the lent delay list, every other cell as it was
pub record TickLeaves (t : Tick) (before : List Float) (at : Ring) (s : Sample) (rec delay : List Float) : Type 0 where
  pub sample : s.out ≡ t.out
  pub judged : s.over ≡ t.over
  pub numbers : rec ≡ t.rec
  pub cells : delay ≡ with_cells before at t.ring
