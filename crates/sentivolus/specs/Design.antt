-- A design as flat numbers, for callers in C: 64 kind numbers and 256 floats, state by state, point by point, and whether it has three axes (document 02,
-- C-17); with two the last four states are not read.
-- Definitions only. Assumes nothing.
use Rattle.std.specs.Prelude.{◌≡◌, ℕ, ◌+◌, ◌*◌, Bool, cond, List, [], ◌∷◌, eqb, get_or, Float}
use Rattle.lane.specs.Floats.{◌‼◌}
use Rattle.parts.specs.Parts.{tab}
use Rattle.filter.specs.declared.Stage.{Stage}
use Rattle.points.specs.declared.PointKind.{PointKind}
use Rattle.points.specs.declared.PointKind.TheVariants.{HighPass, LowPass, Bypass, AllPass, BandPass, Notch, Bell, Free}
use Rattle.points.specs.declared.Point.{Point}
use Rattle.points.specs.declared.State.{State}
use Rattle.pole_zero.specs.declared.PoleZeroDesign.{PoleZeroDesign}
use Rattle.pole_zero.specs.declared.Table.{Table}
use Rattle.pole_zero.specs.PoleZero.{section_refusal, section_values}

-- the kind of a number, in the editor's order: 0 HighPass, 1 LowPass, 2 Bypass, 3 AllPass, 4 BandPass, 5 Notch, 6 Bell (a its gain
-- in dB), 7 Free (a and b its zero's frequency and Q); any other number is a Bypass
unfoldable pub kind_of : ℕ → Float → Float → PointKind
kind_of kind a b =
    cond (eqb kind 0) HighPass
    (cond (eqb kind 1) LowPass
    (cond (eqb kind 3) AllPass
    (cond (eqb kind 4) BandPass
    (cond (eqb kind 5) Notch
    (cond (eqb kind 6) (Bell a)
    (cond (eqb kind 7) (Free a b) Bypass))))))

-- point i of 64: its kind number, and its frequency, Q, a and b
unfoldable pub point_of : List ℕ → List Float → ℕ → Point
point_of kinds numbers i =
    record {
      kind = kind_of (get_or kinds i 0) (numbers ‼ (4 * i + 2)) (numbers ‼ (4 * i + 3));
      frequency = numbers ‼ (4 * i);
      q = numbers ‼ (4 * i + 1);
    }

unfoldable pub state_of : List ℕ → List Float → ℕ → State
state_of kinds numbers s = record { points = tab (λ i. point_of kinds numbers (8 * s + i)) 8 }

unfoldable pub design_of : List ℕ → List Float → (three : Bool) → Float → PoleZeroDesign
design_of kinds numbers three gain_db = record { states = tab (state_of kinds numbers) 8; three = three; gain_db = gain_db }

-- a stage's outputs and states, in the order band, low, ic1, ic2
unfoldable pub stage_numbers : Stage → List Float
stage_numbers s = s.band ∷ s.low ∷ s.ic1 ∷ s.ic2 ∷ []

-- what section leaves in the caller's five numbers: the section's, or what they were where the point is refused
unfoldable pub section_left : PoleZeroDesign → ℕ → (x y z : Float) → List Float → List Float
section_left design point x y z before = cond (eqb (section_refusal point) 0) (section_values design point x y z) before

-- ---- what the exported calls promise

-- a table's numbers
pub record TableLeft (t : Table) (active : ℕ) (three : Bool) (sections : List Float) (gain : Float) : Type 0 where
  pub active' : active ≡ t.active
  pub three' : three ≡ t.three
  pub sections' : sections ≡ t.sections
  pub gain' : gain ≡ t.gain

-- the refusal's number or 0, and the five numbers
pub record SectionLeft (design : PoleZeroDesign) (point : ℕ) (x y z : Float) (before : List Float) (number : ℕ) (out : List Float) : Type 0 where
  pub answer : number ≡ section_refusal point
  pub numbers : out ≡ section_left design point x y z before
