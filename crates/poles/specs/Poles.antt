-- PoleZero (extended.rs; document 02, C-11, C-17): the table's active sections in series, each a state-variable stage whose frequency, damping and
-- output mix are blended at this sample's x, y and z, then the overall gain. State: 2j and 2j + 1 section j, by active index.
-- Definitions only. Assumes nothing.
use Rattle.std.specs.Prelude.{ℕ, ◌+◌, ◌*◌, min, Bool, cond, List, [], ◌∷◌, Float}
use Rattle.std.proofs.lemmas.List.Edits.{sets}
use Rattle.parts.specs.Parts.{upto}
use Rattle.lane.specs.Floats.{◌⊕◌, ◌⊖◌, ◌⊗◌, ◌‼◌, fma}
use Rattle.filter.specs.declared.Pitch.{Pitch}
use Rattle.filter.specs.declared.Ratio.{Ratio}
use Rattle.filter.specs.declared.Stage.{Stage}
use Rattle.filter.specs.Filter.{octaves_of, ratio_at, over_at, once, gain_at, svf_of}
use Rattle.extended.specs.declared.Settings.{Settings}
use Rattle.extended.specs.Extended.{Ticked, unit_or0}
use Rattle.points.specs.Points.{between}
use Rattle.poles.specs.declared.Pad.{Pad}
use Rattle.poles.specs.declared.PoleSection.{PoleSection}

-- where value i of section j begins in a face of the table: octaves 0, damping 1, high 2, band 3, low 4, each with its four terms
abbrev pub term : (section value : ℕ) → ℕ
term j i = 20 * j + 4 * i

-- one blended number, of the four terms from place `at` on: the value at (0, 0), then the X, Y and X × Y coefficients
unfoldable pub blend_of : (sections : List Float) (at : ℕ) (x y : Float) → Float
blend_of sections at x y =
    fma (sections ‼ (at + 3)) (x ⊗ y) (fma (sections ‼ (at + 2)) y (fma (sections ‼ (at + 1)) x (sections ‼ at)))

-- C-17: the far face stands after the near one's 160 numbers
abbrev pub far_face : ℕ
far_face = 160

-- where a tick stands on the pad: its table's axes, its x and y, and its smoothed z
abbrev pub pad_of : (three : Bool) → Settings → Pad
pad_of three p = record { three = three; x = p.x; y = p.y; z = p.z }

-- C-17: the section number from place `at` on, A + z × (B - A) of the two faces' numbers, z held to 0 .. 1 as x and y are; with two axes it is A,
-- whatever z is
unfoldable pub number_at : (sections : List Float) → Pad → (at : ℕ) → Float
number_at sections d at =
    let a = blend_of sections at d.x d.y in
    cond d.three (between a (blend_of sections (far_face + at) d.x d.y) (unit_or0 d.z)) a

-- section j's gain, damping and weights. Its frequency adds the cutoff's octaves to its own before it becomes a ratio
unfoldable pub pole_section : (number : ℕ → Float) (transpose : Float) → Ratio → (j : ℕ) → PoleSection
pole_section number transpose reference j =
    record {
      g = gain_at (ratio_at (transpose ⊕ number (term j 0)) reference);
      k = number (term j 1);
      high = number (term j 2);
      band = number (term j 3);
      low = number (term j 4);
    }

-- C-11: the mark of section j's ratio, counted
unfoldable pub section_over : (number : ℕ → Float) (transpose : Float) → Ratio → (j : ℕ) → ℕ
section_over number transpose reference j = once (over_at (transpose ⊕ number (term j 0)) reference)

-- what follows from the pitch and the settings alone: every section's numbers
unfoldable pub pole_coefficients : (three : Bool) (sections : List Float) → Pitch → Settings → (j : ℕ) → PoleSection
pole_coefficients three sections pitch p = pole_section (number_at sections (pad_of three p)) (octaves_of pitch) p.ref_over_rate

-- C-11: how many of the running sections' ratios were greater than their cap
unfoldable pub pole_over : (number : ℕ → Float) (active : ℕ) (transpose : Float) → Ratio → ℕ
pole_over number active transpose reference = upto (λ j n. n + section_over number transpose reference j) (min active 8) 0

unfoldable pub pole_mix : PoleSection → (u : Float) → Stage → Float
pole_mix c u s =
    let kb = c.k ⊗ s.band in
    let hp = u ⊖ kb ⊖ s.low in
    fma c.high hp (fma c.band kb (c.low ⊗ s.low))

-- section j, on the states and the signal u so far
unfoldable pub pole_stage : PoleSection → (j : ℕ) → Ticked → Ticked
pole_stage c j d =
    let u = d.out in
    let s = svf_of (d.state ‼ (2 * j)) (d.state ‼ (2 * j + 1)) u c.g c.k in
    record { out = pole_mix c u s; state = sets d.state (2 * j) (s.ic1 ∷ s.ic2 ∷ []) }

-- the sections in series: a forged active number above 8 acts as 8
unfoldable pub pole_series : (ℕ → PoleSection) → (active : ℕ) (state : List Float) (x : Float) → Ticked
pole_series c active state x = upto (λ j. pole_stage (c j) j) (min active 8) (record { out = x; state = state })

unfoldable pub pole_step : (ℕ → PoleSection) → (active : ℕ) (gain : Float) (state : List Float) (x : Float) → Ticked
pole_step c active gain state x =
    let d = pole_series c active state x in
    record { out = d.out ⊗ gain; state = d.state }
