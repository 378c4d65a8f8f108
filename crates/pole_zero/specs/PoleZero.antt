-- pole_zero.rs (document 01, The pole-zero table; document 02, C-17): the design, over the points of crate `points`, and its table, in the Rust's order,
-- save that `bilinear` stands before `section`, which uses it. Definitions only. Assumes nothing.
use Rattle.std.specs.Prelude.{Option, Some, None, List, [], ◌∷◌, ◌++◌, Bool, false, cond, not, ◌&&◌, ◌||◌, ℕ, ◌+◌, ◌*◌, ltb, get_or, replicate, Float}
use Rattle.std.specs.Float.{nan}
use Rattle.std.specs.Float.Ieee.{neg}
use Rattle.lane.specs.Floats.{◌⊕◌, ◌⊖◌, ◌⊗◌, ◌‼◌, whole, zero, one}
use Rattle.lane.specs.Lane.{clamp_of, pow10_of}
use Rattle.parts.specs.Parts.{upto, patch}
use Rattle.points.specs.declared.PointKind.TheVariants.{HighPass}
use Rattle.points.specs.declared.Point.{Point}
use Rattle.points.specs.declared.Section.{Section}
use Rattle.points.specs.declared.State.{State}
use Rattle.points.specs.Points.{clamp_or, new_section, section_of, section_between, values, default_state, is_bypass}
use Rattle.pole_zero.specs.declared.PoleZeroDesign.{PoleZeroDesign}
use Rattle.pole_zero.specs.declared.Table.{Table}

-- ---- PoleZeroDesign

-- GAIN_DB
abbrev pub gain_db : Float
gain_db = whole 24

-- C-17: a design has eight states, the first four at z = 0 and the others at z = 1, which are read if it has three axes

-- where the states of the two faces begin
abbrev pub near : ℕ
near = 0

abbrev pub far : ℕ
far = 4

-- PoleZeroDesign::default, of two axes
unfoldable pub default_design : PoleZeroDesign
default_design = record { states = replicate 8 default_state; three = false; gain_db = zero }

-- what stands past the end of a list of points or states: never read
abbrev pub no_point : Point
no_point = record { kind = HighPass; frequency = nan; q = nan }

abbrev pub no_state : State
no_state = record { points = [] }

-- self.states[s].points[point]
abbrev pub point_at : PoleZeroDesign → ℕ → ℕ → Point
point_at d s point = get_or (get_or d.states s no_state).points point no_point

-- PoleZeroDesign::gain
unfoldable pub design_gain : PoleZeroDesign → Float
design_gain d = pow10_of (clamp_or d.gain_db (neg gain_db) gain_db zero) (whole 20)

-- PoleZeroDesign::bilinear, one value of the four states: at (0, 0), then the X, Y and X × Y coefficients
abbrev pub terms : Float → Float → Float → Float → List Float
terms v0 v1 v2 v3 = v0 ∷ (v1 ⊖ v0) ∷ (v2 ⊖ v0) ∷ (v3 ⊖ v2 ⊖ v1 ⊕ v0) ∷ []

-- the five values of the four states' sections
unfoldable pub terms_of : Section → Section → Section → Section → List Float
terms_of a b c d =
    terms a.octaves b.octaves c.octaves d.octaves
    ++ terms a.damping b.damping c.damping d.damping
    ++ terms a.high b.high c.high d.high
    ++ terms a.band b.band c.band d.band
    ++ terms a.low b.low c.low d.low

-- PoleZeroDesign::bilinear of the face whose states begin at `face`: by value, then the four terms
unfoldable pub bilinear_of : PoleZeroDesign → (face point : ℕ) → List Float
bilinear_of d face point =
    terms_of (section_of (point_at d face point)) (section_of (point_at d (face + 1) point))
    (section_of (point_at d (face + 2) point)) (section_of (point_at d (face + 3) point))

-- PoleZeroDesign::section, value i: c00 + x dx + y dy + x y dxy
unfoldable pub blend : List Float → ℕ → Float → Float → Float
blend t i x y =
    let at = 4 * i in
    t ‼ at ⊕ x ⊗ t ‼ (at + 1) ⊕ y ⊗ t ‼ (at + 2) ⊕ x ⊗ y ⊗ t ‼ (at + 3)

unfoldable pub blended : List Float → Float → Float → Section
blended t x y = new_section (blend t 0 x y) (blend t 1 x y) (blend t 2 x y) (blend t 3 x y) (blend t 4 x y)

-- a design's point at x, y and z: of two axes the near face's, whatever z is
unfoldable pub blended_at : PoleZeroDesign → (point : ℕ) (x y z : Float) → Section
blended_at d point x y z =
    let a = blended (bilinear_of d near point) x y in
    cond d.three (section_between a (blended (bilinear_of d far point) x y) z) a

-- an answer's refusal number (document 01, A bank is opened), 0 for none, and its values
unfoldable pub refusal_of : Option Section → ℕ
refusal_of (Some s) = 0
refusal_of None = 11

unfoldable pub values_of : Option Section → List Float
values_of (Some s) = values s
values_of None = []

-- PoleZeroDesign::section: refusal 11 for a point number not 0 to 7
unfoldable pub section_refusal : ℕ → ℕ
section_refusal point = cond (ltb point 8) 0 11

-- PoleZeroDesign::section: the five values at x, y and z (C-17), each clamped to 0 .. 1; a NaN stays NaN
unfoldable pub section_values : PoleZeroDesign → ℕ → (x y z : Float) → List Float
section_values d point x y z =
    cond (ltb point 8) (values (blended_at d point (clamp_of x zero one) (clamp_of y zero one) (clamp_of z zero one))) []

-- PoleZeroDesign::is_bypassed, of one face
unfoldable pub face_bypassed : PoleZeroDesign → (face point : ℕ) → Bool
face_bypassed d face point =
    is_bypass (point_at d face point).kind && is_bypass (point_at d (face + 1) point).kind
    && is_bypass (point_at d (face + 2) point).kind && is_bypass (point_at d (face + 3) point).kind

-- C-17: "if it is Bypass in all eight", or in all four of a design of two axes
unfoldable pub is_bypassed : PoleZeroDesign → ℕ → Bool
is_bypassed d point = face_bypassed d near point && (not d.three || face_bypassed d far point)

-- ---- Table

-- a table has 20 numbers a section and eight sections a face; of the far face (C-17) the numbers are 0 where there are two axes
abbrev pub face_sections : ℕ
face_sections = 8

-- Table::of before its loop
unfoldable pub empty_table : PoleZeroDesign → Table
empty_table design = record { active = 0; three = design.three; sections = replicate 320 zero; gain = design_gain design }

-- point p as section n: its terms in the near face and, with three axes, in the far one
unfoldable pub with_section : PoleZeroDesign → (p n : ℕ) → List Float → List Float
with_section design p n sections =
    let s = patch 20 n (bilinear_of design near p) sections in
    cond design.three (patch 20 (face_sections + n) (bilinear_of design far p) s) s

-- Table::of, one turn: a point that is a bypass in all its states is skipped, any other is the next section
unfoldable pub with_point : PoleZeroDesign → ℕ → Table → Table
with_point design p t =
    cond (is_bypassed design p) t
    record { active = t.active + 1; three = t.three; sections = with_section design p t.active t.sections; gain = t.gain }

-- Table::of
unfoldable pub table_of : PoleZeroDesign → Table
table_of design = upto (with_point design) 8 (empty_table design)
