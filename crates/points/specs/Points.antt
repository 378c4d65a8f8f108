-- pole_zero.rs (document 01, The pole-zero table; document 02, C-17), the part below the design: a point and its values in their ranges, its section,
-- a state of eight points, in the Rust's order. Definitions only. Assumes nothing.
use Rattle.std.specs.Prelude.{List, [], ◌∷◌, Bool, true, false, cond, ◌^◌, Float}
use Rattle.std.specs.Float.Ieee.{neg, is_nan}
use Rattle.lane.specs.Floats.{◌⊕◌, ◌⊖◌, ◌⊗◌, ◌⊘◌, decimal, whole, zero, one}
use Rattle.lane.specs.Lane.{max_of, clamp_of, pow10_of}
use Rattle.log2.specs.Log2.{log_of}
use Rattle.parts.specs.Parts.{tab}
use Rattle.points.specs.declared.PointKind.{PointKind}
use Rattle.points.specs.declared.PointKind.TheVariants.{HighPass, LowPass, Bypass, AllPass, BandPass, Notch, Bell, Free}
use Rattle.points.specs.declared.Point.{Point}
use Rattle.points.specs.declared.Section.{Section}
use Rattle.points.specs.declared.State.{State}

-- ---- constants

-- FREQUENCY_RANGE
abbrev pub frequency_low : Float
frequency_low = whole 8

abbrev pub frequency_high : Float
frequency_high = whole 22050

-- Q_RANGE
abbrev pub q_low : Float
q_low = decimal 1 10

abbrev pub q_high : Float
q_high = whole 40

-- POINT_GAIN_DB
abbrev pub point_gain_db : Float
point_gain_db = whole 18

-- NEUTRAL_HZ: the frequency of NEUTRAL_PITCH (sweeps/specs/Sweeps.antt) at A4 = 440 Hz
abbrev pub neutral_hz : Float
neutral_hz = decimal 425012 1000

-- core's FRAC_1_SQRT_2
abbrev pub sqrt_half : Float
sqrt_half = decimal 707106781186547524400844362104849039 (10 ^ 36)

-- ---- PointKind

-- PointKind::Bypass == kind
unfoldable pub is_bypass : PointKind → Bool
is_bypass HighPass = false
is_bypass LowPass = false
is_bypass Bypass = true
is_bypass AllPass = false
is_bypass BandPass = false
is_bypass Notch = false
is_bypass (Bell g) = false
is_bypass (Free zf zq) = false

-- ---- Point

-- Point::new of PointKind::Bypass at Q 1/√2
abbrev pub bypass_at : Float → Point
bypass_at f = record { kind = Bypass; frequency = f; q = sqrt_half }

-- Point::default
abbrev pub default_point : Point
default_point = bypass_at (whole 1000)

-- Point::clamped's closure `clamp`: a value in its range, or the default for a NaN
unfoldable pub clamp_or : (v lo hi or : Float) → Float
clamp_or v lo hi or = cond (is_nan v) or (clamp_of v lo hi)

-- a NaN frequency, or zero's frequency, becomes 1,000, a NaN Q 1/√2, a NaN gain 0
abbrev pub clamped_frequency : Float → Float
clamped_frequency f = clamp_or f frequency_low frequency_high (whole 1000)

abbrev pub clamped_q : Float → Float
clamped_q q = clamp_or q q_low q_high sqrt_half

-- Point::clamped, what the kind carries: gain_db; zero_frequency and zero_q
unfoldable pub clamped_kind : PointKind → PointKind
clamped_kind HighPass = HighPass
clamped_kind LowPass = LowPass
clamped_kind Bypass = Bypass
clamped_kind AllPass = AllPass
clamped_kind BandPass = BandPass
clamped_kind Notch = Notch
clamped_kind (Bell g) = Bell (clamp_or g (neg point_gain_db) point_gain_db zero)
clamped_kind (Free zf zq) = Free (clamped_frequency zf) (clamped_q zq)

-- Point::clamped
unfoldable pub clamped : Point → Point
clamped p = record { kind = clamped_kind p.kind; frequency = clamped_frequency p.frequency; q = clamped_q p.q }

-- Section, by its fields in order
abbrev pub new_section : (octaves damping high band low : Float) → Section
new_section octaves damping high band low = record { octaves = octaves; damping = damping; high = high; band = band; low = low }

-- Point::section, its match: the section of a kind, from the point's frequency f, octaves o and k = 1 / Q
unfoldable pub section_of_kind : PointKind → (f o k : Float) → Section
section_of_kind HighPass f o k = new_section o k one zero zero
section_of_kind LowPass f o k = new_section o k zero zero one
section_of_kind Bypass f o k = new_section o k one one one
section_of_kind AllPass f o k = new_section o k one (neg one) one
section_of_kind BandPass f o k = new_section o k zero one zero
section_of_kind Notch f o k = new_section o k one zero one
section_of_kind (Bell g) f o k =
    let a = pow10_of g (whole 40) in
    new_section o (k ⊘ a) one (a ⊗ a) one
section_of_kind (Free zf zq) f o k =
    let r = zf ⊘ f in
    let scale = one ⊘ max_of (one ⊘ (r ⊗ r)) one in
    new_section o k (scale ⊘ (r ⊗ r)) (scale ⊘ (zq ⊗ r ⊗ k)) scale

-- Point::section
unfoldable pub section_of : Point → Section
section_of self =
    let p = clamped self in
    section_of_kind p.kind p.frequency (log_of (p.frequency ⊘ neutral_hz)) (one ⊘ p.q)

-- C-17: "Each section number is A + z × (B - A), where A and B are the two-axis numbers of the two faces", "in f32 in that order"
unfoldable pub between : (a b z : Float) → Float
between a b z = a ⊕ z ⊗ (b ⊖ a)

unfoldable pub section_between : Section → Section → (z : Float) → Section
section_between a b z =
    new_section (between a.octaves b.octaves z) (between a.damping b.damping z) (between a.high b.high z)
    (between a.band b.band z) (between a.low b.low z)

-- Section::values
unfoldable pub values : Section → List Float
values s = s.octaves ∷ s.damping ∷ s.high ∷ s.band ∷ s.low ∷ []

-- ---- State

-- State::default: bypasses an octave apart, from 62.5 Hz
unfoldable pub default_state : State
default_state = record { points = tab (λ i. bypass_at (decimal 625 10 ⊗ whole (2 ^ i))) 8 }
