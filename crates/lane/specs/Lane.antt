-- The float leaves of lane.rs and document 01's stand-ins for library functions (section Floats).
-- Definitions only. Assumes nothing.
use Rattle.std.specs.Prelude.{Bool, false, not, cond, ◌&&◌, ◌||◌, ◌^◌, eqb, Float}
use Rattle.std.specs.Float.{nan, inf, fin}
use Rattle.std.specs.Float.Ieee.{neg, lt, is_nan}
use Rattle.sqrt.specs.Root.{root_of}
use Rattle.lane.specs.Floats.{◌⊕◌, ◌⊗◌, ◌⊘◌, fma, decimal, whole, one, half}

-- ---- stand-ins

-- +0, and -0
abbrev pub is_plus_zero : Float → Bool
is_plus_zero nan = false
is_plus_zero (inf s) = false
is_plus_zero (fin s m e) = not s && eqb m 0

abbrev pub is_minus_zero : Float → Bool
is_minus_zero nan = false
is_minus_zero (inf s) = false
is_minus_zero (fin s m e) = s && eqb m 0

-- the order of max and min (document 02, C-14): a < b, or -0 and +0
unfoldable pub is_below : Float → Float → Bool
is_below a b = lt a b || (is_minus_zero a && is_plus_zero b)

-- max: b if a is NaN; a if b is NaN; b if a is below b; else a
unfoldable pub max_of : Float → Float → Float
max_of a b = cond (is_nan a) b (cond (is_nan b) a (cond (is_below a b) b a))

-- min: likewise with b below a
unfoldable pub min_of : Float → Float → Float
min_of a b = cond (is_nan a) b (cond (is_nan b) a (cond (is_below b a) b a))

-- Rust's clamp: below the low end the low end, above the high end the high end, else the number itself
unfoldable pub clamp_of : Float → Float → Float → Float
clamp_of v lo hi = cond (lt v lo) lo (cond (lt hi v) hi v)

-- core's constants LN_2, LOG2_10, LOG2_E and PI
abbrev pub ln2 : Float
ln2 = decimal 693147180559945309417232121458176568 (10 ^ 36)

abbrev pub log2of10 : Float
log2of10 = decimal 332192809488736234787031942948939018 (10 ^ 35)

abbrev pub log2of_e : Float
log2of_e = decimal 144269504088896340735992468100189214 (10 ^ 35)

abbrev pub pi : Float
pi = decimal 314159265358979323846264338327950288 (10 ^ 35)

-- ---- lane.rs

-- EXP2_RANGE
abbrev pub exp2_range : Float
exp2_range = whole 12

-- exp2: e^z by its Taylor series of degree 7 at z = x ln 2 / 16, squared four times; x is held to ±12
unfoldable pub exp2_of : Float → Float
exp2_of v =
    let x = min_of (max_of v (neg exp2_range)) exp2_range in
    let z = x ⊗ (ln2 ⊘ whole 16) in
    let p0 = one ⊘ whole 5040 in
    let p1 = fma p0 z (one ⊘ whole 720) in
    let p2 = fma p1 z (one ⊘ whole 120) in
    let p3 = fma p2 z (one ⊘ whole 24) in
    let p4 = fma p3 z (one ⊘ whole 6) in
    let p5 = fma p4 z half in
    let p6 = fma p5 z one in
    let p7 = fma p6 z one in
    let p8 = p7 ⊗ p7 in
    let p9 = p8 ⊗ p8 in
    let p10 = p9 ⊗ p9 in
    p10 ⊗ p10

-- stand-in: 10 to the power d / n
unfoldable pub pow10_of : Float → Float → Float
pow10_of d n = exp2_of (d ⊘ n ⊗ log2of10)

-- stand-in: exp
unfoldable pub exp_of : Float → Float
exp_of v = exp2_of (v ⊗ log2of_e)

-- TAN_LIMIT
abbrev pub tan_limit : Float
tan_limit = decimal 49 100 ⊗ pi

-- tan: the ratio of the Taylor series of sine (degree 11) and cosine (degree 12)
unfoldable pub tan_of : Float → Float
tan_of w =
    let w2 = w ⊗ w in
    let s0 = neg one ⊘ whole 39916800 in
    let s1 = fma s0 w2 (one ⊘ whole 362880) in
    let s2 = fma s1 w2 (neg one ⊘ whole 5040) in
    let s3 = fma s2 w2 (one ⊘ whole 120) in
    let s4 = fma s3 w2 (neg one ⊘ whole 6) in
    let s5 = fma s4 w2 one in
    let c0 = one ⊘ whole 479001600 in
    let c1 = fma c0 w2 (neg one ⊘ whole 3628800) in
    let c2 = fma c1 w2 (one ⊘ whole 40320) in
    let c3 = fma c2 w2 (neg one ⊘ whole 720) in
    let c4 = fma c3 w2 (one ⊘ whole 24) in
    let c5 = fma c4 w2 (neg half) in
    let c6 = fma c5 w2 one in
    s5 ⊗ w ⊘ c6

-- soft_clip: x (27 + x²) / (27 + 9 x²) on x held to ±3
unfoldable pub soft_clip : Float → Float
soft_clip v =
    let x = min_of (max_of v (neg (whole 3))) (whole 3) in
    let x2 = x ⊗ x in
    x ⊗ (x2 ⊕ whole 27) ⊘ fma x2 (whole 9) (whole 27)

-- saturation_gain: 1 / √(1 + (x inv_a)²)
unfoldable pub saturation_gain : Float → Float → Float
saturation_gain x inv_a =
    let r = x ⊗ inv_a in
    one ⊘ root_of (fma r r one)
