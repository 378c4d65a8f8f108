-- How far the rounding in soft_clip strays (document 02, C-19), with both sides as fractions of whole numbers. For every finite input, with v the input
-- held to -3 .. 3, the output differs from v(v² + 27) / (9v² + 27) by at most 2^-21: `clip_strays`
-- (proofs/Clip.antt). Indeed by at most 2^-22, `clip_strays_less`; but for some input by more than 2^-23, `strays_more`. The most over all f32 is
-- 3.3615 × 2^-24, at that input (`compare/clip.sh`). Assumes nothing.
use Rattle.std.specs.Prelude.{◌≡◌, refl, true, ℕ, ◌+◌, ◌*◌, ◌^◌, ◌≤◌, min, T, leb, Float}
use Rattle.std.proofs.Common.{sym, subst, arith, lit≤, le→leb}
use Rattle.std.specs.Float.{nan, inf, fin, binary32}
use Rattle.std.specs.Float.Ieee.{up, down, of_bits, round, add, sum, mul, div, neg, lt, is_nan}
use Rattle.std.specs.Float.Ieee.Scale.{finite}
use Rattle.lane.specs.Lane.{is_below, max_of, min_of, soft_clip}
use Rattle.rounding.specs.Fractions.{Fraction, value_of, WithinOneOver}
use Rattle.rounding.specs.Rounding.{weaker_bound, written_alike}
use Rattle.clip.specs.Cases.{over, under}
use Rattle.clip.specs.Held.{clip_at, near_clip}

-- v: the input held to -3 .. 3
unfoldable pub held_to3 : Fraction → Fraction
held_to3 x = record { negative = x.negative; numerator = min x.numerator (3 * x.denominator); denominator = x.denominator }

-- v(v² + 27) / (9v² + 27): of v = ± a / d it is ± a(a² + 27d²) / d(9a² + 27d²)
unfoldable pub exact_clip : Fraction → Fraction
exact_clip v =
    let a = v.numerator in
    let d = v.denominator in
    record { negative = v.negative; numerator = a * (a * a + 27 * (d * d)); denominator = d * (9 * (a * a) + 27 * (d * d)) }

-- for every finite input, that is every m × 2^e, f32s among them, subnormals and both zeros too: the output has the input's sign and differs from the
-- exact clip of v by at most 1 / n
abbrev pub StraysByAtMostOneOver : ℕ → Type 0
StraysByAtMostOneOver n = (x : Float) → finite x ≡ true → WithinOneOver n (value_of (soft_clip x)) (exact_clip (held_to3 (value_of x)))

-- ---- by at most 2^-22
pub clip_strays_less : StraysByAtMostOneOver (2 ^ 22)
unfolding value_of held_to3 exact_clip
clip_strays_less nan f = absurd (subst T (sym f) tt)
clip_strays_less (inf s) f = absurd (subst T (sym f) tt)
clip_strays_less (fin s m e) f =
    let y = value_of (soft_clip (fin s m e)) in
    let w = min (m * up e) (3 * down e) in
    written_alike y (clip_at s w (down e)) (exact_clip v) refl (numerator_is w held_is) (denominator_is w held_is)
    (weaker_bound (2 ^ 22) (2 ^ 22) y (clip_at s w (down e)) (lit≤ tt) (near_clip s m e))
  where
    v : Fraction
    v = held_to3 (value_of (fin s m e))

    -- the numbers that the bound was worked out for are those of the definitions
    held_is : v.numerator ≡ min (m * up e) (3 * down e)
    held_is = omega arith

    numerator_is : (w : ℕ) → v.numerator ≡ w → (exact_clip v).numerator ≡ w * over w v.denominator
    numerator_is w h = subst (λ (z : ℕ). (exact_clip v).numerator ≡ z * over z v.denominator) h (omega arith)

    denominator_is : (w : ℕ) → v.numerator ≡ w → (exact_clip v).denominator ≡ v.denominator * under w v.denominator
    denominator_is w h = subst (λ (z : ℕ). (exact_clip v).denominator ≡ v.denominator * under z v.denominator) h (omega arith)

-- ---- but not by at most 2^-23: of 2.0643251, which is 8658407 / 2^22, the output differs by more
abbrev pub worst : Float
worst = of_bits binary32 0x40041de7

decided : {m n : ℕ} → m ≤ n → T (leb m n)
decided {m} {n} h = le→leb m n h

pub strays_more : StraysByAtMostOneOver (2 ^ 23) → ⊥
unfolding value_of held_to3 exact_clip soft_clip max_of min_of is_below is_nan neg lt mul add sum div round of_bits
strays_more f = decided (f worst refl).above
