-- For the proofs: nothing here must be believed.
-- soft_clip of a finite number is its body on the number itself, up to 3, and beyond on ±3, where it is ±1. So the bound holds with the input held.
-- Assumes nothing.
use Rattle.std.specs.Prelude.{◌≡◌, refl, Bool, true, false, not, cond, ◌&&◌, ◌||◌, ℕ, ◌*◌, ◌^◌, ◌≤◌, ◌<◌, min, ℤ, pos, T, ltb, eqb, Float}
use Rattle.std.proofs.Common.{sym, subst, mul-pos, arith, lit≤, lit<, ltb→lt, nltb→le, pow_pos}
use Rattle.std.specs.Float.{fin, binary32}
use Rattle.std.specs.Float.Ieee.{up, down, round, add, sum, mul, div, neg, lt, is_nan}
use Rattle.std.specs.Float.Ieee.Fits.{down_pos}
use Rattle.std.specs.Float.Ieee.Exact.{HasValue}
use Rattle.std.specs.Float.Ieee.Scale.{grid}
use Rattle.rounding.specs.Fractions.{Fraction, value_of, WithinOneOver}
use Rattle.rounding.specs.Rounding.{within_units}
use Rattle.lane.specs.Lane.{is_below, max_of, min_of, soft_clip}
use Rattle.clip.specs.Cases.{under, over}
use Rattle.clip.specs.Results.{Results}
use Rattle.clip.specs.Values.{body, body_value}

-- the number, or 3 with its sign
abbrev pick : Bool → Bool → ℕ → ℤ → Float
pick b s m e = cond b (fin s 3 (pos 0)) (fin s m e)

clip_of : (s : Bool) (m : ℕ) (e : ℤ) → soft_clip (fin s m e) ≡ body (pick (ltb (3 * down e) (m * up e * 1)) s m e)
unfolding soft_clip max_of min_of is_below lt is_nan neg round
clip_of false m e = go (ltb (3 * down e) (m * up e * 1))
  where
    go : (b : Bool) → body (cond (b || false) (fin false 3 (pos 0)) (fin false m e)) ≡ body (pick b false m e)
    go true = refl
    go false = refl
clip_of true m e = go (ltb (3 * down e) (m * up e * 1)) (eqb m 0)
  where
    go : (b z : Bool) → body (min_of (cond (b || (z && false)) (fin true 3 (pos 0)) (fin true m e)) (fin false 3 (pos 0))) ≡ body (pick b true m e)
    go true z = refl
    go false true = refl
    go false false = refl

at_three : (s : Bool) → body (fin s 3 (pos 0)) ≡ fin s 1 (pos 0)
unfolding round add sum mul div
at_three true = refl
at_three false = refl

-- ---- against the clip of v = ± w / d
abbrev pub clip_at : Bool → ℕ → ℕ → Fraction
clip_at s w d = record { negative = s; numerator = w * over w d; denominator = d * under w d }

denominator_positive : (w d : ℕ) → 0 < d → 0 < d * under w d
denominator_positive w d D = mul-pos D (omega (arith, mul-pos D D))

abbrev pub Near : Float → Bool → ℕ → ℕ → Type 0
Near y s w d = WithinOneOver (2 ^ 22) (value_of y) (clip_at s w d)

inside : (s : Bool) (m : ℕ) (e : ℤ) → m * up e ≤ 3 * down e → Near (body (fin s m e)) s (m * up e) (down e)
inside s m e h =
    let a = m * up e in
    let d = down e in
    go a d (grid binary32 (a * a) (d * d)) _ _ _ _ _ (down_pos e) h (refl, refl) (record { x = refl; s = refl; p = refl; w = refl; t = refl; q = refl })
  where
    go : (a d X S P W T Q : ℕ) → 0 < d → a ≤ 3 * d → HasValue (fin s m e) s a d → Results a d X S P W T Q → Near (body (fin s m e)) s a d
    go a d X S P W T Q D h v g =
        let b = body_value (fin s m e) s a d X S P W T Q D v h g in
        within_units (body (fin s m e)) (clip_at s a d) Q (2 ^ 149) (8 * 2 ^ 124) (2 ^ 22) (pow_pos 149) (denominator_positive a d D) (lit≤ tt) b.0 b.1

-- beyond 3 it is ±1, as is the exact clip
one : (s : Bool) (d : ℕ) → 0 < d → Near (fin s 1 (pos 0)) s (3 * d) d
unfolding value_of
one s d D = record { numbers = (lit< tt, denominator_positive (3 * d) d D); signs = refl; above = omega arith; below = omega arith }

least : (a b : ℕ) → a * 1 ≤ b → (a ≤ b) × (a ≡ min a b)
least a b h = (omega arith, omega arith)

least_beyond : (a b : ℕ) → b < a * 1 → b ≡ min a b
least_beyond a b h = omega arith

pub near_clip : (s : Bool) (m : ℕ) (e : ℤ) → Near (soft_clip (fin s m e)) s (min (m * up e) (3 * down e)) (down e)
near_clip s m e =
    let a = m * up e in
    let d = down e in
    subst (λ (y : Float). Near y s (min a (3 * d)) d) (sym (clip_of s m e)) (go (ltb (3 * d) (a * 1)) (ltb→lt (3 * d) (a * 1)) (nltb→le (3 * d) (a * 1)))
  where
    go : (b : Bool) → (T b → 3 * down e < m * up e * 1) → (T (not b) → m * up e * 1 ≤ 3 * down e)
        → Near (body (pick b s m e)) s (min (m * up e) (3 * down e)) (down e)
    go true h k =
        subst (λ (w : ℕ). Near (body (fin s 3 (pos 0))) s w (down e)) (least_beyond (m * up e) (3 * down e) (h tt))
        (subst (λ (y : Float). Near y s (3 * down e) (down e)) (sym (at_three s)) (one s (down e) (down_pos e)))
    go false h k =
        let l = least (m * up e) (3 * down e) (k tt) in
        subst (λ (w : ℕ). Near (body (fin s m e)) s w (down e)) l.1 (inside s m e l.0)
