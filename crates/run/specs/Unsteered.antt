-- For the proofs: nothing here must be believed.
-- An unsteered frame is one steered by zeros: a sum with +0 leaves every number but -0, and -0 and +0 are held to 0 .. 1 alike. Assumes nothing.
use Rattle.std.specs.Prelude.{◌≡◌, refl, Bool, true, false, not, cond, ◌&&◌, List, ℕ, zero, suc, ◌-◌, ◌*◌, ◌≤◌, ◌<◌, ℤ, pos, T, ltb, Float}
use Rattle.std.proofs.Math.Path.{sym}
use Rattle.std.proofs.Common.{ap, ◌∙◌, subst, add_comm, mul_comm, arith, ltb→lt, nltb→le}
use Rattle.std.proofs.Math.Option.{none, some}
use Rattle.std.specs.Float.{nan, inf, fin, Format}
use Rattle.std.specs.Float.Ieee.{binary32, up, down, round, sum, add, lt, is_nan, fits}
use Rattle.std.specs.Float.Ieee.Fits.{add-fits}
use Rattle.bits.specs.Values.{zero_first, zero_form}
use Rattle.lane.specs.Floats.{◌⊕◌, ◌‼◌, zero as plus_zero}
use Rattle.lane.specs.Lane.{is_below, max_of, min_of}
use Rattle.filter.specs.Voice.{MORPH_X, MORPH_Y}
use Rattle.extended.specs.Extended.{unit_or0}
use Rattle.pole_zero.specs.declared.Table.{Table}
use Rattle.run.specs.declared.Constants.{Constants}
use Rattle.run.specs.Run.{glide, smooth_of, steered_x, steered_y, tick_with}

-- ---- a sum is the same in either order

-- of unlike signs
unlike_sum : (f : Format) (a b c : ℕ) → sum f true a false b c ≡ sum f false b true a c
unfolding sum
unlike_sum f a b c = go (ltb a b) (ltb b a) (ltb→lt a b) (ltb→lt b a) (nltb→le a b) (nltb→le b a)
  where
    go : (l r : Bool) → (T l → a < b) → (T r → b < a) → (T (not l) → b ≤ a) → (T (not r) → a ≤ b)
        → cond l (round f false (b - a) c) (round f (true && r) (a - b) c) ≡ cond r (round f true (a - b) c) (round f (false && l) (b - a) c)
    go true true u v w x =
        let g = u tt in
        let h = v tt in
        let never : ⊥ = omega arith in
        absurd never
    go true false u v w x = refl
    go false true u v w x = refl
    go false false u v w x =
        let g = w tt in
        let h = x tt in
        let e : a - b ≡ b - a = omega arith in
        ap (λ (k : ℕ). round f false k c) e

sum_either : (f : Format) (s t : Bool) (a b c : ℕ) → sum f s a t b c ≡ sum f t b s a c
unfolding sum
sum_either f true true a b c = ap (λ (k : ℕ). round f true k c) (add_comm a b)
sum_either f true false a b c = unlike_sum f a b c
sum_either f false true a b c = sym (unlike_sum f b a c)
sum_either f false false a b c = ap (λ (k : ℕ). round f false k c) (add_comm a b)

add_either : (s : Bool) (m : ℕ) (e : ℤ) (t : Bool) (n : ℕ) (d : ℤ) → fin s m e ⊕ fin t n d ≡ fin t n d ⊕ fin s m e
unfolding add
add_either s m e t n d =
    sum_either binary32 s t (m * up e * down d) (n * up d * down e) (down e * down d)
    ∙ ap (λ (c : ℕ). sum binary32 t (n * up d * down e) s (m * up e * down d) c) (mul_comm (down e) (down d))

-- ---- a number that is no zero, and +0
with_zero : (s : Bool) (m : ℕ) (e : ℤ) → T (fits binary32 (fin s (suc m) e)) → fin s (suc m) e ⊕ fin false 0 (pos 0) ≡ fin s (suc m) e
with_zero s m e h = add_either s (suc m) e false 0 (pos 0) ∙ zero_first false s m e h

-- ---- a morph number steered by +0
pub unit_zero : (x : Float) → T (fits binary32 x) → unit_or0 (x ⊕ plus_zero) ≡ unit_or0 x
unfolding unit_or0 max_of min_of is_below is_nan lt add sum round
unit_zero nan h = refl
unit_zero (inf true) h = refl
unit_zero (inf false) h = refl
unit_zero (fin s (suc m) e) h = ap unit_or0 (with_zero s m e h)
unit_zero (fin s zero e) h = subst (λ (x : Float). unit_or0 (x ⊕ plus_zero) ≡ unit_or0 x) (sym (zero_form binary32 s e h)) (of_zero s)
  where
    of_zero : (s : Bool) → unit_or0 (fin s 0 (pos 0) ⊕ plus_zero) ≡ unit_or0 (fin s 0 (pos 0))
    of_zero true = refl
    of_zero false = refl

-- the smoothed numbers are sums, so every one is an f32
module _ (alpha : Float) (targets params : List Float) where
  abbrev next : List Float
  next = smooth_of alpha targets params

  x_zero : steered_x next none ≡ steered_x next (some (plus_zero, plus_zero))
  unfolding steered_x smooth_of glide
  x_zero = sym (unit_zero (next ‼ MORPH_X) (add-fits binary32 _ _))

  y_zero : steered_y next none ≡ steered_y next (some (plus_zero, plus_zero))
  unfolding steered_y smooth_of glide
  y_zero = sym (unit_zero (next ‼ MORPH_Y) (add-fits binary32 _ _))

pub unsteered : (code : ℕ) (k : Constants) (table : Table) (len : ℕ) (sign : Float) (targets : List Float) (cursor : ℕ) (pitch input : Float)
    (rec ring : List Float)
    → tick_with code k table len sign targets cursor pitch input none rec ring
    ≡ tick_with code k table len sign targets cursor pitch input (some (plus_zero, plus_zero)) rec ring
unfolding tick_with
unsteered code k table len sign targets cursor pitch input rec ring = rw (x_zero k.alpha targets _, y_zero k.alpha targets _) refl
