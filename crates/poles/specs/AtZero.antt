-- At z = 0 the tick's section number is the near face's (document 02, C-17): "At z = 0, where A and B - A are finite, the section number equals A in
-- value". A smoothed z of either zero is held to +0; then by points/specs/AtZero. A blended number is a sum, so it is an f32. Assumes nothing.
use Rattle.std.specs.Prelude.{◌≡◌, refl, ℕ, ◌+◌, zero as nought, suc, Bool, true, false, cond, List, pos, T, Float}
use Rattle.std.proofs.Common.{sym, arith}
use Rattle.std.proofs.Math.Path.{subst}
use Rattle.std.specs.Float.{nan, inf, fin}
use Rattle.std.specs.Float.Ieee.{binary32, round, lt, is_nan, eq, fits}
use Rattle.std.specs.Float.Ieee.Bits.{is_true}
use Rattle.std.specs.Float.Ieee.Fits.{add-fits}
use Rattle.std.specs.Float.Ieee.Scale.{finite}
use Rattle.bits.specs.Zeros.{Zero, zero_of_eq}
use Rattle.bits.specs.Values.{zero_form}
use Rattle.lane.specs.Floats.{◌⊖◌, zero}
use Rattle.lane.specs.Lane.{is_below, max_of, min_of}
use Rattle.extended.specs.Extended.{unit_or0}
use Rattle.points.specs.Points.{between}
use Rattle.points.specs.AtZero.{between_at_zero}
use Rattle.poles.specs.declared.Pad.{Pad}
use Rattle.poles.specs.Poles.{blend_of, far_face, number_at}

zero_is : zero ≡ fin false 0 (pos 0)
unfolding round
zero_is = refl

held : (s : Bool) → eq (unit_or0 (fin s 0 (pos 0))) zero ≡ true
unfolding unit_or0 max_of min_of is_below is_nan lt round eq
held true = refl
held false = refl

held_zero : (z : Float) → T (fits binary32 z) → Zero z → eq (unit_or0 z) zero ≡ true
held_zero nan f h = absurd h
held_zero (inf s) f h = absurd h
held_zero (fin s (suc m) e) f h =
    let never : ⊥ = omega (arith, h) in
    absurd never
held_zero (fin s nought e) f h = subst (λ (z : Float). eq (unit_or0 z) zero ≡ true) (sym (zero_form binary32 s e f)) (held s)

module _ (sections : List Float) (d : Pad) (at : ℕ) where
  abbrev A : Float
  A = blend_of sections at d.x d.y

  abbrev B : Float
  B = blend_of sections (far_face + at) d.x d.y

  pub number_at_zero : d.three ≡ true → T (fits binary32 d.z) → eq d.z zero ≡ true → finite (B ⊖ A) ≡ true
      → eq (number_at sections d at) A ≡ true
  unfolding number_at blend_of
  number_at_zero h f n g =
      subst (λ (b : Bool). eq (cond b (between A B (unit_or0 d.z)) A) A ≡ true) (sym h)
      (between_at_zero A B (unit_or0 d.z) (held_zero d.z f (zero_of_eq d.z (subst (λ (k : Float). eq d.z k ≡ true) zero_is n)))
      (is_true _ (add-fits binary32 _ _)) g)
