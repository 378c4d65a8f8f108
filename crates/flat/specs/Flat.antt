-- DjSweep is flat near its middle (document 01, checked figures): at |d| ≤ 0.04, where filtered - x is finite, the sample out is
-- the sample in, in value; the states are the stage's all the same (`flat`, proofs/Flat.antt). The argument: there `wet` is a zero, a zero times a finite
-- number is a zero, and a zero plus x is x in value. Assumes nothing.
use Rattle.std.specs.Prelude.{◌≡◌, refl, Bool, true, false, List, [], ◌∷◌, pos, negsuc, T, Float}
use Rattle.std.proofs.Common.{sym, subst}
use Rattle.std.proofs.lemmas.List.Edits.{sets}
use Rattle.std.specs.Float.{fin, binary32}
use Rattle.std.specs.Float.Ieee.{round, div, sub, eq, le, fits}
use Rattle.std.specs.Float.Ieee.Bits.{is_true}
use Rattle.std.specs.Float.Ieee.Scale.{finite}
use Rattle.lane.specs.Floats.{◌⊖◌, ◌⊗◌, ◌⊘◌, fma, zero, one}
use Rattle.lane.specs.Lane.{max_of, min_of}
use Rattle.filter.specs.declared.Pitch.{Pitch}
use Rattle.extended.specs.declared.Settings.{Settings}
use Rattle.extended.specs.Extended.{abs_of}
use Rattle.sweeps.specs.declared.DjSweep.{DjSweep}
use Rattle.sweeps.specs.Sweeps.{dj_flat, dj_fade, dj_distance, dj_depth, dj_with, dj_coefficients, dj_stage, dj_step}
use Rattle.bits.specs.Zeros.{Zero, zero_times, zero_plus, finite_right, zero_of_eq, eq_of_zero}
use Rattle.flat.specs.Zeros.{non_positive, difference, product, max-zero, min-zero}

-- ---- the parts of the definition that the statements name

-- |d| ≤ DJ_FLAT
unfoldable pub near_middle : Pitch → Bool
near_middle pitch = le (abs_of (dj_distance pitch)) dj_flat

-- a zero of either sign
unfoldable pub is_zero : Float → Bool
is_zero x = eq x zero

-- ---- the constants' values
zero_is : zero ≡ fin false 0 (pos 0)
unfolding round
zero_is = refl

one_is : one ≡ fin false 1 (pos 0)
unfolding round
one_is = refl

flat_is : dj_flat ≡ fin false 5368709 (negsuc 26)
unfolding round
flat_is = refl

slope_is : one ⊘ (one ⊖ dj_flat) ≡ fin false 4369067 (negsuc 21)
unfolding round div sub
slope_is = refl

fade_is : one ⊘ dj_fade ≡ fin false 5 (pos 1)
unfolding round div
fade_is = refl

-- ---- a zero `wet` gives x
holds : {b : Bool} → b ≡ true → T b
holds e = subst T (sym e) tt

pub flat_sample : (wet filtered x : Float) → is_zero wet ≡ true → fits binary32 x ≡ true → finite (filtered ⊖ x) ≡ true
    → eq (fma wet (filtered ⊖ x) x) x ≡ true
unfolding is_zero
flat_sample wet filtered x w f h =
    let d = filtered ⊖ x in
    let z : Zero wet = zero_of_eq wet (subst (λ (k : Float). eq wet k ≡ true) zero_is w) in
    is_true (eq (fma wet d x) x) (zero_plus (wet ⊗ d) x (zero_times wet d z (holds h)) (holds f) (finite_right filtered x (holds h)))

-- ---- near the middle `wet` is a zero
depth_zero : (d : Float) → le (abs_of d) dj_flat ≡ true → Zero (dj_depth d)
unfolding dj_depth
depth_zero d h =
    let a = abs_of d in
    let low : le a (fin false 5368709 (negsuc 26)) ≡ true = subst (λ (k : Float). le a k ≡ true) flat_is h in
    let n : T (non_positive (a ⊖ dj_flat))
    = subst (λ (k : Float). T (non_positive (a ⊖ k))) (sym flat_is) (difference a 5368709 (negsuc 26) (holds low)) in
    let past : Float = (a ⊖ dj_flat) ⊗ (one ⊘ (one ⊖ dj_flat)) in
    let m : T (non_positive past)
    = subst (λ (k : Float). T (non_positive ((a ⊖ dj_flat) ⊗ k))) (sym slope_is) (product (a ⊖ dj_flat) 4369066 (negsuc 21) n) in
    subst (λ (k : Float). Zero (max_of past k)) (sym zero_is) (max-zero past m)

wet_zero : (v : Float) → Zero v → Zero (min_of (v ⊗ (one ⊘ dj_fade)) one)
wet_zero v z =
    let t : Zero (v ⊗ (one ⊘ dj_fade)) = subst (λ (k : Float). Zero (v ⊗ k)) (sym fade_is) (zero_times v (fin false 5 (pos 1)) z tt) in
    subst (λ (k : Float). Zero (min_of (v ⊗ (one ⊘ dj_fade)) k)) (sym one_is) (min-zero (v ⊗ (one ⊘ dj_fade)) 1 (pos 0) t)

pub flat_wet : (pitch : Pitch) (p : Settings) → near_middle pitch ≡ true → is_zero (dj_coefficients pitch p).wet ≡ true
unfolding near_middle is_zero dj_with dj_coefficients
flat_wet pitch p h =
    let v = dj_depth (dj_distance pitch) in
    let w = min_of (v ⊗ (one ⊘ dj_fade)) one in
    subst (λ (k : Float). eq w k ≡ true) (sym zero_is) (eq_of_zero w (wet_zero v (depth_zero (dj_distance pitch) h)))

-- ---- and the states are the stage's, whatever `wet` is
pub flat_states : (c : DjSweep) (state : List Float) (x : Float)
    → (dj_step c state x).state ≡ sets state 0 ((dj_stage c state x).ic1 ∷ (dj_stage c state x).ic2 ∷ [])
unfolding dj_step
flat_states c state x = refl

abbrev pub with_wet : DjSweep → Float → DjSweep
with_wet c w = record { g = c.g; k = c.k; low_side = c.low_side; wet = w }

pub states_without_wet : (c : DjSweep) (w : Float) (state : List Float) (x : Float) → (dj_step (with_wet c w) state x).state ≡ (dj_step c state x).state
unfolding dj_step dj_stage
states_without_wet c w state x = refl
