-- For the proofs: nothing here must be believed.
-- The order of floats that are no NaN is total: `y ≤ x` is `x < y` denied. Assumes nothing.
use Rattle.std.specs.Prelude.{◌≡◌, Bool, true, false, not, T, refl, Float}
use Rattle.std.proofs.Common.{subst}
use Rattle.std.specs.Float.Ieee.{lt, le, is_nan}
use Rattle.std.proofs.lemmas.Float.{T_from_true, T_from_false, le_of_not-lt, lt_of_lt_of_le, lt_irrefl, le_right}

to_true : (b : Bool) → T b → b ≡ true
to_true true h = refl
to_true false h = absurd h

to_false : (b : Bool) → (T b → ⊥) → b ≡ false
to_false true h = absurd (h tt)
to_false false h = refl

pub le_is : (x y : Float) → is_nan x ≡ false → is_nan y ≡ false → le y x ≡ not (lt x y)
le_is x y p q = go (lt x y) refl
  where
    go : (b : Bool) → lt x y ≡ b → le y x ≡ not b
    go true e = to_false (le y x) (λ h. lt_irrefl x (lt_of_lt_of_le x y x (T_from_true (lt x y) e) h))
    go false e = to_true (le y x) (le_of_not-lt x y (T_from_false (is_nan x) p) (T_from_false (is_nan y) q) (T_from_false (lt x y) e))

pub nan_le : (x y : Float) → is_nan x ≡ true → le y x ≡ false
nan_le x y p = to_false (le y x) (λ h. subst (λ (b : Bool). T (not b)) p (le_right y x h))
