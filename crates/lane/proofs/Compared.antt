-- For the proofs: nothing here must be believed.
-- How few comparisons decide max and min: one, where b is a number other than -0, in min other than +0, since it is all one which comes
-- first; document 01's, where b is not +0, in min not -0. Assumes nothing.
use Rattle.std.specs.Prelude.{◌≡◌, refl, Bool, true, false, cond, ◌&&◌, ◌||◌, T, Float}
use Rattle.std.proofs.Common.{sym, ap, ◌∙◌, true≢false}
use Rattle.std.specs.Float.{nan, inf, fin, binary32}
use Rattle.std.specs.Float.Ieee.{lt, is_nan, fits}
use Rattle.lane.specs.Lane.{is_plus_zero, is_minus_zero, is_below, max_of, min_of}
use Rattle.lane.specs.Order.{max_in01, min_in01, max_moved, min_moved, max_either, min_either}

-- the order is < where -0 and +0 do not stand there
or-false : (p q : Bool) → q ≡ false → p || q ≡ p
or-false true q h = refl
or-false false q h = h

and-false : (p q : Bool) → q ≡ false → p && q ≡ false
and-false true q h = h
and-false false q h = refl

by_less : (a b : Float) → is_minus_zero a && is_plus_zero b ≡ false → is_below a b ≡ lt a b
unfolding is_below
by_less a b h = or-false (lt a b) (is_minus_zero a && is_plus_zero b) h

-- ---- one comparison, where the order is <, which is false beside a NaN; the arguments stand exchanged
chosen : (a b : Float) (p q l r : Bool) → q ≡ false → r ≡ l → (T p → l ≡ false) → cond q a (cond p b (cond r a b)) ≡ cond l a b
chosen a b p true l r n e h = absurd (true≢false n)
chosen a b true false l r n e h = ap (λ (k : Bool). cond k a b) (sym (h tt))
chosen a b false false l r n e h = ap (λ (k : Bool). cond k a b) e

above_nan : (a b : Float) → T (is_nan a) → lt b a ≡ false
unfolding lt is_nan
above_nan nan nan h = refl
above_nan nan (inf s) h = refl
above_nan nan (fin s m e) h = refl
above_nan (inf s) b h = absurd h
above_nan (fin s m e) b h = absurd h

below_nan : (a b : Float) → T (is_nan a) → lt a b ≡ false
unfolding lt is_nan
below_nan nan b h = refl
below_nan (inf s) b h = absurd h
below_nan (fin s m e) b h = absurd h

pub max_compared : (a b : Float) → T (fits binary32 a) → T (fits binary32 b) → is_nan b ≡ false → is_minus_zero b ≡ false
    → max_of a b ≡ cond (lt b a) a b
unfolding max_of
max_compared a b p q n z =
    max_either a b p q ∙ chosen a b (is_nan a) (is_nan b) (lt b a) (is_below b a) n (by_less b a (ap (λ (k : Bool). k && is_plus_zero a) z)) (above_nan a b)

pub min_compared : (a b : Float) → T (fits binary32 a) → T (fits binary32 b) → is_nan b ≡ false → is_plus_zero b ≡ false
    → min_of a b ≡ cond (lt a b) a b
unfolding min_of
min_compared a b p q n z =
    min_either a b p q ∙ chosen a b (is_nan a) (is_nan b) (lt a b) (is_below a b) n (by_less a b (and-false (is_minus_zero a) (is_plus_zero b) z)) (below_nan a b)

-- ---- and where b is no +0, in min no -0, document 01's do
pub max_other : (a b : Float) → is_plus_zero b ≡ false → max_of a b ≡ max_in01 a b
max_other a b h = max_moved a b ∙ ap (λ (z : Bool). cond z b (max_in01 a b)) (and-false (is_minus_zero a) (is_plus_zero b) h)

pub min_other : (a b : Float) → is_minus_zero b ≡ false → min_of a b ≡ min_in01 a b
min_other a b h = min_moved a b ∙ ap (λ (z : Bool). cond (z && is_plus_zero a) b (min_in01 a b)) h
