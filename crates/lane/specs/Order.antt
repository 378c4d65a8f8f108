-- The zeros in order (document 02, C-14): what max and min answer of two zeros and of a NaN, that it is all one which comes first, and
-- which of document 01's answers moved; that no other did is `as_in_01` (proofs/Order.antt). Assumes nothing.
use Rattle.std.specs.Prelude.{◌≡◌, refl, Bool, true, false, cond, ◌&&◌, ◌||◌, pos, T, Float}
use Rattle.std.specs.Float.{nan, inf, fin, binary32}
use Rattle.std.specs.Float.Ieee.{lt, is_nan, fits}
use Rattle.std.specs.Float.Ieee.Fits.{and_l, and_r}
use Rattle.lane.specs.Lane.{is_plus_zero, is_minus_zero, is_below, max_of, min_of}
use Rattle.lane.specs.Below.{apart, not_both, plus_number, minus_number, is_nan_lem, moved, swapped}

-- -0 for true, +0 for false
abbrev pub zero_of : (negative : Bool) → Float
zero_of negative = fin negative 0 (pos 0)

-- ---- of two zeros max is +0 unless both are -0, and min -0 unless both are +0
pub max_zeros : (s t : Bool) → max_of (zero_of s) (zero_of t) ≡ zero_of (s && t)
unfolding max_of is_below is_nan lt
max_zeros true true = refl
max_zeros true false = refl
max_zeros false true = refl
max_zeros false false = refl

pub min_zeros : (s t : Bool) → min_of (zero_of s) (zero_of t) ≡ zero_of (s || t)
unfolding min_of is_below is_nan lt
min_zeros true true = refl
min_zeros true false = refl
min_zeros false true = refl
min_zeros false false = refl

-- ---- a NaN gives way to the other
pub max_nan : (x : Float) → (max_of nan x ≡ x) × (max_of x nan ≡ x)
unfolding max_of is_nan
max_nan nan = (refl, refl)
max_nan (inf s) = (refl, refl)
max_nan (fin s m e) = (refl, refl)

pub min_nan : (x : Float) → (min_of nan x ≡ x) × (min_of x nan ≡ x)
unfolding min_of is_nan
min_nan nan = (refl, refl)
min_nan (inf s) = (refl, refl)
min_nan (fin s m e) = (refl, refl)

-- ---- what moved. Document 01's max and min:
unfoldable pub max_in01 : Float → Float → Float
max_in01 a b = cond (is_nan a) b (cond (is_nan b) a (cond (lt a b) b a))

unfoldable pub min_in01 : Float → Float → Float
min_in01 a b = cond (is_nan a) b (cond (is_nan b) a (cond (lt b a) b a))

-- what moved is max of -0 and +0, and min of +0 and -0
pub max_moved : (a b : Float) → max_of a b ≡ cond (is_minus_zero a && is_plus_zero b) b (max_in01 a b)
unfolding max_of max_in01 is_below
max_moved a b =
    let z = is_minus_zero a && is_plus_zero b in
    moved (is_nan a) (is_nan b) (lt a b) z a b (λ (h : T z). plus_number b (and_r (is_minus_zero a) (is_plus_zero b) h))

pub min_moved : (a b : Float) → min_of a b ≡ cond (is_minus_zero b && is_plus_zero a) b (min_in01 a b)
unfolding min_of min_in01 is_below
min_moved a b =
    let z = is_minus_zero b && is_plus_zero a in
    moved (is_nan a) (is_nan b) (lt b a) z a b (λ (h : T z). minus_number b (and_l (is_minus_zero b) (is_plus_zero a) h))

-- so where no two zeros of different sign meet, the answers are document 01's
unfoldable pub unlike_zeros : Float → Float → Bool
unlike_zeros a b = (is_minus_zero a && is_plus_zero b) || (is_minus_zero b && is_plus_zero a)

-- ---- whichever comes first
pub max_either : (a b : Float) → T (fits binary32 a) → T (fits binary32 b) → max_of a b ≡ max_of b a
unfolding max_of
max_either a b p q = swapped a b (is_nan a) (is_nan b) (is_below a b) (is_below b a) (apart a b p q) (not_both a b) (is_nan_lem a) (is_nan_lem b)

pub min_either : (a b : Float) → T (fits binary32 a) → T (fits binary32 b) → min_of a b ≡ min_of b a
unfolding min_of
min_either a b p q =
    swapped a b (is_nan a) (is_nan b) (is_below b a) (is_below a b) (λ u v g h. apart a b p q u v h g) (λ g h. not_both a b h g) (is_nan_lem a) (is_nan_lem b)
