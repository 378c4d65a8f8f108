-- The peak (document 02, C-15): |sample| has no sign, a NaN sample leaves the peak, an infinite one makes it infinite, a forged NaN goes at the
-- next sample that is none, and a peak that is a number without sign, as a start's, stays one. Assumes nothing.
use Rattle.std.specs.Prelude.{◌≡◌, refl, Bool, true, false, cond, T, Float}
use Rattle.std.proofs.Common.{sym, ap, ◌∙◌, true≢false}
use Rattle.std.specs.Float.{nan, inf, fin, binary32}
use Rattle.std.specs.Float.Ieee.{neg, lt, is_nan, fits}
use Rattle.std.specs.Float.Ieee.Fits.{neg-fits}
use Rattle.lane.specs.Lane.{is_below, max_of}
use Rattle.lane.specs.Order.{max_nan, max_either}
use Rattle.extended.specs.Extended.{abs_of}
use Rattle.peak.specs.Peak.{peak_of}

-- a float with its sign cleared
abbrev pub unsigned : Float → Float
unsigned nan = nan
unsigned (inf s) = inf false
unsigned (fin s m e) = fin false m e

pub abs_unsigned : (x : Float) → T (fits binary32 x) → abs_of x ≡ unsigned x
unfolding abs_of max_of is_below is_nan neg lt
abs_unsigned nan h = refl
abs_unsigned (inf true) h = refl
abs_unsigned (inf false) h = refl
abs_unsigned (fin true m e) h = max_either (fin true m e) (fin false m e) h (neg-fits binary32 (fin true m e) h)
abs_unsigned (fin false m e) h = refl

pub peak_sign : (p x : Float) → T (fits binary32 x) → peak_of p (neg x) ≡ peak_of p x
unfolding peak_of neg
peak_sign p x h = ap (max_of p) (abs_unsigned (neg x) (neg-fits binary32 x h) ∙ same x ∙ sym (abs_unsigned x h))
  where
    same : (x : Float) → unsigned (neg x) ≡ unsigned x
    same nan = refl
    same (inf s) = refl
    same (fin s m e) = refl

pub peak_nan : (p : Float) → peak_of p nan ≡ p
unfolding peak_of abs_of max_of is_nan neg
peak_nan p = (max_nan p).1

pub max_inf : (p : Float) → max_of p (inf false) ≡ inf false
unfolding max_of is_below is_nan lt
max_inf nan = refl
max_inf (inf true) = refl
max_inf (inf false) = refl
max_inf (fin s m e) = refl

pub peak_infinite : (p : Float) (s : Bool) → peak_of p (inf s) ≡ inf false
unfolding peak_of abs_of max_of is_below is_nan neg lt
peak_infinite p true = max_inf p
peak_infinite p false = max_inf p

pub nan_goes : (x : Float) → peak_of nan x ≡ abs_of x
unfolding peak_of
nan_goes x = (max_nan (abs_of x)).0

-- a number without sign
pub record IsPeak (p : Float) : Type 0 where
  pub number : is_nan p ≡ false
  pub plain : unsigned p ≡ p

pub stays : (p x : Float) → T (fits binary32 x) → IsPeak p → IsPeak (peak_of p x)
unfolding peak_of max_of
stays p x h k = go (is_nan p) (is_nan (abs_of x)) (is_below p (abs_of x)) k.number refl
  where
    twice : (x : Float) → unsigned (unsigned x) ≡ unsigned x
    twice nan = refl
    twice (inf s) = refl
    twice (fin s m e) = refl

    plain : unsigned (abs_of x) ≡ abs_of x
    plain = ap unsigned (abs_unsigned x h) ∙ twice x ∙ sym (abs_unsigned x h)

    go : (a b c : Bool) → a ≡ false → is_nan (abs_of x) ≡ b → IsPeak (cond a (abs_of x) (cond b p (cond c (abs_of x) p)))
    go true b c e q = absurd (true≢false e)
    go false true c e q = k
    go false false true e q = record { number = q; plain = plain }
    go false false false e q = k
