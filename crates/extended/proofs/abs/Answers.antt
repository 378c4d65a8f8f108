-- `extended::abs` meets its contract: of a number that is no zero 0 - x is -x, and one comparison decides (`max_compared`); of a zero it is +0,
-- by computation. Assumes nothing.
use mathlib.Core.Path.{◌≡◌, refl, sym, ◌∙◌, ap, subst}
use mathlib.Core.Bool.{Bool, true, false, not, cond, ◌&&◌}
use Prim.Native.Nat.{ℕ, zero, suc}
use lib.IntN.{ℤ, pos}
use lib.Dec.{T, eqb, eqb-suc-zero}
use lib.Ieee.{Float, nan, inf, fin, binary32, round, sum, add, sub, neg, lt, is_nan, fits, of_bits}
use lib.Ieee.Fits.{neg-fits}
use Rattle.bits.specs.Values.{zero_less, zero_form}
use Rattle.lane.specs.Lane.{is_below, max_of}
use Rattle.lane.proofs.Compared.{max_compared}
use Rattle.extended.specs.Extended.{abs_of}
use Rattle.extended.proofs.abs.Goals as goal
use Rattle.extended.proofs.abs.Lts as lts
use Rattle.extended.proofs.abs.Reads as reads

abbrev Start : Type 0
Start = lts.Start reads.Pre reads.Post

abbrev compared : Float → Float → Float
compared x n = cond (lt n x) x n

of_zero : (s : Bool) → abs_of (fin s 0 (pos 0)) ≡ compared (fin s 0 (pos 0)) (sub binary32 (fin false 0 (pos 0)) (fin s 0 (pos 0)))
unfolding abs_of max_of is_below is_nan neg lt sub add sum round
of_zero true = refl
of_zero false = refl

none : (s : Bool) (m : ℕ) → s && eqb (suc m) 0 ≡ false
none true m = eqb-suc-zero m
none false m = refl

of_other : (s : Bool) (m : ℕ) (e : ℤ) → T (fits binary32 (fin s (suc m) e)) → abs_of (fin s (suc m) e) ≡ compared (fin s (suc m) e) (neg (fin s (suc m) e))
unfolding abs_of is_nan neg
of_other s m e h = max_compared (fin s (suc m) e) (neg (fin s (suc m) e)) h (neg-fits binary32 (fin s (suc m) e) h) refl (none (not s) m)

abs_is : (x : Float) → T (fits binary32 x) → abs_of x ≡ compared x (sub binary32 (fin false 0 (pos 0)) x)
unfolding abs_of max_of is_below is_nan neg lt sub add
abs_is nan h = refl
abs_is (inf true) h = refl
abs_is (inf false) h = refl
abs_is (fin s zero e) h = subst (λ (x : Float). abs_of x ≡ compared x (sub binary32 (fin false 0 (pos 0)) x)) (sym (zero_form binary32 s e h)) (of_zero s)
abs_is (fin s (suc m) e) h = of_other s m e h ∙ ap (compared (fin s (suc m) e)) (sym (zero_less false s m e h))

of_x : (c : Start) → abs_of c.args.x ≡ compared c.args.x (sub binary32 (fin false 0 (pos 0)) c.args.x)
of_x c = abs_is c.args.x (subst T (sym c.well_formed.0.1) tt)

pub returns-then-n-x : goal.returns-then-n-x
unfolding of_bits
returns-then-n-x c = rw (of_x c.before) (simp c.if-n-x.true)

pub returns-else-n-x : goal.returns-else-n-x
unfolding of_bits
returns-else-n-x c = rw (of_x c.before) (simp c.if-n-x.false)
