-- For the proofs: nothing here must be believed.
-- A number is written in one way: of one sign and one size, two values that a format holds are the same value. By their patterns, which
-- go by sign and size alone. Assumes nothing.
use Rattle.std.specs.Prelude.{◌≡◌, refl, Bool, true, false, not, cond, ◌||◌, ℕ, zero, suc, ◌+◌, ◌-◌, ◌*◌, ◌/◌, ◌^◌, ◌<◌, ℤ, pos, T, eqb, Float}
use Rattle.std.proofs.Common.{sym, ap, ◌∙◌, subst, mul_assoc, mul_comm, mul-one, one-mul, mul-pos, zero-mul, zero-add, arith, eqb→eq, lit<}
use Rattle.std.specs.Bool.{beq}
use Rattle.std.specs.Float.{nan, inf, fin, Format, binary32}
use Rattle.std.specs.Float.Ieee.{prec, low, hid, top, up, down, unlike, size, round, sum, add, sub, mul, neg, eq, fits, to_bits, of_bits}
use Rattle.std.specs.Float.Ieee.Bits.{of_bits-to_bits}
use Rattle.std.specs.Float.Ieee.Exact.{HasValue, round_exact}
use Rattle.std.specs.Float.Ieee.Fits.{up_pos, down_pos, and_l, and_r, add-fits, neg-fits, round-fits}
use Rattle.std.specs.Float.Ieee.Nearest.{div_same}
use Rattle.std.specs.Float.Ieee.Scale.{round_same}
use Rattle.bits.specs.Zeros.{Zero, zero_factor, zero-product, alike, zero_plus}

-- in units of a scale w the two sizes are one fraction
same_size : (a b c d w : ℕ) → a * d ≡ c * b → a * w * d ≡ c * w * b
same_size a b c d w h = swap a w d ∙ ap (λ (k : ℕ). k * w) h ∙ sym (swap c w b)
  where
    swap : (a w d : ℕ) → a * w * d ≡ a * d * w
    swap a w d = mul_assoc a w d ∙ ap (λ (k : ℕ). a * k) (mul_comm w d) ∙ sym (mul_assoc a d w)

pub same_pattern : (f : Format) (s : Bool) (m : ℕ) (e : ℤ) (n : ℕ) (d : ℤ) → m * up e * down d ≡ n * up d * down e
    → to_bits f (fin s m e) ≡ to_bits f (fin s n d)
unfolding to_bits
same_pattern f s m e n d h =
    ap (λ (k : ℕ). cond s (top f) 0 + (size k - prec f) * hid f + k / 2 ^ (size k - prec f))
    (div_same (m * up e * 2 ^ low f) (down e) (n * up d * 2 ^ low f) (down d) (down_pos e) (down_pos d)
    (same_size (m * up e) (down e) (n * up d) (down d) (2 ^ low f) h))

pub same_value : (f : Format) (s : Bool) (m : ℕ) (e : ℤ) (n : ℕ) (d : ℤ) → T (fits f (fin s m e)) → T (fits f (fin s n d))
    → m * up e * down d ≡ n * up d * down e → fin s m e ≡ fin s n d
same_value f s m e n d p q h =
    sym (of_bits-to_bits f (fin s m e) p) ∙ ap (of_bits f) (same_pattern f s m e n d h) ∙ of_bits-to_bits f (fin s n d) q

-- two equal numbers that are no zeros
pub equal_same : (f : Format) (x y : Float) → T (fits f x) → T (fits f y) → T (eq x y) → (Zero y → ⊥) → x ≡ y
unfolding eq
equal_same f nan y p q h z = absurd h
equal_same f (inf s) nan p q h z = absurd h
equal_same f (inf s) (inf t) p q h z = ap inf (alike s t h)
equal_same f (inf s) (fin t n d) p q h z = absurd h
equal_same f (fin s m e) nan p q h z = absurd h
equal_same f (fin s m e) (inf t) p q h z = absurd h
equal_same f (fin s m e) (fin t n d) p q h z =
    let a = m * up e * down d in
    let size : a ≡ n * up d * down e = eqb→eq a (n * up d * down e) (and_l (eqb a (n * up d * down e)) (beq s t || eqb a 0) h) in
    let sign : s ≡ t = go (beq s t) (alike s t) size (and_r (eqb a (n * up d * down e)) (beq s t || eqb a 0) h) in
    ap (λ (b : Bool). fin b m e) sign
    ∙ same_value f t m e n d (subst (λ (b : Bool). T (fits f (fin b m e))) sign p) q size
  where
    go : (b : Bool) → (T b → s ≡ t) → m * up e * down d ≡ n * up d * down e → T (b || eqb (m * up e * down d) 0) → s ≡ t
    go true g w k = g tt
    go false g w k =
        absurd (z (zero_factor n (up d) (up_pos d) (zero_factor (n * up d) (down e) (down_pos e) (sym w ∙ eqb→eq (m * up e * down d) 0 k))))

-- a zero plus a number that is no zero is that number; less it, the number with the other sign
pub zero_first : (z s : Bool) (m : ℕ) (e : ℤ) → T (fits binary32 (fin s (suc m) e))
    → add binary32 (fin z 0 (pos 0)) (fin s (suc m) e) ≡ fin s (suc m) e
zero_first z s m e h =
    let y : Float = fin s (suc m) e in
    equal_same binary32 (add binary32 (fin z 0 (pos 0)) y) y (add-fits binary32 (fin z 0 (pos 0)) y) h
    (zero_plus (fin z 0 (pos 0)) y refl h tt)
    (λ (k : suc m ≡ 0). omega arith)

pub zero_less : (z s : Bool) (m : ℕ) (e : ℤ) → T (fits binary32 (fin s (suc m) e))
    → sub binary32 (fin z 0 (pos 0)) (fin s (suc m) e) ≡ neg (fin s (suc m) e)
unfolding sub neg
zero_less z s m e h = zero_first z (not s) m e (neg-fits binary32 (fin s (suc m) e) h)

-- a zero has the exponent 0
pub zero-fits : (f : Format) (s : Bool) → T (fits f (fin s 0 (pos 0)))
unfolding fits
zero-fits f s = tt

pub zero_form : (f : Format) (s : Bool) (e : ℤ) → T (fits f (fin s 0 e)) → fin s 0 e ≡ fin s 0 (pos 0)
zero_form f s e h = same_value f s 0 e 0 (pos 0) h (zero-fits f s) (mul-one (0 * up e) ∙ zero-mul (up e) ∙ sym (zero-mul (down e)))

-- ---- what rounds to a zero is that zero
of_value : (x : Float) (s : Bool) (c : ℕ) → 0 < c → T (fits binary32 x) → HasValue x s 0 c → x ≡ fin s 0 (pos 0)
of_value nan s c C f h = absurd h
of_value (inf t) s c C f h = absurd h
of_value (fin t m e) s c C f h =
    let w : m * up e ≡ 0 = zero_factor (m * up e) c C (h.1 ∙ zero-mul (down e)) in
    ap (λ (b : Bool). fin b m e) h.0
    ∙ same_value binary32 s m e 0 (pos 0) (subst (λ (b : Bool). T (fits binary32 (fin b m e))) h.0 f) (zero-fits binary32 s)
    (mul-one (m * up e) ∙ w ∙ sym (zero-mul (down e)))

rounds : (s : Bool) (a c : ℕ) → 0 < c → a ≡ 0 → round binary32 s a c ≡ fin s 0 (pos 0)
rounds s a c C z =
    ap (λ (k : ℕ). round binary32 s k c) z
    ∙ of_value (round binary32 s 0 c) s c C (round-fits binary32 s 0 c) (round_exact binary32 s 0 c 0 0 C (lit< tt) (lit< tt) (sym (zero-mul c)))

-- ---- the sign of a zero z is lost in p + (z - p) × a
plus : (w : Bool) → add binary32 (fin w 0 (pos 0)) (fin false 0 (pos 0)) ≡ fin false 0 (pos 0)
unfolding add sum round
plus true = refl
plus false = refl

times : (z v : Bool) (n : ℕ) (d : ℤ)
    → add binary32 (mul binary32 (fin z 0 (pos 0)) (fin v n d)) (fin false 0 (pos 0)) ≡ fin false 0 (pos 0)
unfolding mul
times z v n d =
    ap (λ (k : Float). add binary32 k (fin false 0 (pos 0)))
    (rounds (unlike z v) (0 * 1 * (n * up d)) (1 * down d) (mul-pos (lit< tt) (down_pos d)) (zero-product 0 1 (n * up d) refl))
    ∙ plus (unlike z v)

from_plus : (z s : Bool) (a : Float)
    → add binary32 (mul binary32 (fin z 0 (pos 0)) a) (fin false 0 (pos 0)) ≡ add binary32 (mul binary32 (fin s 0 (pos 0)) a) (fin false 0 (pos 0))
unfolding mul
from_plus z s nan = refl
from_plus z s (inf v) = refl
from_plus z s (fin v n d) = times z v n d ∙ sym (times s v n d)

abbrev pub glided : (z : Bool) (p a : Float) → Float
glided z p a = add binary32 (mul binary32 (sub binary32 (fin z 0 (pos 0)) p) a) p

from_zero : (z s u : Bool) (a : Float) → glided z (fin u 0 (pos 0)) a ≡ glided s (fin u 0 (pos 0)) a
unfolding sub add neg sum round
from_zero true true u a = refl
from_zero false false u a = refl
from_zero true false true a = refl
from_zero false true true a = refl
from_zero true false false a = from_plus true false a
from_zero false true false a = from_plus false true a

pub zero_hidden : (z s : Bool) (p a : Float) → T (fits binary32 p) → glided z p a ≡ glided s p a
unfolding sub add neg
zero_hidden z s nan a h = refl
zero_hidden z s (inf u) a h = refl
zero_hidden z s (fin u zero e) a h =
    subst (λ (p : Float). glided z p a ≡ glided s p a) (sym (zero_form binary32 u e h)) (from_zero z s u a)
zero_hidden z s (fin u (suc m) e) a h =
    ap (λ (k : Float). add binary32 (mul binary32 k a) (fin u (suc m) e)) (zero_less z u m e h ∙ sym (zero_less s u m e h))

-- ---- an f32 times 1 is that f32

-- the fraction of a product with 1 is that of a sum with a zero
scaled : (s : Bool) (p d : ℕ) → 0 < d → round binary32 s (p * (1 * 1)) (d * 1) ≡ round binary32 s (0 * 1 * d + p * 1) (1 * d)
scaled s p d D =
    round_same binary32 s (p * (1 * 1)) (d * 1) (0 * 1 * d + p * 1) (1 * d) (mul-pos D (lit< tt)) (mul-pos (lit< tt) D)
    (simp (mul-one, one-mul, zero-mul, zero-add))

pub times_one : (x : Float) → T (fits binary32 x) → mul binary32 x (fin false 1 (pos 0)) ≡ x
unfolding mul add sum round
times_one nan h = refl
times_one (inf true) h = refl
times_one (inf false) h = refl
times_one (fin s zero e) h = subst (λ (x : Float). mul binary32 x (fin false 1 (pos 0)) ≡ x) (sym (zero_form binary32 s e h)) (of_zero s)
  where
    of_zero : (s : Bool) → mul binary32 (fin s 0 (pos 0)) (fin false 1 (pos 0)) ≡ fin s 0 (pos 0)
    of_zero true = refl
    of_zero false = refl
times_one (fin true (suc m) e) h = scaled true (suc m * up e) (down e) (down_pos e) ∙ zero_first true true m e h
times_one (fin false (suc m) e) h = scaled false (suc m * up e) (down e) (down_pos e) ∙ zero_first false false m e h
