-- For the proofs: nothing here must be believed.
-- How far one rounding strays. A fraction a / c rounds to `grid f a c` units of the format's smallest value. Below 2^(prec + k) units that is off by at
-- most a half of 2^k units (`round_half`); from a half of that on it is the nearest multiple of 2^k (`round_step`). For binary32 and a fraction below
-- 2^i: off by at most 2^i × 2^-25 (`round_near`), and finite (`round_value`). A bound in units is one of fractions: `within_units`. Assumes nothing.
use Rattle.std.specs.Prelude.{◌≡◌, refl, ◌⊎◌, Bool, true, false, not, T, eqb, ltb}
use Rattle.std.proofs.Common.{sym, ap, ◌∙◌, subst, inl, inr, le_of_lt, lt_of_lt_of_le, lt_of_le_of_lt, lt_of_not-le, not-le_of_lt, mul-pos, mul-le-mul_left, mul-le-mul_right, mul-lt-mul_of_pos_right, le_of_mul-le-mul_right, le-div_iff_mul-le, div-lt_iff_lt-mul, div-add-mod', mod-lt, arith, leb→le, ltb→lt, nltb→le, eqb→eq, lit<, pow_pos, pow_mono, pow-add}
use Prim.Native.Nat.{ℕ, ◌+◌, ◌-◌, ◌*◌, ◌/◌, ◌%◌, ◌^◌, ◌≤◌, ◌<◌, compare, Ordering}
use Rattle.std.proofs.Math.Dec.{is_le, compare_is_eq, nleb→lt, eqb_refl}
use Rattle.std.proofs.Math.Arith.{lt_of_le-ne}
use lib.Ieee.{Float, nan, inf, fin, Format, binary32, prec, low, up, down, size, nearest, round}
use Rattle.std.specs.Float.Ieee.Digits.{size-le, size-lt}
use Rattle.std.specs.Float.Ieee.Fits.{down_pos, round_is}
use Rattle.std.specs.Float.Ieee.Exact.{HasValue, units_val}
use Rattle.std.specs.Float.Ieee.Nearest.{closest}
use Rattle.std.specs.Float.Ieee.Order.{drop, kept}
use Rattle.std.specs.Float.Ieee.Scale.{grid}
use Rattle.rounding.specs.Fractions.{Fraction, value_of, WithinOneOver}

-- x and y are at most e apart
abbrev pub Off : ℕ → ℕ → ℕ → Type 0
Off e x y = (x ≤ y + e) × (y ≤ x + e)

-- a < b, or b ≤ a
pub either : (a b : ℕ) → (a < b) ⊎ (b ≤ a)
either a b = go (ltb a b) (ltb→lt a b) (nltb→le a b)
  where
    go : (t : Bool) → (T t → a < b) → (T (not t) → b ≤ a) → (a < b) ⊎ (b ≤ a)
    go true h k = inl (h tt)
    go false h k = inr (k tt)

pub rest : (a b : ℕ) → b ≤ a → b + (a - b) ≡ a
rest a b h = omega arith

-- ---- what `compare` says (lib.Ieee.Nearest has this for itself)
abbrev pub Compared : Ordering → ℕ → ℕ → Type 0
Compared Ordering.lt a b = a < b
Compared Ordering.eq a b = a ≡ b
Compared Ordering.gt a b = b < a

pub compared : (a b : ℕ) → Compared (compare a b) a b
compared a b = go (compare a b) (leb→le a b) (nleb→lt a b) (eqb→eq a b) (λ (e : a ≡ b). subst (λ (x : ℕ). T (eqb a x)) e (eqb_refl a))
  where
    go : (o : Ordering) → (T (is_le o) → a ≤ b) → (T (not (is_le o)) → b < a) → (T (compare_is_eq o) → a ≡ b) → (a ≡ b → T (compare_is_eq o))
        → Compared o a b
    go Ordering.lt h k e n = lt_of_le-ne (h tt) n
    go Ordering.eq h k e n = e tt
    go Ordering.gt h k e n = k tt

-- ---- the nearest whole number to n / u is at most a half away
at_most_one : (q : ℕ) → q % 2 ≤ 1
at_most_one q = omega arith

half : (o : Ordering) (n u q r : ℕ) → q * u + r ≡ n → r < u → Compared o (r * 2) u → Off u (2 * (nearest q o * u)) (2 * n)
half Ordering.lt n u q r e l c = (omega arith, omega arith)
half Ordering.eq n u q r e l c = let z : q % 2 * u ≤ 1 * u = mul-le-mul_right u (at_most_one q) in tie (q % 2) z
  where
    tie : (z : ℕ) → z * u ≤ 1 * u → Off u (2 * ((q + z) * u)) (2 * n)
    tie z h = (omega arith, omega arith)
half Ordering.gt n u q r e l c = (omega arith, omega arith)

pub closest_half : (n u : ℕ) → 0 < u → Off u (2 * (closest n u * u)) (2 * n)
closest_half n u U = half (compare (n % u * 2) u) n u (n / u) (n % u) (div-add-mod' n u) (mod-lt n U) (compared (n % u * 2) u)

-- and a whole number itself where n is a multiple of u
pub closest_whole : (m u : ℕ) → 0 < u → closest (m * u) u ≡ m
closest_whole m u U =
    let q = closest (m * u) u in
    let o = closest_half (m * u) u U in
    same q (le_of_mul-le-mul_right {k = u} (over q o.0) U) (le_of_mul-le-mul_right {k = u} (under q o.1) U)
  where
    over : (q : ℕ) → 2 * (q * u) ≤ 2 * (m * u) + u → 2 * q * u ≤ (2 * m + 1) * u
    over q h = omega arith

    under : (q : ℕ) → 2 * (m * u) ≤ 2 * (q * u) + u → 2 * m * u ≤ (2 * q + 1) * u
    under q h = omega arith

    same : (q : ℕ) → 2 * q ≤ 2 * m + 1 → 2 * m ≤ 2 * q + 1 → q ≡ m
    same q h k = omega arith

-- ---- how many digits are dropped
spare : (z p k : ℕ) → z ≤ p + k → z - p ≤ k
spare z p k h = omega arith

filled : (z p k : ℕ) → 0 < p → p - 1 + k < z → z ≤ p + k → z - p ≡ k
filled z p k P h g = omega arith

drop_le : (p n c k : ℕ) → 0 < c → n < 2 ^ (p + k) * c → drop p n c ≤ k
drop_le p n c k C h = spare (size (n / c)) p k (size-le (n / c) (p + k) ((div-lt_iff_lt-mul C).1 h))

-- a half of 2^drop is at most a half of 2^k
weaker : (c d e x y : ℕ) → d ≤ e → Off (c * d) x y → Off (c * e) x y
weaker c d e x y h o = let m : c * d ≤ c * e = mul-le-mul_left c h in (omega (arith, o.0), omega (arith, o.1))

regroup : (g u c x : ℕ) → Off (c * u) (2 * (g * (c * u))) x → Off (c * u) (2 * (g * u * c)) x
regroup g u c x o = (omega (arith, o.0), omega (arith, o.1))

pub round_half : (f : Format) (a c k : ℕ) → 0 < c → a * 2 ^ low f < 2 ^ (prec f + k) * c → Off (c * 2 ^ k) (2 * (grid f a c * c)) (2 * (a * 2 ^ low f))
round_half f a c k C h =
    let n = a * 2 ^ low f in
    let d = drop (prec f) n c in
    weaker c (2 ^ d) (2 ^ k) (2 * (grid f a c * c)) (2 * n) (pow_mono (drop_le (prec f) n c k C h))
    (regroup (kept (prec f) n c) (2 ^ d) c (2 * n) (closest_half n (c * 2 ^ d) (mul-pos C (pow_pos d))))

-- ---- from 2^(prec - 1 + k) units to below twice as many: the nearest multiple of 2^k
pub round_step : (f : Format) (a c k : ℕ) → 0 < prec f → 0 < c → 2 ^ (prec f - 1 + k) * c ≤ a * 2 ^ low f → a * 2 ^ low f < 2 ^ (prec f + k) * c
    → grid f a c ≡ closest (a * 2 ^ low f) (c * 2 ^ k) * 2 ^ k
round_step f a c k P C l h =
    let n = a * 2 ^ low f in
    let digits : prec f - 1 + k < size (n / c) = size-gt (n / c) (prec f - 1 + k) ((le-div_iff_mul-le C).1 l) in
    ap (λ (d : ℕ). closest n (c * 2 ^ d) * 2 ^ d) (filled (size (n / c)) (prec f) k P digits (size-le (n / c) (prec f + k) ((div-lt_iff_lt-mul C).1 h)))
  where
    size-gt : (n j : ℕ) → 2 ^ j ≤ n → j < size n
    size-gt n j h = lt_of_not-le (λ (g : size n ≤ j). not-le_of_lt (lt_of_lt_of_le (size-lt n) (pow_mono g)) h)

-- ---- binary32, a fraction below 2^i
halve : (g n c e : ℕ) → Off (c * (2 * e)) (2 * g) (2 * n) → Off (c * e) g n
halve g n c e o = (omega (arith, o.0), omega (arith, o.1))

twice : (x y : ℕ) → x * (2 * y) ≡ 2 * (x * y)
twice x y = omega arith

in_units : (c x y z : ℕ) → z ≡ 16777216 * y → c * x * z ≡ 16777216 * (x * y) * c
in_units c x y z h = omega (arith, ap (λ (w : ℕ). c * x * w) h)

below_units : (i a c : ℕ) → a < c * 2 ^ i → a * 2 ^ 149 < 2 ^ (24 + (i + 125)) * c
below_units i a c h =
    subst (λ (z : ℕ). a * 2 ^ 149 < z)
    (in_units c (2 ^ i) (2 ^ 125) (2 ^ 149) refl
    ∙ ap (λ (z : ℕ). 2 ^ 24 * z * c) (sym (pow-add 2 i 125))
    ∙ ap (λ (z : ℕ). z * c) (sym (pow-add 2 24 (i + 125))))
    (mul-lt-mul_of_pos_right h (pow_pos 149))

pub round_near : (i a c : ℕ) → 0 < c → a < c * 2 ^ i → Off (c * (2 ^ i * 2 ^ 124)) (grid binary32 a c * c) (a * 2 ^ 149)
round_near i a c C h =
    halve (grid binary32 a c * c) (a * 2 ^ 149) c (2 ^ i * 2 ^ 124)
    (subst (λ (e : ℕ). Off (c * e) (2 * (grid binary32 a c * c)) (2 * (a * 2 ^ 149))) (pow-add 2 i 125 ∙ twice (2 ^ i) (2 ^ 124))
    (round_half binary32 a c (i + 125) C (below_units i a c h)))

-- below 2^i with i ≤ 126 it does not overflow
not_twice : (g a c x e u : ℕ) → 0 < c → a < c * x → u ≡ 33554432 * e → g * c ≤ a * u + c * (x * e) → g * c ≤ 2 * (x * u) * c
not_twice g a c x e u C h s o = omega (arith, mul-le-mul_right u (le_of_lt h), ap (λ (w : ℕ). c * x * w) s)

pub round_value : (i : ℕ) (s : Bool) (a c : ℕ) → i ≤ 126 → 0 < c → a < c * 2 ^ i → HasValue (round binary32 s a c) s (grid binary32 a c) (2 ^ 149)
round_value i s a c I C h =
    let g = grid binary32 a c in
    let m : g ≤ 2 * (2 ^ i * 2 ^ 149) = le_of_mul-le-mul_right (not_twice g a c (2 ^ i) (2 ^ 124) (2 ^ 149) C h refl (round_near i a c C h).0) C in
    let o : 2 * (2 ^ i * 2 ^ 149) < 2 ^ 277 = scaled (2 ^ i) (2 ^ 126) (2 ^ 149) (2 ^ 277) (pow_mono I) refl (lit< tt) in
    subst (λ (z : Float). HasValue z s g (2 ^ 149)) (sym (round_is binary32 s a c))
    (units_val binary32 s (kept 24 (a * 2 ^ 149) c) (drop 24 (a * 2 ^ 149) c) (lt_of_le_of_lt m o))
  where
    scaled : (x y u v : ℕ) → x ≤ y → v ≡ 4 * (y * u) → 0 < v → 2 * (x * u) < v
    scaled x y u v h e p = omega (arith, mul-le-mul_right u h)

-- ---- bounds of fractions

-- y / k is Q of U units, and Q / U off F / H by at most o units, n of which are no more than 1
in_fractions : (y k Q U F H o n : ℕ) → 0 < U → y * U ≡ Q * k → n * o ≤ U → Off (H * o) (Q * H) (F * U)
    → (n * (y * H) ≤ n * (F * k) + k * H) × (n * (F * k) ≤ n * (y * H) + k * H)
in_fractions y k Q U F H o n P v m h =
    let v : n * H * (y * U) ≡ n * H * (Q * k) = ap (λ (z : ℕ). n * H * z) v in
    let m : k * H * (n * o) ≤ k * H * U = mul-le-mul_left (k * H) m in (
      le_of_mul-le-mul_right {k = U} (omega (arith, v, m, mul-le-mul_left (n * k) h.0)) P,
      le_of_mul-le-mul_right {k = U} (omega (arith, v, m, mul-le-mul_left (n * k) h.1)) P,
    )

pub within_units : (y : Float) (q : Fraction) (Q U o n : ℕ) → 0 < U → 0 < q.denominator → n * o ≤ U → HasValue y q.negative Q U
    → Off (q.denominator * o) (Q * q.denominator) (q.numerator * U) → WithinOneOver n (value_of y) q
unfolding value_of
within_units nan q Q U o n P H m v h = absurd v
within_units (inf t) q Q U o n P H m v h = absurd v
within_units (fin t y k) q Q U o n P H m v h =
    let b = in_fractions (y * up k) (down k) Q U q.numerator q.denominator o n P v.1 m h in
    record { numbers = (down_pos k, H); signs = v.0; above = b.0; below = b.1 }

-- a bound is one by any smaller number too, and of any fraction that is written alike
past : (m n y t z : ℕ) → m ≤ n → n * (y + t) ≤ n * y + z → m * (y + t) ≤ m * y + z
past m n y t z l h = omega (arith, mul-le-mul_right t l)

less : (m n x y z : ℕ) → m ≤ n → n * x ≤ n * y + z → m * x ≤ m * y + z
less m n x y z l h = elim (either x y) [
  | inl k ↦ omega (arith, mul-le-mul_left m (le_of_lt k))
  | inr k ↦ subst (λ (w : ℕ). n * w ≤ n * y + z → m * w ≤ m * y + z) (rest x y k) (past m n y (x - y) z l) h
]

pub weaker_bound : (m n : ℕ) (p q : Fraction) → m ≤ n → WithinOneOver n p q → WithinOneOver m p q
weaker_bound m n p q l h = record {
  numbers = h.numbers;
  signs = h.signs;
  above = less m n (p.numerator * q.denominator) (q.numerator * p.denominator) (p.denominator * q.denominator) l h.above;
  below = less m n (q.numerator * p.denominator) (p.numerator * q.denominator) (p.denominator * q.denominator) l h.below;
}

pub written_alike : {n : ℕ} (p q r : Fraction) → r.negative ≡ q.negative → r.numerator ≡ q.numerator → r.denominator ≡ q.denominator
    → WithinOneOver n p q → WithinOneOver n p r
written_alike {n} p q r s a c h =
    let b = p.denominator in
    record {
      numbers = (h.numbers.0, subst (λ (z : ℕ). 0 < z) (sym c) h.numbers.1);
      signs = h.signs ∙ sym s;
      above = alike (λ x y. n * (p.numerator * y) ≤ n * (x * b) + b * y) h.above;
      below = alike (λ x y. n * (x * b) ≤ n * (p.numerator * y) + b * y) h.below;
    }
  where
    alike : (P : ℕ → ℕ → Type 0) → P q.numerator q.denominator → P r.numerator r.denominator
    alike P t = subst (λ (y : ℕ). P r.numerator y) (sym c) (subst (λ (x : ℕ). P x q.denominator) (sym a) t)
