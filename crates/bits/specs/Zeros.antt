-- For the proofs: nothing here must be believed.
-- Zeros in binary32's arithmetic: a zero times a finite number is a zero, and a zero plus an f32 is that f32 in value. Assumes nothing.
use Rattle.std.specs.Prelude.{◌≡◌, refl, ◌⊎◌, Bool, true, false, not, cond, ◌&&◌, ◌||◌, ℕ, zero, suc, ◌+◌, ◌-◌, ◌*◌, ◌%◌, ◌^◌, ◌≤◌, ◌<◌, ℤ, pos, negsuc, T, leb, ltb, eqb, Float}
use Rattle.std.proofs.Common.{sym, ap, ◌∙◌, subst, inl, inr, lt_irrefl, eq-zero-or-pos, zero-mul, mul-one, mul_comm, mul_assoc, mul-pos, mul-lt-mul_of_pos_right, lt_of_mul-lt-mul_right, lt_of_not-le, not-le_of_lt, le_of_suc-le-suc, arith, ltb→lt, nltb→le, leb→le, eqb→eq, lit<, pow-add, pow_pos}
use Rattle.std.specs.Bool.{beq}
use Rattle.std.proofs.Math.Pow.{pow-lt}
use Rattle.std.specs.Float.{nan, inf, fin, binary32}
use Rattle.std.specs.Float.Ieee.{up, down, unlike, round, sum, add, sub, mul, neg, eq, fits}
use Rattle.std.specs.Float.Ieee.Bits.{is_true}
use Rattle.std.specs.Float.Ieee.Fits.{up_pos, down_pos, and_i, and_l, and_r, eq→eqb}
use Rattle.std.specs.Float.Ieee.Exact.{HasValue, round_exact}
use Rattle.std.specs.Float.Ieee.Scale.{round_same, finite}

-- a zero of either sign
abbrev pub Zero : Float → Type 0
Zero nan = ⊥
Zero (inf s) = ⊥
Zero (fin s m e) = m ≡ 0

-- ---- a zero times a finite number
pub zero_factor : (a b : ℕ) → 0 < b → a * b ≡ 0 → a ≡ 0
zero_factor a b B h = elim (eq-zero-or-pos a) [ inl z ↦ z | inr p ↦ absurd (lt_irrefl 0 (subst (λ (k : ℕ). 0 < k) h (mul-pos p B))) ]

zero_of_value : (x : Float) (s : Bool) (c : ℕ) → 0 < c → HasValue x s 0 c → Zero x
zero_of_value nan s c C h = absurd h
zero_of_value (inf t) s c C h = absurd h
zero_of_value (fin t m e) s c C h = zero_factor m (up e) (up_pos e) (zero_factor (m * up e) c C (h.1 ∙ zero-mul (down e)))

pub round-zero : (s : Bool) (a c : ℕ) → 0 < c → a ≡ 0 → Zero (round binary32 s a c)
round-zero s a c C z = subst (λ (k : ℕ). Zero (round binary32 s k c)) (sym z)
    (zero_of_value (round binary32 s 0 c) s c C (round_exact binary32 s 0 c 0 0 C (lit< tt) (lit< tt) (sym (zero-mul c))))

pub zero-product : (a b c : ℕ) → a ≡ 0 → a * b * c ≡ 0
zero-product a b c z = ap (λ (k : ℕ). k * b * c) z ∙ ap (λ (k : ℕ). k * c) (zero-mul b) ∙ zero-mul c

pub zero_times : (x y : Float) → Zero x → T (finite y) → Zero (mul binary32 x y)
unfolding mul
zero_times nan y z h = absurd z
zero_times (inf s) y z h = absurd z
zero_times (fin s m e) nan z h = absurd h
zero_times (fin s m e) (inf t) z h = absurd h
zero_times (fin s m e) (fin t n d) z h =
    round-zero (unlike s t) (m * up e * (n * up d)) (down e * down d) (mul-pos (down_pos e) (down_pos d)) (zero-product m (up e) (n * up d) z)

-- ---- an f32 rounds to itself
fits_says : (s : Bool) (m : ℕ) (e : ℤ) → T (fits binary32 (fin s (suc m) e))
    → (suc m < 2 ^ 24) × (down e ≤ 2 ^ 149) × (suc m * up e < 2 ^ 128 * down e)
unfolding fits
fits_says s m e t =
    let a : Bool = eqb (suc m % 2) 1 in
    let b : Bool = ltb (suc m) (2 ^ 24) in
    let c : Bool = leb (down e) (2 ^ 149) in
    let d : Bool = ltb (suc m * up e) (2 ^ 128 * down e) in (
      ltb→lt (suc m) (2 ^ 24) (and_r a b (and_l (a && b) c (and_l (a && b && c) d t))),
      leb→le (down e) (2 ^ 149) (and_r (a && b) c (and_l (a && b && c) d t)),
      ltb→lt (suc m * up e) (2 ^ 128 * down e) (and_r (a && b && c) d t),
    )

-- what is below 2^t is below 2^(l + t) in units of 2^-l: m 2^k here, and m 2^-k in `small_lt`
large_lt : (m k l t : ℕ) → m * 2 ^ k < 2 ^ t → m * 2 ^ (k + l) < 2 ^ (l + t)
large_lt m k l t h = rw (pow-add 2 k l, pow-add 2 l t, mul_comm (2 ^ l) (2 ^ t), ← mul_assoc m (2 ^ k) (2 ^ l)) (mul-lt-mul_of_pos_right h (pow_pos l))

exponent_le : (k l : ℕ) → 2 ^ k ≤ 2 ^ l → k ≤ l
exponent_le k l h = le_of_suc-le-suc (lt_of_not-le (λ (g : suc l ≤ k). not-le_of_lt (pow-lt g) h))

rest : (k l : ℕ) → k ≤ l → l - k + k ≡ l
rest k l h = omega arith

small : (m k l : ℕ) → k ≤ l → m * 2 ^ (l - k) * 2 ^ k ≡ m * 2 ^ l
small m k l h = mul_assoc m (2 ^ (l - k)) (2 ^ k) ∙ ap (λ (z : ℕ). m * z) (sym (pow-add 2 (l - k) k) ∙ ap (λ (z : ℕ). 2 ^ z) (rest k l h))

small_lt : (m k l t : ℕ) → k ≤ l → m < 2 ^ t * 2 ^ k → m * 2 ^ (l - k) < 2 ^ (l + t)
small_lt m k l t h g =
    lt_of_mul-lt-mul_right (2 ^ k)
    (rw (small m k l h, pow-add 2 l t, mul_assoc (2 ^ l) (2 ^ t) (2 ^ k), mul_comm (2 ^ l) (2 ^ t * 2 ^ k)) (mul-lt-mul_of_pos_right g (pow_pos l)))

round_itself : (s t : Bool) (m : ℕ) (e : ℤ) → T (fits binary32 (fin s m e)) → HasValue (round binary32 t (m * up e) (down e)) t (m * up e) (down e)
round_itself s t zero e h = round_exact binary32 t (0 * up e) (down e) 0 0 (down_pos e) (lit< tt) (lit< tt)
    (ap (λ (z : ℕ). z * 2 ^ 149) (zero-mul (up e)) ∙ sym (zero-mul (down e)))
round_itself s t (suc m) (pos k) h =
    let f = fits_says s m (pos k) h in
    let g : suc m * 2 ^ k < 2 ^ 128 = rw (mul-one) at f.2 in
    round_exact binary32 t (suc m * 2 ^ k) 1 (suc m) (k + 149) (lit< tt) f.0 (large_lt (suc m) k 149 128 g)
    (rw (pow-add 2 k 149, mul-one) (mul_assoc (suc m) (2 ^ k) (2 ^ 149)))
round_itself s t (suc m) (negsuc k) h =
    let f = fits_says s m (negsuc k) h in
    let l : suc k ≤ 149 = exponent_le (suc k) 149 f.1 in
    let g : suc m < 2 ^ 128 * 2 ^ suc k = rw (mul-one) at f.2 in
    round_exact binary32 t (suc m * 1) (2 ^ suc k) (suc m) (149 - suc k) (pow_pos (suc k)) f.0 (small_lt (suc m) (suc k) 149 128 l g)
    (ap (λ (z : ℕ). z * 2 ^ 149) (mul-one (suc m)) ∙ sym (small (suc m) (suc k) 149 l))

-- ---- a zero plus an f32
pub alike : (a b : Bool) → T (beq a b) → a ≡ b
alike true true t = refl
alike true false t = absurd t
alike false true t = absurd t
alike false false t = refl

or_l : (a b : Bool) → T a → T (a || b)
or_l true b t = tt
or_l false b t = absurd t

pub or_r : (a b : Bool) → T b → T (a || b)
or_r true b t = tt
or_r false b t = t

beq_refl : (a : Bool) → T (beq a a)
beq_refl true = tt
beq_refl false = tt

-- of equal size, and of one sign or zero
equal_value : (x : Float) (t s : Bool) (n : ℕ) (d : ℤ) → HasValue x t (n * up d) (down d) → (t ≡ s) ⊎ (n * up d ≡ 0) → T (eq x (fin s n d))
unfolding eq
equal_value nan t s n d h k = absurd h
equal_value (inf u) t s n d h k = absurd h
equal_value (fin u m e) t s n d h k =
    and_i (eqb (m * up e * down d) (n * up d * down e)) (beq u s || eqb (m * up e * down d) 0) (eq→eqb h.1)
    (elim k [
      | inl p ↦ or_l (beq u s) (eqb (m * up e * down d) 0) (subst (λ (b : Bool). T (beq u b)) (h.0 ∙ p) (beq_refl u))
      | inr z ↦ or_r (beq u s) (eqb (m * up e * down d) 0) (eq→eqb (h.1 ∙ ap (λ (b : ℕ). b * down e) z ∙ zero-mul (down e)))
    ])

-- A is the zero's part of the sum, B the other's
sum-zero : (t s : Bool) (n : ℕ) (d : ℤ) (A B c : ℕ) → 0 < c → A ≡ 0 → B ≡ n * up d * c → T (fits binary32 (fin s n d))
    → T (eq (sum binary32 t A s B (c * down d)) (fin s n d))
unfolding sum
sum-zero t s n d A B c C z b f = go (beq t s) (ltb A B) (alike t s) (nltb→le A B)
  where
    has : (u : Bool) (k : ℕ) → k ≡ B → HasValue (round binary32 u k (c * down d)) u (n * up d) (down d)
    has u k e =
        subst (λ (x : Float). HasValue x u (n * up d) (down d))
        (sym (round_same binary32 u k (c * down d) (n * up d) (down d) (mul-pos C (down_pos d)) (down_pos d)
        (ap (λ (x : ℕ). x * down d) (e ∙ b) ∙ mul_assoc (n * up d) c (down d))))
        (round_itself s u n d f)

    both : A + B ≡ B
    both = omega arith

    other : B - A ≡ B
    other = omega arith

    neither : B ≤ A → (A - B ≡ B) × (B ≡ 0)
    neither h = (omega arith, omega arith)

    go : (a l : Bool) → (T a → t ≡ s) → (T (not l) → B ≤ A)
        → T (eq
        (cond a (round binary32 t (A + B) (c * down d))
        (cond l (round binary32 s (B - A) (c * down d)) (round binary32 (t && ltb B A) (A - B) (c * down d))))
        (fin s n d))
    go true l h g = equal_value (round binary32 t (A + B) (c * down d)) t s n d (has t (A + B) both) (inl (h tt))
    go false true h g = equal_value (round binary32 s (B - A) (c * down d)) s s n d (has s (B - A) other) (inl refl)
    go false false h g =
        let u = t && ltb B A in
        let e = neither (g tt) in
        equal_value (round binary32 u (A - B) (c * down d)) u s n d (has u (A - B) e.0) (inr (zero_factor (n * up d) c C (sym b ∙ e.1)))

pub zero_plus : (z x : Float) → Zero z → T (fits binary32 x) → T (finite x) → T (eq (add binary32 z x) x)
unfolding add
zero_plus nan x z f h = absurd z
zero_plus (inf s) x z f h = absurd z
zero_plus (fin t m e) nan z f h = absurd h
zero_plus (fin t m e) (inf s) z f h = absurd h
zero_plus (fin t m e) (fin s n d) z f h =
    sum-zero t s n d (m * up e * down d) (n * up d * down e) (down e) (down_pos e) (zero-product m (up e) (down d) z) refl f

-- a difference is finite only where what it takes away is
pub finite_right : (x y : Float) → T (finite (sub binary32 x y)) → T (finite y)
unfolding sub add neg
finite_right nan y h = absurd h
finite_right (inf s) nan h = absurd h
finite_right (inf true) (inf true) h = absurd h
finite_right (inf true) (inf false) h = absurd h
finite_right (inf false) (inf true) h = absurd h
finite_right (inf false) (inf false) h = absurd h
finite_right (inf s) (fin t n d) h = tt
finite_right (fin s m e) nan h = absurd h
finite_right (fin s m e) (inf t) h = absurd h
finite_right (fin s m e) (fin t n d) h = tt

-- ---- `Zero` as Rust's comparison with zero has it
pub zero_of_eq : (x : Float) → eq x (fin false 0 (pos 0)) ≡ true → Zero x
unfolding eq
zero_of_eq nan h = let z : ◌≡◌ {A = ℕ} 0 1 = cc in omega arith
zero_of_eq (inf s) h = let z : ◌≡◌ {A = ℕ} 0 1 = cc in omega arith
zero_of_eq (fin s m e) h =
    zero_factor m (up e) (up_pos e)
    (sym (mul-one (m * up e))
    ∙ eqb→eq (m * up e * 1) (0 * 1 * down e)
    (and_l (eqb (m * up e * 1) (0 * 1 * down e)) (beq s false || eqb (m * up e * 1) 0) (subst T (sym h) tt))
    ∙ zero-mul (down e))

pub eq_of_zero : (x : Float) → Zero x → eq x (fin false 0 (pos 0)) ≡ true
unfolding eq
eq_of_zero nan z = absurd z
eq_of_zero (inf s) z = absurd z
eq_of_zero (fin s m e) z =
    let a : m * up e * 1 ≡ 0 = zero-product m (up e) 1 z in
    is_true (eqb (m * up e * 1) (0 * 1 * down e) && (beq s false || eqb (m * up e * 1) 0))
    (and_i (eqb (m * up e * 1) (0 * 1 * down e)) (beq s false || eqb (m * up e * 1) 0) (eq→eqb (a ∙ sym (zero-mul (down e))))
    (or_r (beq s false) (eqb (m * up e * 1) 0) (eq→eqb a)))
