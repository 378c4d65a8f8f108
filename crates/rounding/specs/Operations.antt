-- For the proofs: nothing here must be believed.
-- An operation on finite numbers is one rounding: of the sum, product or quotient of their values, whatever fractions those are written as. Assumes nothing.
use Rattle.std.specs.Prelude.{◌≡◌, refl, Bool, true, false, cond, ℕ, ◌+◌, ◌*◌, ◌^◌, ◌≤◌, ◌<◌, ℤ, T, eqb, Float}
use Rattle.std.proofs.Common.{sym, ap, ◌∙◌, subst, inl, inr, mul-pos, eq-zero-or-pos, arith, eqb→eq}
use Rattle.std.specs.Float.{nan, inf, fin, Format, binary32}
use Rattle.std.specs.Float.Ieee.{up, down, unlike, round, sum, add, mul, div}
use Rattle.std.specs.Float.Ieee.Fits.{up_pos, down_pos}
use Rattle.std.specs.Float.Ieee.Exact.{HasValue}
use Rattle.std.specs.Float.Ieee.Scale.{grid, round_same}
use Rattle.rounding.specs.Rounding.{round_value}

-- x = ± a / c and y = ± b / d are written r m e and q n k
finite_both : (P : Float → Float → Type 0) (x y : Float) (s t : Bool) (a c b d : ℕ) → HasValue x s a c → HasValue y t b d
    → ((r : Bool) (m : ℕ) (e : ℤ) (q : Bool) (n : ℕ) (k : ℤ) → r ≡ s → q ≡ t → m * up e * c ≡ a * down e → n * up k * d ≡ b * down k
    → P (fin r m e) (fin q n k))
    → P x y
finite_both P nan y s t a c b d g h p = absurd g
finite_both P (inf r) y s t a c b d g h p = absurd g
finite_both P (fin r m e) nan s t a c b d g h p = absurd h
finite_both P (fin r m e) (inf q) s t a c b d g h p = absurd h
finite_both P (fin r m e) (fin q n k) s t a c b d g h p = p r m e q n k g.0 h.0 g.1 h.1

-- ---- a sum of two numbers of one sign, over one denominator
add_values : (x j y k a b c : ℕ) → x * c ≡ a * j → y * c ≡ b * k → (x * k + y * j) * c ≡ (a + b) * (j * k)
add_values x j y k a b c g h = omega (arith, ap (λ (z : ℕ). z * k) g, ap (λ (z : ℕ). z * j) h)

one_sign : (f : Format) (r q s : Bool) (x y w : ℕ) → r ≡ s → q ≡ s → sum f r x q y w ≡ round f s (x + y) w
unfolding sum
one_sign f true true s x y w p u = ap (λ (z : Bool). round f z (x + y) w) p
one_sign f false false s x y w p u = ap (λ (z : Bool). round f z (x + y) w) p
one_sign f true false s x y w p u = absurd (subst T (p ∙ sym u) tt)
one_sign f false true s x y w p u = absurd (subst T (u ∙ sym p) tt)

pub sum_rounds : (f : Format) (s : Bool) (x y : Float) (a b c : ℕ) → 0 < c → HasValue x s a c → HasValue y s b c → add f x y ≡ round f s (a + b) c
unfolding add
sum_rounds f s x y a b c C g h =
    finite_both (λ x y. add f x y ≡ round f s (a + b) c) x y s s a c b c g h
    (λ r m e q n k p u v w.
    one_sign f r q s (m * up e * down k) (n * up k * down e) (down e * down k) p u
    ∙ round_same f s (m * up e * down k + n * up k * down e) (down e * down k) (a + b) c (mul-pos (down_pos e) (down_pos k)) C
    (add_values (m * up e) (down e) (n * up k) (down k) a b c v w))

-- ---- a product
pub like_self : (s : Bool) → unlike s s ≡ false
like_self true = refl
like_self false = refl

pub like_plus : (s : Bool) → unlike s false ≡ s
like_plus true = refl
like_plus false = refl

-- equal fractions of equal signs
same_rounding : (f : Format) (r s q t : Bool) (a c b d : ℕ) → r ≡ s → q ≡ t → 0 < c → 0 < d → a * d ≡ b * c
    → round f (unlike r q) a c ≡ round f (unlike s t) b d
same_rounding f r s q t a c b d p u C D h =
    round_same f (unlike r q) a c b d C D h ∙ ap (λ (z : Bool). round f (unlike z q) b d) p ∙ ap (λ (z : Bool). round f (unlike s z) b d) u

mul_values : (x j y k a c b d : ℕ) → x * c ≡ a * j → y * d ≡ b * k → x * y * (c * d) ≡ a * b * (j * k)
mul_values x j y k a c b d g h = omega (arith, ap (λ (z : ℕ). z * (y * d)) g, ap (λ (z : ℕ). a * j * z) h)

pub product_rounds : (f : Format) (s t : Bool) (x y : Float) (a c b d : ℕ) → 0 < c → 0 < d → HasValue x s a c → HasValue y t b d
    → mul f x y ≡ round f (unlike s t) (a * b) (c * d)
unfolding mul
product_rounds f s t x y a c b d C D g h =
    finite_both (λ x y. mul f x y ≡ round f (unlike s t) (a * b) (c * d)) x y s t a c b d g h
    (λ r m e q n k p u v w.
    same_rounding f r s q t (m * up e * (n * up k)) (down e * down k) (a * b) (c * d) p u (mul-pos (down_pos e) (down_pos k)) (mul-pos C D)
    (mul_values (m * up e) (down e) (n * up k) (down k) a c b d v w))

-- ---- a quotient, its divisor no zero
div_values : (x j y k a c b d : ℕ) → x * c ≡ a * j → y * d ≡ b * k → x * k * (b * c) ≡ a * d * (y * j)
div_values x j y k a c b d g h = omega (arith, ap (λ (z : ℕ). z * (k * b)) g, ap (λ (z : ℕ). a * j * z) h)

no_zero : (n k d b w : ℕ) → n * k * d ≡ b * w → 0 < b → 0 < w → 0 < n
no_zero n k d b w h B W = elim (eq-zero-or-pos n) [
  | inl z ↦ let x : n * k * d ≡ 0 * k * d = ap (λ (v : ℕ). v * k * d) z in omega (arith, x, mul-pos B W)
  | inr p ↦ p
]

not_taken : (n : ℕ) (x y : Float) → 0 < n → cond (eqb n 0) x y ≡ y
not_taken n x y N = go (eqb n 0) (eqb→eq n 0)
  where
    go : (b : Bool) → (T b → n ≡ 0) → cond b x y ≡ y
    go true h = let z : n ≡ 0 = h tt in absurd (omega (arith, z))
    go false h = refl

pub quotient_rounds : (f : Format) (s t : Bool) (x y : Float) (a c b d : ℕ) → 0 < c → 0 < b → HasValue x s a c → HasValue y t b d
    → div f x y ≡ round f (unlike s t) (a * d) (b * c)
unfolding div
quotient_rounds f s t x y a c b d C B g h =
    finite_both (λ x y. div f x y ≡ round f (unlike s t) (a * d) (b * c)) x y s t a c b d g h
    (λ r m e q n k p u v w.
    let N = no_zero n (up k) d b (down k) w B (down_pos k) in
    not_taken n (cond (eqb m 0) nan (inf (unlike r q))) (round f (unlike r q) (m * up e * down k) (n * up k * down e)) N
    ∙ same_rounding f r s q t (m * up e * down k) (n * up k * down e) (a * d) (b * c) p u (mul-pos (mul-pos N (up_pos k)) (down_pos e)) (mul-pos B C)
    (div_values (m * up e) (down e) (n * up k) (down k) a c b d v w))

-- ---- an operation that is one rounding of a fraction below 2^i has its value, g units
pub operation_value : (i : ℕ) (x : Float) (s t : Bool) (a c g : ℕ) → g ≡ grid binary32 a c → x ≡ round binary32 s a c → s ≡ t
    → i ≤ 126 → 0 < c → a < c * 2 ^ i → HasValue x t g (2 ^ 149)
operation_value i x s t a c g k p b I C h =
    subst (λ (z : ℕ). HasValue x t z (2 ^ 149)) (sym k)
    (subst (λ (z : Float). HasValue z t (grid binary32 a c) (2 ^ 149)) (sym (p ∙ ap (λ (z : Bool). round binary32 z a c) b)) (round_value i t a c I C h))
