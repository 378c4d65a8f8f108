-- For the proofs: nothing here must be believed.
-- `is_below` orders numbers strictly: of two that are not the same, one is below the other, and not both ways. And the choice that max and
-- min make, by what is asked. By cases. Assumes nothing.
use Rattle.std.specs.Prelude.{◌≡◌, refl, Bool, true, false, not, cond, ◌&&◌, ◌||◌, ℕ, ◌+◌, ◌*◌, ◌≤◌, ℤ, T, eqb, ltb, Float}
use Rattle.std.proofs.Common.{sym, ◌∙◌, true≢false, arith, T_not, ltb→lt, nltb→le}
use Rattle.std.specs.Float.{nan, inf, fin, binary32}
use Rattle.std.specs.Float.Ieee.{up, down, lt, is_nan, fits}
use Rattle.std.specs.Float.Ieee.Fits.{up_pos, down_pos, and_i, and_r, eq→eqb}
use Rattle.bits.specs.Zeros.{zero_factor}
use Rattle.bits.specs.Values.{same_value}
use Rattle.lane.specs.Lane.{is_plus_zero, is_minus_zero, is_below}

-- ---- of two that are not the same, one is below the other
both_zero : (m : ℕ) (e : ℤ) (n : ℕ) (d : ℤ) → m * up e * down d + n * up d * down e ≤ 0 → (m ≡ 0) × (n ≡ 0)
both_zero m e n d h = (
  zero_factor m (up e) (up_pos e) (zero_factor (m * up e) (down d) (down_pos d) (omega arith)),
  zero_factor n (up d) (up_pos d) (zero_factor (n * up d) (down e) (down_pos e) (omega arith)),
)

-- of one sign
same_sign : (s : Bool) (m : ℕ) (e : ℤ) (n : ℕ) (d : ℤ) → T (fits binary32 (fin s m e)) → T (fits binary32 (fin s n d))
    → T (not (ltb (m * up e * down d) (n * up d * down e))) → T (not (ltb (n * up d * down e) (m * up e * down d))) → fin s m e ≡ fin s n d
same_sign s m e n d p q g h =
    let a = m * up e * down d in
    let b = n * up d * down e in
    let u = nltb→le a b g in
    let v = nltb→le b a h in
    let w : a ≡ b = omega arith in
    same_value binary32 s m e n d p q w

not_or_l : (a b : Bool) → T (not (a || b)) → T (not a)
not_or_l false b h = tt
not_or_l true b h = elim h [ ]

not_or_r : (a b : Bool) → T (not (a || b)) → T (not b)
not_or_r false b h = h
not_or_r true b h = elim h [ ]

-- a negative number or -0 beside a positive one or +0
never : (m : ℕ) (e : ℤ) (n : ℕ) (d : ℤ) → T (not (ltb 0 (m * up e * down d + n * up d * down e) || (eqb m 0 && eqb n 0))) → ⊥
never m e n d h =
    let l = ltb 0 (m * up e * down d + n * up d * down e) in
    let z = both_zero m e n d (nltb→le 0 (m * up e * down d + n * up d * down e) (not_or_l l (eqb m 0 && eqb n 0) h)) in
    T_not (eqb m 0 && eqb n 0) (not_or_r l (eqb m 0 && eqb n 0) h) (and_i (eqb m 0) (eqb n 0) (eq→eqb z.0) (eq→eqb z.1))

pub apart : (a b : Float) → T (fits binary32 a) → T (fits binary32 b) → T (not (is_nan a)) → T (not (is_nan b))
    → T (not (is_below a b)) → T (not (is_below b a)) → a ≡ b
unfolding is_below lt is_nan
apart (inf true) (inf true) p q u v g h = refl
apart (inf true) (inf false) p q u v g h = absurd g
apart (inf false) (inf true) p q u v g h = absurd h
apart (inf false) (inf false) p q u v g h = refl
apart (inf true) (fin t n d) p q u v g h = absurd g
apart (inf false) (fin t n d) p q u v g h = absurd h
apart (fin s m e) (inf true) p q u v g h = absurd h
apart (fin s m e) (inf false) p q u v g h = absurd g
apart (fin true m e) (fin true n d) p q u v g h =
    same_sign true m e n d p q (not_or_l (ltb (m * up e * down d) (n * up d * down e)) (eqb n 0 && false) h)
    (not_or_l (ltb (n * up d * down e) (m * up e * down d)) (eqb m 0 && false) g)
apart (fin true m e) (fin false n d) p q u v g h = absurd (never m e n d g)
apart (fin false m e) (fin true n d) p q u v g h = absurd (never n d m e h)
apart (fin false m e) (fin false n d) p q u v g h =
    same_sign false m e n d p q (not_or_l (ltb (m * up e * down d) (n * up d * down e)) false g)
    (not_or_l (ltb (n * up d * down e) (m * up e * down d)) false h)
apart nan b p q u v g h = elim u [ ]
apart (inf false) nan p q u v g h = elim v [ ]
apart (inf true) nan p q u v g h = elim v [ ]
apart (fin s m e) nan p q u v g h = elim v [ ]

-- ---- and not both ways
one_way : (a b : ℕ) → T (ltb a b) → T (ltb b a) → ⊥
one_way a b g h =
    let u = ltb→lt a b g in
    let v = ltb→lt b a h in
    omega arith

or-none : (a b : Bool) → T (a || (b && false)) → T a
or-none true b h = tt
or-none false true h = h
or-none false false h = h

pub not_both : (a b : Float) → T (is_below a b) → T (is_below b a) → ⊥
unfolding is_below lt
not_both nan b g h = g
not_both (inf s) nan g h = h
not_both (inf true) (inf true) g h = g
not_both (inf true) (inf false) g h = h
not_both (inf false) (inf true) g h = g
not_both (inf false) (inf false) g h = g
not_both (inf true) (fin t n d) g h = and_r (is_minus_zero (fin t n d)) false h
not_both (inf false) (fin t n d) g h = g
not_both (fin s m e) nan g h = h
not_both (fin s m e) (inf true) g h = and_r (is_minus_zero (fin s m e)) false g
not_both (fin s m e) (inf false) g h = h
not_both (fin true m e) (fin true n d) g h =
    let a = m * up e * down d in
    let b = n * up d * down e in
    one_way b a (or-none (ltb b a) (eqb m 0) g) (or-none (ltb a b) (eqb n 0) h)
not_both (fin true m e) (fin false n d) g h = h
not_both (fin false m e) (fin true n d) g h = g
not_both (fin false m e) (fin false n d) g h =
    let a = m * up e * down d in
    let b = n * up d * down e in
    one_way a b (or-none (ltb a b) false g) (or-none (ltb b a) false h)

-- ---- the zeros that C-14 orders are numbers
pub plus_number : (x : Float) → T (is_plus_zero x) → is_nan x ≡ false
unfolding is_nan
plus_number nan h = absurd h
plus_number (inf s) h = refl
plus_number (fin s m e) h = refl

pub minus_number : (x : Float) → T (is_minus_zero x) → is_nan x ≡ false
unfolding is_nan
minus_number nan h = absurd h
minus_number (inf s) h = refl
minus_number (fin s m e) h = refl

pub is_nan_lem : (x : Float) → T (is_nan x) → x ≡ nan
unfolding is_nan
is_nan_lem nan h = refl
is_nan_lem (inf s) h = absurd h
is_nan_lem (fin s m e) h = absurd h

-- ---- the choice between a and b. p and q say whether a is NaN, and b; l is a comparison by <, z whether C-14's zeros stand there
pub moved : {X : Type 0} (p q l z : Bool) (a b : X) → (T z → q ≡ false)
    → cond p b (cond q a (cond (l || z) b a)) ≡ cond z b (cond p b (cond q a (cond l b a)))
moved true q l true a b h = refl
moved true q l false a b h = refl
moved false true l true a b h = absurd (true≢false (h tt))
moved false false true true a b h = refl
moved false false false true a b h = refl
moved false true l false a b h = refl
moved false false true false a b h = refl
moved false false false false a b h = refl

-- l is the order's comparison, r the one with a and b exchanged
pub swapped : (a b : Float) (p q l r : Bool) → (T (not p) → T (not q) → T (not l) → T (not r) → a ≡ b) → (T l → T r → ⊥)
    → (T p → a ≡ nan) → (T q → b ≡ nan) → cond p b (cond q a (cond l b a)) ≡ cond q a (cond p b (cond r a b))
swapped a b true true l r same never x y = y tt ∙ sym (x tt)
swapped a b true false l r same never x y = refl
swapped a b false true l r same never x y = refl
swapped a b false false true true same never x y = absurd (never tt tt)
swapped a b false false true false same never x y = refl
swapped a b false false false true same never x y = refl
swapped a b false false false false same never x y = same tt tt tt tt
