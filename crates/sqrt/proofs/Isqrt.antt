-- `isqrt` is the whole part of the root, digit by digit, and `root_units` of m * 4 ^ k is r * 2 ^ k units for the whole r nearest √m.
-- The whole part of √(m * 4 ^ k) begins with the digits of the whole part of √m, so the definition drops k digits. Assumes nothing.
use Rattle.std.proofs.Common.{◌≡◌, ℕ, zero, suc, ◌+◌, ◌-◌, ◌*◌, ◌/◌, ◌%◌, ◌^◌, ◌<◌, ◌≤◌, Bool, true, false, cond, leb, sym, refl, ap, ◌∙◌, subst, le_trans, le_of_eq, lt_of_lt_of_le, le_of_suc-le-suc, lt_irrefl, mul-le-mul_right, mod-eq_of_lt, mul_assoc, mul-le-mul, mul-lt-mul_of_pos_right, mul-pos, lt_of_not-le, add-one, arith, pow_pos, pow_mono, pow-add, shl_lt, le-ltb, lt-ltb, leb-false, leb-true}
use native.Mathlib.Nat.{div-eq_of_lt-le, pow-succ'}
use lib.Ieee.{size, odd}
use lib.Ieee.Digits.{size-lt, size-le}
use Rattle.sqrt.specs.Root.{digit, isqrt, closer, root_units}
use Rattle.sqrt.specs.Inner.{NearestWhole}

-- r is the whole part of √n
abbrev pub Floor : ℕ → ℕ → Type 0
Floor n r = (r * r ≤ n) × (n < (r + 1) * (r + 1))

step : (n r : ℕ) → Floor (n / 4) r → Floor n (digit n r)
step n r h = go (leb ((2 * r + 1) * (2 * r + 1)) n) refl
  where
    go : (b : Bool) → leb ((2 * r + 1) * (2 * r + 1)) n ≡ b → Floor n (cond b (2 * r + 1) (2 * r))
    go true t = let k = leb-true ((2 * r + 1) * (2 * r + 1)) n t in (k, omega arith)
    go false t = let k = leb-false ((2 * r + 1) * (2 * r + 1)) n t in (omega arith, k)

quarter : (n p : ℕ) → n < 4 * p → n / 4 < p
quarter n p h = omega arith

one : (n : ℕ) → n < 1 → n < (0 + 1) * (0 + 1)
one n h = omega arith

none : (n : ℕ) → 0 ≤ n
none n = omega arith

pub isqrt_floor : (d n : ℕ) → n < 4 ^ d → Floor n (isqrt d n)
unfolding isqrt
isqrt_floor zero n h = (none n, h)
isqrt_floor (suc d) n h = step n (isqrt d (n / 4)) (isqrt_floor d (n / 4) (quarter n (4 ^ d) (subst (λ (z : ℕ). n < z) (pow-succ' 4 d) h)))

-- ---- the root of m * (P * P) has the root of m above, and something below P
not_under : (m q P s : ℕ) → q * q ≤ m → m * (P * P) < (s + 1) * (s + 1) → suc s ≤ q * P → ⊥
not_under m q P s f g h = omega (arith, mul-le-mul h h, mul-le-mul_right (P * P) f)

not_over : (m q P s : ℕ) → 0 < P → m < (q + 1) * (q + 1) → s * s ≤ m * (P * P) → (q + 1) * P ≤ s → ⊥
not_over m q P s pp f g h = omega (arith, mul-le-mul h h, mul-lt-mul_of_pos_right f (mul-pos pp pp))

lower : (m q P s : ℕ) → Floor m q → Floor (m * (P * P)) s → q * P ≤ s
lower m q P s f g = le_of_suc-le-suc (lt_of_not-le (not_under m q P s f.0 g.1))

upper : (m q P s : ℕ) → 0 < P → Floor m q → Floor (m * (P * P)) s → s < (q + 1) * P
upper m q P s pp f g = lt_of_not-le (not_over m q P s pp f.1 g.0)

-- ---- so the f32 drops k digits where q has 24
between : (k z : ℕ) → 23 + k < z → z ≤ 24 + k → z - 24 ≡ k
between k z a b = omega arith

dropped : (q k s : ℕ) → 8388608 ≤ q → q < 16777216 → q * 2 ^ k ≤ s → s < (q + 1) * 2 ^ k → size s - 24 ≡ k
dropped q k s a b l u =
    let lo : 2 ^ (23 + k) ≤ s = le_trans (le_of_eq (pow-add 2 23 k)) (le_trans (mul-le-mul_right (2 ^ k) a) l) in
    let hi : s < 2 ^ (24 + k) = lt_of_lt_of_le u (le_trans (mul-le-mul_right (2 ^ k) (up b)) (le_of_eq (sym (pow-add 2 24 k)))) in
    between k (size s) (lt_of_not-le (λ (h : size s ≤ 23 + k). lt_irrefl s (lt_of_lt_of_le (size-lt s) (le_trans (pow_mono h) lo)))) (size-le s (24 + k) hi)
  where
    up : q < 16777216 → q + 1 ≤ 16777216
    up h = omega arith

-- ---- which of q and q + 1 is closer
stay : (m k q : ℕ) → m ≤ q * (q + 1) → closer (m * (2 ^ k * 2 ^ k)) k q ≡ q
stay m k q h =
    let P = 2 ^ k in
    let t : 4 * (m * (P * P)) < (2 * q + 1) * P * ((2 * q + 1) * P) = under P (pow_pos k) in
    ap (λ (b : Bool). cond b q (suc q)) (lt-ltb _ _ t)
  where
    less : m ≤ q * (q + 1) → 4 * m < (2 * q + 1) * (2 * q + 1)
    less h = omega arith

    under : (P : ℕ) → 0 < P → 4 * (m * (P * P)) < (2 * q + 1) * P * ((2 * q + 1) * P)
    under P pp = omega (arith, mul-lt-mul_of_pos_right (less h) (mul-pos pp pp))

move : (m k q : ℕ) → (q + 1) * q < m → closer (m * (2 ^ k * 2 ^ k)) k q ≡ suc q
move m k q h =
    let P = 2 ^ k in
    let t : (2 * q + 1) * P * ((2 * q + 1) * P) ≤ 4 * (m * (P * P)) = over P in
    ap (λ (b : Bool). cond b q (suc q)) (le-ltb _ _ t)
  where
    less : (q + 1) * q < m → (2 * q + 1) * (2 * q + 1) ≤ 4 * m
    less h = omega arith

    over : (P : ℕ) → (2 * q + 1) * P * ((2 * q + 1) * P) ≤ 4 * (m * (P * P))
    over P = omega (arith, mul-le-mul_right (P * P) (less h))

-- ---- the definition's f32
units_is : (n k q : ℕ) → size (isqrt 213 n) - 24 ≡ k → isqrt 213 n / 2 ^ k ≡ q → root_units n ≡ odd 24 false (closer n k q) k 149
unfolding root_units
units_is n k q a b =
    ap (λ (z : ℕ). odd 24 false (closer n z (isqrt 213 n / 2 ^ z)) z 149) a ∙ ap (λ (z : ℕ). odd 24 false (closer n k z) k 149) b

by_floor : (m k q : ℕ) → 8388608 ≤ q → q < 16777216 → Floor m q → m * (2 ^ k * 2 ^ k) < 4 ^ 213 → root_units (m * (2 ^ k * 2 ^ k)) ≡ odd 24 false (closer (m * (2 ^ k * 2 ^ k)) k q) k 149
by_floor m k q a b f h =
    let P = 2 ^ k in
    let s = isqrt 213 (m * (P * P)) in
    let g = isqrt_floor 213 (m * (P * P)) h in
    let l = lower m q P s f g in
    let u = upper m q P s (pow_pos k) f g in
    units_is (m * (P * P)) k q (dropped q k s a b l u) (div-eq_of_lt-le P l u)

-- the definition at m * 4 ^ k, where r is nearest √m
pub root_is : (m k r : ℕ) → 70368744177664 ≤ m → NearestWhole m r → m * (2 ^ k * 2 ^ k) < 4 ^ 213 → root_units (m * (2 ^ k * 2 ^ k)) ≡ odd 24 false r k 149
root_is m k r M v h = go (leb (r * r) m) refl
  where
    floor_same : r * r ≤ m → Floor m r
    floor_same l = (l, after v.below)
      where
        after : m ≤ r * (r + 1) → m < (r + 1) * (r + 1)
        after w = omega arith

    pred_low : m < r * r → 8388608 ≤ r - 1
    pred_low l = lt_of_not-le {m = 8388607} (λ (w : r - 1 ≤ 8388607). clash (up w))
      where
        up : r - 1 ≤ 8388607 → r ≤ 8388608
        up w = omega arith

        clash : r ≤ 8388608 → ⊥
        clash w = omega (arith, mul-le-mul w w)

    back : suc (r - 1) ≡ r
    back = let l = v.low in omega arith

    go : (b : Bool) → leb (r * r) m ≡ b → root_units (m * (2 ^ k * 2 ^ k)) ≡ odd 24 false r k 149
    go true t =
        by_floor m k r v.low v.high (floor_same (leb-true (r * r) m t)) h ∙ ap (λ (z : ℕ). odd 24 false z k 149) (stay m k r v.below)
    go false t =
        let l = leb-false (r * r) m t in
        let q = r - 1 in
        let e : q + 1 ≡ r = add-one q ∙ back in
        let w : (q + 1) * q < m = subst (λ (z : ℕ). z * q < m) (sym e) v.above in
        let f : Floor m q = (under q w, subst (λ (z : ℕ). m < z * z) (sym e) l) in
        by_floor m k q (pred_low l) (small v.high) f h ∙ ap (λ (z : ℕ). odd 24 false z k 149) (move m k q w ∙ back)
      where
        under : (q : ℕ) → (q + 1) * q < m → q * q ≤ m
        under q w = omega arith

        small : r < 16777216 → r - 1 < 16777216
        small w = omega arith

-- ---- m * 2 ^ (e + 21) as M * 4 ^ (e / 2 - 1), M of 47 or 48 digits: by the parity of e
joined : (m a k c : ℕ) → a + (k + k) ≡ c → m * 2 ^ a * (2 ^ k * 2 ^ k) ≡ m * 2 ^ c
joined m a k c h =
    mul_assoc m (2 ^ a) (2 ^ k * 2 ^ k) ∙ ap (λ (z : ℕ). m * (2 ^ a * z)) (sym (pow-add 2 k k)) ∙ ap (λ (z : ℕ). m * z) (sym (pow-add 2 a (k + k)) ∙ ap (λ (z : ℕ). 2 ^ z) h)

pub record Split (m e M : ℕ) : Type 0 where
  pub low : 70368744177664 ≤ M
  pub high : M ≤ 281474959933440
  pub is : M * (2 ^ (e / 2 - 1) * 2 ^ (e / 2 - 1)) ≡ m * 2 ^ (e + 21)

pub split : (m e : ℕ) → 8388608 ≤ m → m < 16777216 → 105 ≤ e → Split m e (m * 2 ^ (23 + e % 2))
split m e a b c = record { low = (go (e % 2) (omega arith)).0; high = (go (e % 2) (omega arith)).1; is = joined m (23 + e % 2) (e / 2 - 1) (e + 21) (omega arith) }
  where
    go : (p : ℕ) → p < 2 → (70368744177664 ≤ m * 2 ^ (23 + p)) × (m * 2 ^ (23 + p) ≤ 281474959933440)
    go zero h = (omega arith, omega arith)
    go (suc zero) h = (omega arith, omega arith)
    go (suc (suc p)) h = absurd (omega arith)

-- and the shift that makes M loses no digit
pub split_whole : {m e M : ℕ} → Split m e M → M % 18446744073709551616 ≡ M
split_whole {M = M} p = mod-eq_of_lt (wide M p.high)
  where
    wide : (a : ℕ) → a ≤ 281474959933440 → a < 18446744073709551616
    wide a h = omega arith

pub scaled_root : (m e M r : ℕ) → m < 16777216 → e ≤ 381 → Split m e M → NearestWhole M r → root_units (m * 2 ^ (e + 21)) ≡ odd 24 false r (e / 2 - 1) 149
scaled_root m e M r a b p v = ap root_units (sym p.is) ∙ root_is M (e / 2 - 1) r p.low v (subst (λ (z : ℕ). z < 4 ^ 213) (sym p.is) (lt_of_lt_of_le (shl_lt 24 (e + 21) a) (pow_mono {j = 426} (omega arith))))
