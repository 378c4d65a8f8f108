-- The opening figure meets the document's rule, since `isqrt` gives the largest root; beyond 1,023 each of its eight digits is 1.
-- And one digit more of it, as the code's loop makes it. Assumes nothing.
use Rattle.std.proofs.Common.{◌≡◌, ℕ, zero, suc, ◌+◌, ◌-◌, ◌*◌, ◌/◌, ◌^◌, ◌<◌, ◌≤◌, Bool, true, false, cond, leb, sym, refl, ap, ◌∙◌, subst, pow-suc, arith, pow_mono, pow-add, le-leb}
use native.Mathlib.Nat.{div-div-eq-div-mul}
use Rattle.sqrt.specs.Root.{digit, isqrt}
use Rattle.sqrt.specs.Opening.{opening_of, MeetsRule, Beyond}
use Rattle.sqrt.proofs.Isqrt.{isqrt_floor}

pub opening_rule : MeetsRule
unfolding opening_of
opening_rule j h = let f = isqrt_floor 8 (64 * j) (omega arith) in record { square = f.0; next = f.1 }

-- ---- d digits
small : (d n : ℕ) → isqrt d n + 1 ≤ 2 ^ d
unfolding isqrt
small zero n = omega arith
small (suc d) n = subst (λ (z : ℕ). digit n (isqrt d (n / 4)) + 1 ≤ z) (sym (pow-suc 2 d)) (go (isqrt d (n / 4)) (2 ^ d) (small d (n / 4)))
  where
    go : (r p : ℕ) → r + 1 ≤ p → digit n r + 1 ≤ p * 2
    go r p h = by (leb ((2 * r + 1) * (2 * r + 1)) n)
      where
        by : (b : Bool) → cond b (2 * r + 1) (2 * r) + 1 ≤ p * 2
        by true = omega arith
        by false = omega arith

pub digits_small : (d n : ℕ) → d ≤ 8 → isqrt d n < 256
digits_small d n h = let s = small d n in let p = pow_mono {j = 8} h in omega arith

pub opening_small : (j : ℕ) → opening_of j < 256
unfolding opening_of
opening_small j = digits_small 8 (64 * j) (omega arith)

-- all of them 1, where n has more
full : (d n : ℕ) → 4 ^ d ≤ n → isqrt d n + 1 ≡ 2 ^ d
unfolding isqrt
full zero n h = refl
full (suc d) n h =
    let p = 2 ^ d in
    let i : isqrt d (n / 4) + 1 ≡ p = full d (n / 4) (quarter (4 ^ d) (subst (λ (z : ℕ). z ≤ n) (pow-suc 4 d) h)) in
    ap (λ (b : Bool). cond b (2 * isqrt d (n / 4) + 1) (2 * isqrt d (n / 4)) + 1) (le-leb _ n (under (isqrt d (n / 4)) p i (squares d)))
    ∙ twice (isqrt d (n / 4)) p i
    ∙ sym (pow-suc 2 d)
  where
    quarter : (p : ℕ) → p * 4 ≤ n → p ≤ n / 4
    quarter p h = omega arith

    squares : (d : ℕ) → 4 ^ d ≡ 2 ^ d * 2 ^ d
    squares zero = refl
    squares (suc d) = pow-suc 4 d ∙ again (4 ^ d) (2 ^ d) (squares d) ∙ sym (ap (λ (z : ℕ). z * z) (pow-suc 2 d))
      where
        again : (a p : ℕ) → a ≡ p * p → a * 4 ≡ p * 2 * (p * 2)
        again a p h = omega arith

    under : (r p : ℕ) → r + 1 ≡ p → 4 ^ d ≡ p * p → (2 * r + 1) * (2 * r + 1) ≤ n
    under r p i s = below (4 ^ d) r (s ∙ sym (ap (λ (z : ℕ). z * z) i)) (subst (λ (z : ℕ). z ≤ n) (pow-suc 4 d) h)
      where
        below : (q r : ℕ) → q ≡ (r + 1) * (r + 1) → q * 4 ≤ n → (2 * r + 1) * (2 * r + 1) ≤ n
        below q r e l = omega arith

    twice : (r p : ℕ) → r + 1 ≡ p → 2 * r + 1 + 1 ≡ p * 2
    twice r p i = omega arith

pub opening_beyond : Beyond
unfolding opening_of
opening_beyond j h = let e = full 8 (64 * j) (omega arith) in omega arith

-- ---- the code's loop: k digits are left, and the square's last 2k digits
fewer : (s k : ℕ) → 0 < k → s / 2 ^ (2 * (k - 1)) / 4 ≡ s / 2 ^ (2 * k)
fewer s k h =
    div-div-eq-div-mul s (2 ^ (2 * (k - 1))) 4
    ∙ ap (λ (z : ℕ). s / z) (sym (pow-add 2 (2 * (k - 1)) 2) ∙ ap (λ (z : ℕ). 2 ^ z) (omega arith))

pub one_more : (s n k : ℕ) → 0 < k → k ≤ 8 → n ≡ isqrt (8 - k) (s / 2 ^ (2 * k))
    → digit (s / 2 ^ (2 * (k - 1))) n ≡ isqrt (8 - (k - 1)) (s / 2 ^ (2 * (k - 1)))
unfolding isqrt
one_more s n k a b h =
    let t = s / 2 ^ (2 * (k - 1)) in
    ap (digit t) (h ∙ ap (isqrt (8 - k)) (sym (fewer s k a))) ∙ ap (λ (d : ℕ). isqrt d t) (counted a b)
  where
    counted : 0 < k → k ≤ 8 → suc (8 - k) ≡ 8 - (k - 1)
    counted a b = omega arith
