-- The rounds of log2: the code's digit, s / 2 ^ 31, makes the same round as the definition's test, and k rounds give k digits. Assumes nothing.
use mathlib.Core.Path.{◌≡◌, refl, sym, ap, ◌∙◌, subst}
use mathlib.Core.Bool.{Bool, true, false, cond}
use Prim.Native.Nat.{ℕ, zero, suc, ◌+◌, ◌-◌, ◌*◌, ◌/◌, ◌^◌, ◌≤◌, ◌<◌}
use native.Mathlib.Nat.{mul-le-mul, mul-le-mul_left, mul_left_comm, mul_assoc, div-one, pow-succ', le_trans, le_of_eq, lt_of_lt_of_le}
use native.Mathlib.Numerals.{add-one}
use native.Mathlib.Omega.{arith}
use lib.Dec.{leb}
use lib.Pow.{pow_mono}
use borrow.Author.Tests.{leb-true, leb-false}
use Rattle.log2.specs.Log2.{rounds}

pub square : (r : ℕ) → r < 2147483648 → r * r ≤ 4611686014132420609
square r h = mul-le-mul (le h) (le h)
  where
    le : r < 2147483648 → r ≤ 2147483647
    le h = omega arith

-- what holds after i rounds: F has i digits at most, and the rounds that are left give the answer
abbrev pub Carried : ℕ → ℕ → ℕ → ℕ → Type 0
Carried m r F i = (r < 2147483648) × (F < 2 ^ i) × (rounds (20 - i) r F ≡ rounds 20 (128 * m) 0)

pub small : (F i : ℕ) → i ≤ 20 → F < 2 ^ i → F < 1048576
small F i h g = lt_of_lt_of_le g (pow_mono {j = 20} h)

halved : (s b : ℕ) → b ≡ s / 2147483648 → s < 4294967296 → s / 2 ^ b < 2147483648
halved s zero e h = omega arith
halved s (suc zero) e h = omega arith
halved s (suc (suc b)) e h = omega arith

-- a round by its digit: s is below 2 ^ 32
round_r : (s : ℕ) → s < 4294967296 → s / 2 ^ (s / 2147483648) ≡ cond (leb 2147483648 s) (s / 2) s
round_r s h = go (leb 2147483648 s) refl
  where
    go : (t : Bool) → leb 2147483648 s ≡ t → s / 2 ^ (s / 2147483648) ≡ cond t (s / 2) s
    go true e = let k = leb-true 2147483648 s e in let d : s / 2147483648 ≡ 1 = omega arith in ap (λ (z : ℕ). s / 2 ^ z) d
    go false e = let k = leb-false 2147483648 s e in let d : s / 2147483648 ≡ 0 = omega arith in ap (λ (z : ℕ). s / 2 ^ z) d ∙ div-one s

round_f : (s F : ℕ) → s < 4294967296 → 2 * F + s / 2147483648 ≡ cond (leb 2147483648 s) (2 * F + 1) (2 * F)
round_f s F h = go (leb 2147483648 s) refl
  where
    go : (t : Bool) → leb 2147483648 s ≡ t → 2 * F + s / 2147483648 ≡ cond t (2 * F + 1) (2 * F)
    go true e = let k = leb-true 2147483648 s e in omega arith
    go false e = let k = leb-false 2147483648 s e in omega arith

one_round : (k r F : ℕ) → r * r / 1073741824 < 4294967296
    → rounds k (r * r / 1073741824 / 2 ^ (r * r / 1073741824 / 2147483648)) (2 * F + r * r / 1073741824 / 2147483648) ≡ rounds (suc k) r F
unfolding rounds
one_round k r F h = let s = r * r / 1073741824 in λ i. rounds k (round_r s h i) (round_f s F h i)

pub again : (m r F i : ℕ) → i < 20 → Carried m r F i → Carried m (r * r / 1073741824 / 2 ^ (r * r / 1073741824 / 2147483648)) (2 * F + r * r / 1073741824 / 2147483648) (i + 1)
again m r F i h v =
    let s = r * r / 1073741824 in
    let b = s / 2147483648 in
    let s-lt : s < 4294967296 = omega (arith, square r v.0) in
    let b-le : b ≤ 1 = omega arith in
    let p : 2 ^ (i + 1) ≡ 2 * 2 ^ i = ap (λ (z : ℕ). 2 ^ z) (add-one i) ∙ pow-succ' 2 i in
    let n : 20 - i ≡ suc (20 - (i + 1)) = omega arith in (
      halved s b refl s-lt,
      more F b (2 ^ i) (2 ^ (i + 1)) b-le v.1 p,
      one_round (20 - (i + 1)) r F s-lt ∙ ap (λ (z : ℕ). rounds z r F) (sym n) ∙ v.2,
    )
  where
    more : (F b x y : ℕ) → b ≤ 1 → F < x → y ≡ 2 * x → 2 * F + b < y
    more F b x y h g e = omega arith

pub done : (m r F i : ℕ) → i ≤ 20 → 20 ≤ i → Carried m r F i → (F ≡ rounds 20 (128 * m) 0) × (F < 1048576)
unfolding rounds
done m r F i g h v = let n : 20 - i ≡ 0 = omega arith in (ap (λ (z : ℕ). rounds z r F) (sym n) ∙ v.2, small F i g v.1)

-- k rounds append k digits to F
pub rounds_lt : (k r F : ℕ) → rounds k r F < 2 ^ k * (F + 1)
unfolding rounds
rounds_lt zero r F = omega arith
rounds_lt (suc k) r F =
    let s = r * r / 1073741824 in
    let G = cond (leb 2147483648 s) (2 * F + 1) (2 * F) in
    lt_of_lt_of_le (rounds_lt k (cond (leb 2147483648 s) (s / 2) s) G) (grown (leb 2147483648 s))
  where
    twice : (p G : ℕ) → G ≤ 2 * F + 1 → p * (G + 1) ≤ 2 * p * (F + 1)
    twice p G h = let l : G + 1 ≤ 2 * (F + 1) = omega arith in le_trans (mul-le-mul_left p l) (le_of_eq (mul_left_comm p 2 (F + 1) ∙ sym (mul_assoc 2 p (F + 1))))

    grown : (t : Bool) → 2 ^ k * (cond t (2 * F + 1) (2 * F) + 1) ≤ 2 ^ suc k * (F + 1)
    grown t = subst (λ (z : ℕ). 2 ^ k * (cond t (2 * F + 1) (2 * F) + 1) ≤ z * (F + 1)) (sym (pow-succ' 2 k)) (twice (2 ^ k) (cond t (2 * F + 1) (2 * F)) (most t))
      where
        most : (t : Bool) → cond t (2 * F + 1) (2 * F) ≤ 2 * F + 1
        most true = omega arith
        most false = omega arith
