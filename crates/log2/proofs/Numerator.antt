-- The numerator (e + 23) * 2 ^ 20 + F as the code has it, without a sign: k * 2 ^ 20 + F - 126 * 2 ^ 20 with k = e + 149. By the sign of e + 23.
-- Assumes nothing.
use mathlib.Core.Path.{◌≡◌, refl, sym, ap, ◌∙◌}
use mathlib.Core.Bool.{Bool, true, false, cond}
use Prim.Native.Nat.{ℕ, suc, ◌+◌, ◌-◌, ◌*◌, ◌≤◌, ◌<◌}
use native.Mathlib.Omega.{arith}
use lib.Dec.{leb}
use lib.IntN.{ℤ, pos, negsuc, neg_ℤ, sub_ℕ, ◌+ℤ◌, ◌*ℤ◌}
use lib.Ieee.{minus}
use borrow.Author.Tests.{leb-true, leb-false, le-leb, lt-leb, le-ltb, lt-ltb}

-- a difference by its sign
pub minus_ge : (a b : ℕ) → b ≤ a → minus a b ≡ pos (a - b)
minus_ge a b h = ap (λ (t : Bool). cond t (pos (a - b)) (negsuc (b - suc a))) (le-leb b a h)

pub minus_lt : (a b : ℕ) → a < b → minus a b ≡ negsuc (b - suc a)
minus_lt a b h = ap (λ (t : Bool). cond t (pos (a - b)) (negsuc (b - suc a))) (lt-leb b a h)

sub_ge : (a b : ℕ) → b ≤ a → sub_ℕ a b ≡ pos (a - b)
sub_ge a b h = ap (λ (t : Bool). cond t (negsuc (b - suc a)) (pos (a - b))) (le-ltb a b h)

sub_lt : (a b : ℕ) → a < b → sub_ℕ a b ≡ negsuc (b - suc a)
sub_lt a b h = ap (λ (t : Bool). cond t (negsuc (b - suc a)) (pos (a - b))) (lt-ltb a b h)

-- e + 149 is k
pub numerator : (k F : ℕ) → k < 149 → F < 1048576 → (minus k 149 +ℤ pos 23) *ℤ pos 1048576 +ℤ pos F ≡ minus (k * 1048576 + F) 132120576
numerator k F h f = ap (λ (z : ℤ). (z +ℤ pos 23) *ℤ pos 1048576 +ℤ pos F) (minus_lt k 149 h) ∙ go (leb 126 k) refl
  where
    go : (t : Bool) → leb 126 k ≡ t → sub_ℕ 23 (suc (149 - suc k)) *ℤ pos 1048576 +ℤ pos F ≡ minus (k * 1048576 + F) 132120576
    go true e =
        let g = leb-true 126 k e in
        let d : (23 - suc (149 - suc k)) * 1048576 + F ≡ k * 1048576 + F - 132120576 = omega arith in
        ap (λ (z : ℤ). z *ℤ pos 1048576 +ℤ pos F) (sub_ge 23 (suc (149 - suc k)) (omega arith)) ∙ ap pos d ∙ sym (minus_ge (k * 1048576 + F) 132120576 (omega arith))
    go false e =
        let g = leb-false 126 k e in
        let n = suc (149 - suc k) - 24 in
        let p : suc n * 1048576 ≡ suc (suc n * 1048576 - 1) = omega arith in
        let d : suc (suc n * 1048576 - 1) - suc F ≡ 132120576 - suc (k * 1048576 + F) = omega arith in
        ap (λ (z : ℤ). z *ℤ pos 1048576 +ℤ pos F) (sub_lt 23 (suc (149 - suc k)) (omega arith))
        ∙ ap (λ (z : ℕ). neg_ℤ (pos z) +ℤ pos F) p
        ∙ sub_lt F (suc (suc n * 1048576 - 1)) (omega arith)
        ∙ ap negsuc d
        ∙ sym (minus_lt (k * 1048576 + F) 132120576 (omega arith))
