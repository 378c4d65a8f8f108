-- `opening` meets its contract: each turn of the loop makes one digit more of the definition's. Assumes nothing.
use Rattle.std.proofs.Common.{◌≡◌, ℕ, ◌+◌, ◌-◌, ◌*◌, ◌/◌, ◌^◌, ◌<◌, ◌≤◌, Bool, true, false, cond, leb, sym, refl, ap, ◌∙◌, subst, mul-le-mul, div-one, arith, rules, le-leb}
use borrow.Author.Tests.{lt-leb}
use Rattle.sqrt.specs.Root.{isqrt}
use Rattle.sqrt.specs.Opening.{opening_of}
use Rattle.sqrt.proofs.OpeningRule.{digits_small, one_more}
use Rattle.sqrt.proofs.opening.Goals as goal

-- n has at most eight digits
few : (n k t : ℕ) → n ≡ isqrt (8 - k) t → n < 256
few n k t e = subst (λ (z : ℕ). z < 256) (sym e) (digits_small (8 - k) t (omega arith))

square : (n : ℕ) → n < 256 → (2 * n + 1) * (2 * n + 1) < 18446744073709551616
square n h = let l : 2 * n + 1 ≤ 511 = omega arith in omega (arith, mul-le-mul l l)

pub loop-k-init : goal.loop-k-init
unfolding isqrt
loop-k-init c = refl

pub overflow_mul-next : goal.overflow_mul-next
overflow_mul-next c = let l = c.loop-k in let h = few l.n l.k _ l.invariant in record { fits = omega arith }

pub overflow_add-next : goal.overflow_add-next
overflow_add-next c = let l = c.loop-k in let h = few l.n l.k _ l.invariant in record { fits = omega arith }

pub overflow_mul-next-in-loop-k : goal.overflow_mul-next-in-loop-k
overflow_mul-next-in-loop-k c = let l = c.loop-k in let h = few l.n l.k _ l.invariant in record { fits = square l.n h }

pub overflow_mul-n : goal.overflow_mul-n
overflow_mul-n c = let l = c.loop-k in let h = few l.n l.k _ l.invariant in record { fits = omega arith }

-- a turn, by what the test said
turn : (s n k : ℕ) (b : Bool) → leb ((2 * n + 1) * (2 * n + 1)) (s / 2 ^ (2 * (k - 1))) ≡ b → 0 < k → k ≤ 8 → n ≡ isqrt (8 - k) (s / 2 ^ (2 * k))
    → cond b (2 * n + 1) (2 * n) ≡ isqrt (8 - (k - 1)) (s / 2 ^ (2 * (k - 1)))
turn s n k b t h g e = ap (λ (b : Bool). cond b (2 * n + 1) (2 * n)) (sym t) ∙ one_more s n k h g e

pub loop-k-preserved-then-next-square : goal.loop-k-preserved-then-next-square
loop-k-preserved-then-next-square c =
    let l = c.loop-k in
    let s = 64 * c.args.j in
    let t : (2 * l.n + 1) * (2 * l.n + 1) ≤ s / 2 ^ (2 * (l.k - 1)) = search rules in
    turn s l.n l.k true (le-leb _ _ t) (search rules) (search rules) l.invariant

pub loop-k-preserved : goal.loop-k-preserved
loop-k-preserved c =
    let l = c.loop-k in
    let s = 64 * c.args.j in
    let t : s / 2 ^ (2 * (l.k - 1)) < (2 * l.n + 1) * (2 * l.n + 1) = search rules in
    turn s l.n l.k false (lt-leb _ _ t) (search rules) (search rules) l.invariant

pub overflow_cast-result : goal.overflow_cast-result
overflow_cast-result c = let l = c.loop-k in let h = few l.n l.k _ l.invariant in record { fits = omega arith }

pub returns : goal.returns
unfolding opening_of
returns c =
    let l = c.loop-k in
    let s = 64 * c.args.j in
    let z : l.k ≡ 0 = search rules in
    l.invariant ∙ ap (λ (k : ℕ). isqrt (8 - k) (s / 2 ^ (2 * k))) z ∙ ap (isqrt 8) (div-one s)
