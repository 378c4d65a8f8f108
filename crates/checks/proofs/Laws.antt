-- What a test in the code says of the test in the definition, and checks that follow one another. Assumes nothing.
use mathlib.Core.Path.{◌≡◌, refl, sym, ap, ◌∙◌}
use mathlib.Core.Bool.{Bool, true, false, cond, ◌&&◌}
use Prim.Native.Nat.{ℕ}
use lib.Dec.{leb}
use Rattle.std.proofs.Common.{arith}
use Rattle.std.proofs.lemmas.Bool.Decides.{nat_tests}
use Rattle.std.specs.Prelude.{Some}
use Rattle.std.specs.Ordering.{nat_cmp, partial_le, partial_lt}
use Rattle.setups.specs.Setup.{within}
use Rattle.voices.specs.Calls.{Check, fine, refused, ◌then◌}

-- `if !t(..) { return ..; }`
pub passes : {r t : Bool} → r ≡ true → r ≡ t → t ≡ true
passes l e = sym e ∙ l

pub fails : {r t : Bool} → r ≡ false → r ≡ t → t ≡ false
fails l e = sym e ∙ l

-- `(low..=high).contains(&n)`, of a range that has not been walked
le_is : (x y : ℕ) → partial_le (λ (a b : ℕ). Some (nat_cmp a b)) x y ≡ leb x y
le_is x y = grind (arith, nat_tests)

pub inside : {r spent : Bool} {start end low high : ℕ} (n : ℕ) → start ≡ low → end ≡ high → spent ≡ false
    → r ≡ partial_le (λ (a b : ℕ). Some (nat_cmp a b)) start n
    && cond spent (partial_lt (λ (a b : ℕ). Some (nat_cmp a b)) n end) (partial_le (λ (a b : ℕ). Some (nat_cmp a b)) n end)
    → within low high n ≡ r
inside {low = low} {high = high} n e f g h = sym (h ∙ rw (e, f, g, le_is low n, le_is n high))

-- checks that follow a refusal, and that follow none
pub after_refused : (a c : Check) {k : ℕ} → a ≡ refused k → a then c ≡ refused k
unfolding ◌then◌
after_refused a c e = ap (λ (x : Check). x then c) e

pub after_fine : (a c : Check) → a ≡ fine → a then c ≡ c
unfolding ◌then◌
after_fine a c e = ap (λ (x : Check). x then c) e

then_assoc : (a b c : Check) → (a then b) then c ≡ a then b then c
unfolding ◌then◌
then_assoc fine b c = refl
then_assoc (refused k) b c = refl

pub after_two_refused : (a b c : Check) {k : ℕ} → a then b ≡ refused k → a then b then c ≡ refused k
after_two_refused a b c e = sym (then_assoc a b c) ∙ after_refused (a then b) c e

pub after_two_fine : (a b c : Check) → a then b ≡ fine → a then b then c ≡ c
after_two_fine a b c e = sym (then_assoc a b c) ∙ after_fine (a then b) c e

pub third_refused : (a b f c : Check) {k : ℕ} → a then b ≡ fine → f ≡ refused k → a then b then f then c ≡ refused k
third_refused a b f c e h = after_two_fine a b (f then c) e ∙ after_refused f c h

pub after_three_fine : (a b f c : Check) → a then b ≡ fine → f ≡ fine → a then b then f then c ≡ c
after_three_fine a b f c e h = after_two_fine a b (f then c) e ∙ after_fine f c h
