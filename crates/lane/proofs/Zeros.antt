-- -0 by its pattern, 2 ^ 31, which no other number has; and that it is not +0. Assumes nothing.
use mathlib.Core.Path.{◌≡◌, refl, sym, ap, ◌∙◌, subst}
use mathlib.Core.Bool.{Bool, true, false, true≢false}
use Prim.Native.Nat.{ℕ, ◌*◌}
use native.Mathlib.Nat.{zero-mul, mul-one}
use lib.IntN.{pos}
use lib.Dec.{T, eqb, eqb→eq, not_T}
use lib.Ieee.{Float, nan, inf, fin, binary32, up, down, fits, of_bits, to_bits}
use lib.Ieee.Bits.{is_true, is_false, of_bits-to_bits}
use lib.Ieee.Fits.{eq→eqb}
use Rattle.bits.specs.Values.{same_pattern, zero-fits}
use Rattle.lane.specs.Lane.{is_plus_zero, is_minus_zero}
use Rattle.lane.specs.Order.{zero_of}

minus_is : to_bits binary32 (zero_of true) ≡ 2147483648
unfolding to_bits
minus_is = refl

has_pattern : (x : Float) → T (is_minus_zero x) → to_bits binary32 x ≡ 2147483648
has_pattern nan h = absurd h
has_pattern (inf s) h = absurd h
has_pattern (fin false m e) h = absurd h
has_pattern (fin true m e) h =
    let z : m * up e ≡ 0 = ap (λ (k : ℕ). k * up e) (eqb→eq m 0 h) ∙ zero-mul (up e) in
    same_pattern binary32 true m e 0 (pos 0) (mul-one (m * up e) ∙ z ∙ sym (zero-mul (down e))) ∙ minus_is

alone : (x : Float) → T (fits binary32 x) → to_bits binary32 x ≡ 2147483648 → T (is_minus_zero x)
alone x h e =
    subst (λ (y : Float). T (is_minus_zero y))
    (sym (sym (of_bits-to_bits binary32 x h) ∙ ap (of_bits binary32) (e ∙ sym minus_is) ∙ of_bits-to_bits binary32 (zero_of true) (zero-fits binary32 true))) tt

pub minus_pattern : (x : Float) → T (fits binary32 x) → eqb (to_bits binary32 x) 2147483648 ≡ is_minus_zero x
minus_pattern x h = go (is_minus_zero x) (has_pattern x) (alone x h)
  where
    go : (b : Bool) → (T b → to_bits binary32 x ≡ 2147483648) → (to_bits binary32 x ≡ 2147483648 → T b) → eqb (to_bits binary32 x) 2147483648 ≡ b
    go true f g = is_true (eqb (to_bits binary32 x) 2147483648) (eq→eqb (f tt))
    go false f g =
        is_false (eqb (to_bits binary32 x) 2147483648)
        (not_T (eqb (to_bits binary32 x) 2147483648) (λ (t : T (eqb (to_bits binary32 x) 2147483648)). g (eqb→eq (to_bits binary32 x) 2147483648 t)))

pub not_plus : (x : Float) → is_minus_zero x ≡ true → is_plus_zero x ≡ false
not_plus nan h = refl
not_plus (inf s) h = refl
not_plus (fin true m e) h = refl
not_plus (fin false m e) h = absurd (true≢false (sym h))
