-- At z = 0 a point is the near face's (document 02, C-17): "At z = 0, where A and B - A are finite, the section number equals A in value"; z is a zero
-- of either sign, and A, an f32, is finite where B - A is. The argument: a zero times a finite number is a zero, a zero may be added from either side,
-- and a zero plus an f32 is that f32 in value. Assumes nothing.
use Rattle.std.specs.Prelude.{◌≡◌, refl, Bool, true, false, ℕ, zero as nought, suc, ◌*◌, pos, T, Float}
use Rattle.std.proofs.Common.{sym, ap, ◌∙◌, subst, add_comm, mul_comm, arith, lt-ltb, le-ltb}
use Rattle.std.specs.Float.{nan, inf, fin, binary32}
use Rattle.std.specs.Float.Ieee.{up, down, round, sum, add, eq, fits}
use Rattle.std.specs.Float.Ieee.Bits.{is_true}
use Rattle.std.specs.Float.Ieee.Scale.{finite}
use Rattle.bits.specs.Zeros.{Zero, zero-product, zero_times, zero_plus, finite_right, zero_of_eq}
use Rattle.lane.specs.Floats.{◌⊕◌, ◌⊖◌, ◌⊗◌, zero}
use Rattle.points.specs.Points.{between}

-- ---- a zero may be added from either side
sum_either : (s t : Bool) (b c : ℕ) → sum binary32 s b t 0 c ≡ sum binary32 t 0 s b c
unfolding sum
sum_either true true b c = ap (λ (k : ℕ). round binary32 true k c) (add_comm b 0)
sum_either false false b c = ap (λ (k : ℕ). round binary32 false k c) (add_comm b 0)
sum_either true false nought c = refl
sum_either true false (suc b) c = rw (lt-ltb 0 (suc b) (omega arith), le-ltb (suc b) 0 (omega arith))
sum_either false true nought c = refl
sum_either false true (suc b) c = rw (lt-ltb 0 (suc b) (omega arith), le-ltb (suc b) 0 (omega arith))

zero_either : (x z : Float) → Zero z → x ⊕ z ≡ z ⊕ x
unfolding add
zero_either x nan h = absurd h
zero_either x (inf t) h = absurd h
zero_either nan (fin t m e) h = refl
zero_either (inf s) (fin t m e) h = refl
zero_either (fin s n d) (fin t m e) h =
    let b = n * up d * down e in
    let nothing = zero-product m (up e) (down d) h in
    ap (λ (k : ℕ). sum binary32 s b t k (down d * down e)) nothing
    ∙ sum_either s t b (down d * down e)
    ∙ ap (λ (c : ℕ). sum binary32 t 0 s b c) (mul_comm (down d) (down e))
    ∙ ap (λ (k : ℕ). sum binary32 t k s b (down e * down d)) (sym nothing)

-- ---- at z = 0
zero_is : zero ≡ fin false 0 (pos 0)
unfolding round
zero_is = refl

holds : {b : Bool} → b ≡ true → T b
holds e = subst T (sym e) tt

pub between_at_zero : (a b z : Float) → eq z zero ≡ true → fits binary32 a ≡ true → finite (b ⊖ a) ≡ true → eq (between a b z) a ≡ true
unfolding between
between_at_zero a b z n f h =
    let w = z ⊗ (b ⊖ a) in
    let nothing : Zero w = zero_times z (b ⊖ a) (zero_of_eq z (subst (λ (k : Float). eq z k ≡ true) zero_is n)) (holds h) in
    let same : eq (w ⊕ a) a ≡ true = is_true (eq (w ⊕ a) a) (zero_plus w a nothing (holds f) (finite_right b a (holds h))) in
    subst (λ (k : Float). eq k a ≡ true) (sym (zero_either a w nothing)) same
