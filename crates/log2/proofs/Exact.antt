-- log2's answer is exact: its numerator has fewer than 24 digits and its denominator is 2 ^ 20, so `round` changes nothing. Assumes nothing.
use mathlib.Core.Path.{sym, ap, ◌∙◌, subst}
use mathlib.Core.Bool.{Bool, true, false, cond}
use Prim.Native.Nat.{ℕ, suc, ◌+◌, ◌-◌, ◌*◌, ◌/◌, ◌%◌, ◌^◌, ◌≤◌, ◌<◌}
use native.Mathlib.Nat.{mul_assoc, mul_right_comm, eq_of_mul-eq-mul_right, lt_of_lt_of_le}
use native.Mathlib.Omega.{arith}
use lib.Dec.{leb}
use lib.IntN.{ℤ, pos, negsuc}
use lib.Pow.{pow_pos, pow-add, pow_mono, shl_lt}
use lib.Ieee.{Float, nan, inf, fin, binary32, up, down, minus, round, to_bits}
use lib.Ieee.Digits.{minus_val}
use lib.Ieee.Exact.{HasValue, round_exact}
use Rattle.log2.specs.Log2.{rounds, quotient, log_of}
use Rattle.log2.specs.Exact.{IsQuotient, LogIsExact}
use Rattle.log2.proofs.Rounds.{rounds_lt}
use Rattle.log2.proofs.Window.{window, log_is}
use Rattle.log2.proofs.Numerator.{numerator}

-- a whole number of fewer than 24 digits over 2 ^ 20
over_exact : (s : Bool) (n : ℕ) → n < 16777216 → HasValue (round binary32 s n 1048576) s n 1048576
over_exact s n h =
    round_exact binary32 s n 1048576 n 129 (omega arith) h (lt_of_lt_of_le (shl_lt 24 129 h) (pow_mono {i = 153} {j = 277} (omega arith)))
    (ap (λ (z : ℕ). n * z) (pow-add 2 129 20) ∙ sym (mul_assoc n (2 ^ 129) (2 ^ 20)))

quotient_exact : (v : ℕ) → 125829120 ≤ v → v ≤ 138412032 → IsQuotient (quotient (minus v 132120576) 1048576) (minus v 132120576) 1048576
quotient_exact v a b = go (leb 132120576 v)
  where
    go : (t : Bool) → IsQuotient (quotient (cond t (pos (v - 132120576)) (negsuc (132120576 - suc v))) 1048576) (cond t (pos (v - 132120576)) (negsuc (132120576 - suc v))) 1048576
    go true = over_exact false (v - 132120576) (omega arith)
    go false = over_exact true (suc (132120576 - suc v)) (omega arith)

-- X units are m * 2 ^ e, e = k - 149
by_exponent : (x : Float) (m k : ℕ) → HasValue x false (m * 2 ^ k) (2 ^ 149) → HasValue x false (m * up (minus k 149)) (down (minus k 149))
by_exponent nan m k v = v
by_exponent (inf t) m k v = v
by_exponent (fin t n d) m k v = let e = minus k 149 in (
  v.0,
  eq_of_mul-eq-mul_right (2 ^ 149) (pow_pos 149) (n * up d * down e) (m * up e * down d)
      (mul_right_comm (n * up d) (down e) (2 ^ 149)
      ∙ ap (λ (z : ℕ). z * down e) v.1
      ∙ mul_right_comm (m * 2 ^ k) (down d) (down e)
      ∙ ap (λ (z : ℕ). z * down d) (sym (minus_val m k 149))
      ∙ mul_right_comm (m * up e) (2 ^ 149) (down d)),
)

-- the answer is ((e + 23) * 2 ^ 20 + F) / 2 ^ 20 itself
pub log2_exact : LogIsExact
log2_exact q f l g =
    let b = to_bits binary32 q in
    let w = window q f l g in
    let lo = w.low in
    let hi = w.high in
    let m = 8388608 + b % 8388608 in
    let k = b / 8388608 - 1 in
    let F = rounds 20 (128 * m) 0 in
    let F-lt : F < 1048576 = rounds_lt 20 (128 * m) 0 in
    record {
      m = m;
      e = minus k 149;
      low = omega arith;
      high = omega arith;
      q-is = by_exponent q m k w.value;
      log_is =
          subst (λ (z : ℤ). IsQuotient (log_of q) z 1048576) (sym (numerator k F (omega arith) F-lt))
          (subst (λ (x : Float). IsQuotient x (minus (k * 1048576 + F) 132120576) 1048576) (sym (log_is q b l g w)) (quotient_exact (k * 1048576 + F) (omega arith) (omega arith)));
    }
