-- `digits_of` meets its contract: a normal number has 24 digits, and a subnormal one is shifted until it has. Assumes nothing.
use Rattle.std.proofs.Common.{◌≡◌, ℕ, ◌+◌, ◌-◌, ◌*◌, ◌%◌, ◌^◌, ◌<◌, ◌≤◌, sym, ap, ◌∙◌, subst, mod-eq_of_lt, arith, rules}
use lib.Count.{count_leading_zeros}
use Rattle.sqrt.specs.Root.{root_units}
use Rattle.sqrt.proofs.Cases.{normal_case, Normalized, normalize, small_case}
use Rattle.sqrt.proofs.digits_of.Goals as goal

whole : {b k : ℕ} → Normalized b k → b * 2 ^ k % 18446744073709551616 ≡ b * 2 ^ k
whole {b} {k} v = mod-eq_of_lt (wide (b * 2 ^ k) v.most)
  where
    wide : (a : ℕ) → a < 16777216 → a < 18446744073709551616
    wide a h = omega arith

small : (c : goal.Else-b-ge8388608) → (8 ≤ count_leading_zeros 32 c.args.b) × Normalized c.args.b (count_leading_zeros 32 c.args.b - 8)
small c = normalize c.args.b (search rules) (search rules)

pub returns : goal.returns
returns c =
    let b = c.args.b in
    let k = count_leading_zeros 32 b - 8 in
    let v = (small c).1 in
    let w = whole v in
    let l = v.low in
    let h = v.high in
    record {
      least = subst (λ (z : ℕ). 8388608 ≤ z) (sym w) v.least;
      most = subst (λ (z : ℕ). z < 16777216) (sym w) v.most;
      low = omega arith;
      high = omega arith;
      is = small_case b k (search rules) (search rules) h ∙ ap (λ (z : ℕ). root_units (z * 2 ^ (128 - k + 21))) (sym w);
    }

pub returns-then-b-ge8388608 : goal.returns-then-b-ge8388608
returns-then-b-ge8388608 c = let b = c.args.b in record { least = omega arith; most = omega arith; low = omega arith; high = omega arith; is = normal_case b (search rules) (search rules) }

pub overflow_sub-k : goal.overflow_sub-k
overflow_sub-k c = (small c).0

pub overflow_cast-result-3 : goal.overflow_cast-result-3
overflow_cast-result-3 c = let h = (small c).1.high in omega arith

pub overflow_shl-result : goal.overflow_shl-result
overflow_shl-result c = let h = (small c).1.high in omega arith

pub overflow_sub-result : goal.overflow_sub-result
overflow_sub-result c = let h = (small c).1.high in omega arith
