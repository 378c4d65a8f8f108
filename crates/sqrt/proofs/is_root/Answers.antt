-- `is_root` meets its contract: a pattern that n and the pattern of 1/2 make. Assumes nothing.
use Rattle.std.proofs.Common.{◌≡◌, ℕ, ◌+◌, ◌%◌, ◌<◌, T, sym, subst, arith, rules}
use lib.Ieee.{binary32, fits}
use lib.Ieee.Bits.{to_bits-lt}
use Rattle.sqrt.proofs.is_root.Goals as goal
use Rattle.sqrt.proofs.is_root.Goals.{Start}

-- what owning an `f32` tells: the format holds it
held : (c : Start) → T (fits binary32 c.args.r)
held c = subst T (sym c.well_formed.1.0.1) tt

-- 3238002688 is 2 ^ 32 less the pattern of 1/2
joined : (p : ℕ) → p < 4294967296 → (p + 3238002688) % 4294967296 < 16777216 → p ≡ 1056964608 + (p + 3238002688) % 4294967296
joined p a b = omega arith

pub returns-then-not-is_nan : goal.returns-then-not-is_nan
returns-then-not-is_nan c e =
    let v = c.is_nearest.ensures e in
    record {
      n = _;
      nearest = v;
      number = search rules;
      pattern = joined _ (to_bits-lt binary32 c.args.r (held c.before.before.before)) v.high;
    }
