-- `guess` stays in its range: the last step takes a remainder by 2 ^ 23. The pattern of g, at most 1,031 * 2 ^ 52, is no NaN's. Assumes nothing.
use Rattle.std.proofs.Common.{ℕ, ◌+◌, ◌*◌, ◌<◌, sym, subst, arith}
use lib.Ieee.{binary64}
use Rattle.bits.specs.Patterns.{plain_in}
use Rattle.sqrt.proofs.OpeningRule.{opening_small}
use Rattle.sqrt.proofs.guess.Goals as goal

small : (c : goal.After-opening-n) → c.opening-n.result < 256
small c = subst (λ (n : ℕ). n < 256) (sym c.opening-n.ensures) (opening_small _)

pub overflow_mul-g : goal.overflow_mul-g
overflow_mul-g c = record { fits = let h = small c in omega arith }

pub overflow_add-g : goal.overflow_add-g
overflow_add-g c = record { fits = let h = small c in omega arith }

pub float_from_bits-g : goal.float_from_bits-g
float_from_bits-g c = plain_in binary64 (c.opening-n.result * 35184372088832 + 4634226006796795904) (let h = small c in omega arith)
