-- For the proofs: nothing here must be believed.
-- What log2's last step gives. Definitions only. Assumes nothing.
use Rattle.std.specs.Prelude.{ℕ, Float}
use Rattle.std.specs.Float.Ieee.{minus}
use Rattle.log2.specs.Log2.{quotient}

-- (v - 126 * 2 ^ 20) / 2 ^ 20
abbrev pub offset : ℕ → Float
offset v = quotient (minus v 132120576) 1048576
