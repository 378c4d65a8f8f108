-- The figure that the root opens from, and its rule (document 01, Floats, Square root; document 02, C-13).
-- The two claims at the end are proved in proofs/OpeningRule.antt (`opening_rule`, `opening_beyond`). Assumes nothing.
use Rattle.std.specs.Prelude.{◌≡◌, ℕ, ◌+◌, ◌*◌, ◌<◌, ◌≤◌}
use Rattle.sqrt.specs.Root.{isqrt}

-- n is the largest whole number with n * n ≤ 64 * j
pub record Opens (j n : ℕ) : Type 0 where
  pub square : n * n ≤ 64 * j
  pub next : 64 * j < (n + 1) * (n + 1)

-- of eight binary digits: 64 * 1023 is below 4 ^ 8
unfoldable pub opening_of : ℕ → ℕ
unfolding isqrt
opening_of j = isqrt 8 (64 * j)

-- C-13: for each j from 0 to 1,023 it is document 01's n
abbrev pub MeetsRule : Type 0
MeetsRule = (j : ℕ) → j < 1024 → Opens j (opening_of j)

-- what it is for a larger j
abbrev pub Beyond : Type 0
Beyond = (j : ℕ) → 1024 ≤ j → opening_of j ≡ 255
