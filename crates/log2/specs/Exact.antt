-- The claim that log2's answer is exact: no rounding happens. Proved in proofs/Exact.antt (`log2_exact`). Assumes nothing.
use Rattle.std.specs.Prelude.{ℕ, suc, ◌*◌, ◌^◌, ◌≤◌, ◌<◌, false, true, ℤ, pos, negsuc, ◌+ℤ◌, ◌*ℤ◌, T, Float}
use Rattle.std.specs.Float.{binary32}
use Rattle.std.specs.Float.Ieee.{up, down, fits, le, lt}
use Rattle.std.specs.Float.Ieee.Exact.{HasValue}
use Rattle.log2.specs.Log2.{rounds, log_of, sixty_fourth, sixty_four}

-- x is finite and exactly z / d
abbrev pub IsQuotient : Float → ℤ → ℕ → Type 0
IsQuotient x (pos n) d = HasValue x false n d
IsQuotient x (negsuc n) d = HasValue x true (suc n) d

-- q is m * 2 ^ e with a whole m of 24 digits, and its log2 is exactly ((e + 23) * 2 ^ 20 + F) / 2 ^ 20. (2 ^ e is up e / down e.)
pub record ExactLog (q : Float) : Type 0 where
  pub m : ℕ
  pub e : ℤ
  pub low : 2 ^ 23 ≤ m
  pub high : m < 2 ^ 24
  pub q-is : HasValue q false (m * up e) (down e)
  pub log_is : IsQuotient (log_of q) ((e +ℤ pos 23) *ℤ pos (2 ^ 20) +ℤ pos (rounds 20 (128 * m) 0)) (2 ^ 20)

-- for every f32 from 1 / 64 up and below 64
abbrev pub LogIsExact : Type 0
LogIsExact = (q : Float) → T (fits binary32 q) → T (le sixty_fourth q) → T (lt q sixty_four) → ExactLog q
