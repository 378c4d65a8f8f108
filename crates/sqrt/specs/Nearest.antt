-- What it means to be the f32 nearest a root, in whole numbers, and the claim that `root_of` is it. Proved in proofs/Nearest.antt (`root_nearest`).
-- Assumes nothing.
use Rattle.std.specs.Prelude.{ℕ, ◌+◌, ◌*◌, ◌^◌, ◌<◌, false, T, Float}
use Rattle.std.specs.Float.{binary32}
use Rattle.std.specs.Float.Ieee.{fits}
use Rattle.std.specs.Float.Ieee.Exact.{HasValue}
use Rattle.std.specs.Float.Ieee.Positive.{positive}
use Rattle.sqrt.specs.Root.{root_of}

-- x is N units of 2 ^ -149, and not negative
abbrev pub IsUnits : Float → ℕ → Type 0
IsUnits x N = HasValue x false N (2 ^ 149)

-- R units are nearer to √n units than Y units are, where R and Y differ: √n lies on R's side of (R + Y) / 2, and not on that point
abbrev pub Nearer : ℕ → ℕ → ℕ → Type 0
Nearer n R Y = (R < Y → 4 * n < (R + Y) * (R + Y)) × (Y < R → (R + Y) * (R + Y) < 4 * n)

-- r is an f32 and nearer to √x than any other f32, so no two are equally near. x is X units, √x is √(X * 2 ^ 149) units.
-- Zero is among the y, and every negative number is farther from √x than zero.
pub record NearestRoot (x r : Float) : Type 0 where
  pub X : ℕ
  pub R : ℕ
  pub x-is : IsUnits x X
  pub r_is : IsUnits r R
  pub r_fits : T (fits binary32 r)
  pub nearest : (y : Float) (Y : ℕ) → T (fits binary32 y) → IsUnits y Y → Nearer (X * 2 ^ 149) R Y

-- for every finite f32 above zero, subnormal ones included
abbrev pub RootIsNearest : Type 0
RootIsNearest = (x : Float) → T (fits binary32 x) → T (positive x) → NearestRoot x (root_of x)
