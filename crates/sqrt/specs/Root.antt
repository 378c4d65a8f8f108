-- The square root of an f32 (document 01, Floats, Square root). Definitions only. Assumes nothing.
-- A unit is 2 ^ -149, the smallest f32 above zero: every finite f32 is a whole number of units.
use Rattle.std.specs.Prelude.{ℕ, zero, suc, ◌+◌, ◌-◌, ◌*◌, ◌/◌, ◌^◌, true, false, cond, nat_le, nat_lt, Float}
use Rattle.std.specs.Float.{nan, inf, fin}
use Rattle.std.specs.Float.Ieee.{up, down, size, odd}

-- ---- the nearest f32, by squares of whole numbers

-- 2r + 1 where its square is at most n, else 2r
abbrev pub digit : ℕ → ℕ → ℕ
digit n r = cond (nat_le ((2 * r + 1) * (2 * r + 1)) n) (2 * r + 1) (2 * r)

-- the largest whole s with s * s ≤ n, for an n below 4 ^ d, one binary digit after the other (`isqrt_floor`, proofs/Isqrt.antt)
unfoldable pub isqrt : ℕ → ℕ → ℕ
isqrt zero n = 0
isqrt (suc d) n = digit n (isqrt d (n / 4))

-- q or q + 1, whichever is nearer to √n / 2 ^ k: by the square of the point half way, (q + 1/2) * 2 ^ k
abbrev pub closer : ℕ → ℕ → ℕ → ℕ
closer n k q = cond (nat_lt (4 * n) ((2 * q + 1) * 2 ^ k * ((2 * q + 1) * 2 ^ k))) q (suc q)

-- The f32 nearest √n units, for an n from 2 ^ 46 up and below 4 ^ 213.
-- Of s, the whole part of √n, an f32 keeps the 24 leading digits q and drops k: it is q * 2 ^ k or (q + 1) * 2 ^ k units.
unfoldable pub root_units : ℕ → Float
unfolding isqrt size odd
root_units n =
    let s = isqrt 213 n in
    let k = size s - 24 in
    let q = s / 2 ^ k in
    odd 24 false (closer n k q) k 149

-- ---- by cases: NaN, +infinity and the two zeros stay, what is below zero gives NaN, any other number its nearest root

-- `fin s m e` is m * 2 ^ e, negative where s is true. It is X = m * 2 ^ e * 2 ^ 149 units, and √(X * 2 ^ -149) is √(X * 2 ^ 149) units.
unfoldable pub root_of : Float → Float
unfolding root_units
root_of nan = nan
root_of (inf false) = inf false
root_of (inf true) = nan
root_of (fin s zero e) = fin s zero e
root_of (fin true (suc m) e) = nan
root_of (fin false (suc m) e) = root_units (suc m * up e * 2 ^ 149 / down e * 2 ^ 149)
