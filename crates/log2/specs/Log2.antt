-- log2 in twenty rounds (document 01, Floats, log2). Definitions only. Assumes nothing.
-- A unit is 2 ^ -149, the smallest f32 above zero: every finite f32 is a whole number of units.
use Rattle.std.specs.Prelude.{ℕ, zero, suc, ◌+◌, ◌-◌, ◌*◌, ◌/◌, ◌^◌, false, true, cond, ◌&&◌, ℤ, pos, negsuc, ◌+ℤ◌, ◌*ℤ◌, leb, Float}
use Rattle.std.specs.Float.{nan, inf, fin, binary32}
use Rattle.std.specs.Float.Ieee.{up, down, minus, size, round, le, lt}
use Rattle.lane.specs.Floats.{decimal, whole}
use Rattle.lane.specs.Floats as floats

-- k rounds: r is squared and scaled by 2 ^ -30; from 2 ^ 31 on it is halved and F gets the digit 1, below that F gets 0
unfoldable pub rounds : ℕ → ℕ → ℕ → ℕ
rounds zero r F = F
rounds (suc k) r F =
    let s = r * r / 2 ^ 30 in
    rounds k (cond (leb (2 ^ 31) s) (s / 2) s) (cond (leb (2 ^ 31) s) (2 * F + 1) (2 * F))

-- the f32 nearest z / d
abbrev pub quotient : ℤ → ℕ → Float
quotient (pos n) d = round binary32 false n d
quotient (negsuc n) d = round binary32 true (suc n) d

-- a finite f32's size in units
abbrev pub units_of : Float → ℕ
units_of nan = 0
units_of (inf s) = 0
units_of (fin s m e) = m * up e * 2 ^ 149 / down e

-- log2 of X units, which are m * 2 ^ e with 2 ^ 23 ≤ m < 2 ^ 24: ((e + 23) * 2 ^ 20 + F) / 2 ^ 20, exact (specs/Exact.antt)
unfoldable pub log_units : ℕ → Float
unfolding rounds size round
log_units X =
    let k = size X - 24 in
    let m = X / 2 ^ k in
    let e = minus k 149 in
    let F = rounds 20 (128 * m) 0 in
    quotient ((e +ℤ pos 23) *ℤ pos (2 ^ 20) +ℤ pos F) (2 ^ 20)

-- 1 / 64 and 64
abbrev pub sixty_fourth : Float
sixty_fourth = decimal 1 64

abbrev pub sixty_four : Float
sixty_four = whole 64

-- from 1 / 64 up and below 64; any other q, a NaN too, gives 0
unfoldable pub log_of : Float → Float
unfolding log_units le lt
log_of q = cond (le sixty_fourth q && lt q sixty_four) (log_units (units_of q)) floats.zero
