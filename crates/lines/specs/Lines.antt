-- The delay lines of lines.rs: a ring's length, the interpolation, and a slot's ring read and written (document 01, the
-- paragraph on lent lists and point 4 of block). Definitions only. Assumes nothing.
use Rattle.std.specs.Prelude.{ℕ, ◌+◌, ◌-◌, ◌*◌, ◌%◌, ◌^◌, Bool, true, false, cond, ◌&&◌, ◌||◌, List, [], ◌∷◌, length, ◌==◌, is_nan, nat_le, slice_set, Float}
use Rattle.std.specs.Float.Ieee.{size, lt, to_unsigned}
use Rattle.lane.specs.Floats.{◌⊕◌, ◌⊖◌, ◌⊗◌, ◌‼◌, decimal, whole, zero, two, half}
use Rattle.lane.specs.Lane.{clamp_of}
use Rattle.parts.specs.Parts.{piece, patch}

-- `x as usize`: the whole part of an x from 0 up, exactly
abbrev pub whole_part : Float → ℕ
whole_part x = to_unsigned 64 x

-- ---- a ring's length

-- NaN, below the low number or above the high one
abbrev pub is_outside : Float → Float → Float → Bool
is_outside x low high = is_nan x || lt x low || lt high x

-- refusal 1: NaN, below 8,000 or above 384,000
unfoldable pub rate_refused : Float → Bool
rate_refused rate = is_nan rate || lt rate (whole 8000) || lt (whole 384000) rate

-- MAX_DELAY_SECONDS
abbrev pub max_delay_seconds : Float
max_delay_seconds = decimal 125 1000

-- next_power_of_two: the least power of two that is n at least, for an n above 0 (`size` counts binary digits)
unfoldable pub next_power : ℕ → ℕ
unfolding size
next_power n = 2 ^ size (n - 1)

-- ring_len, and 0 for a rate that refusal 1 names
unfoldable pub ring_len : Float → ℕ
unfolding rate_refused next_power
ring_len rate = cond (rate_refused rate) 0 (next_power (whole_part (rate ⊗ max_delay_seconds) + 8))

-- ---- one ring

-- hermite: between p0 and the older p1, t of the way, with newer and older the samples either side
unfoldable pub hermite_of : Float → Float → Float → Float → Float → Float
hermite_of newer p0 p1 older t =
    let c1 = half ⊗ (p1 ⊖ newer) in
    let c2 = newer ⊖ decimal 25 10 ⊗ p0 ⊕ two ⊗ p1 ⊖ half ⊗ older in
    let c3 = half ⊗ (older ⊖ newer) ⊕ decimal 15 10 ⊗ (p0 ⊖ p1) in
    ((c3 ⊗ t ⊕ c2) ⊗ t ⊕ c1) ⊗ t ⊕ p0

-- MIN_DELAY, and the longest delay that a ring of len cells reads
abbrev pub min_delay : Float
min_delay = two

abbrev pub longest : ℕ → Float
longest len = whole (len - 3)

-- the delay, clamped to 2 .. len - 3; a NaN acts as 2
unfoldable pub held : ℕ → Float → Float
held len delay = cond (is_nan delay) min_delay (clamp_of delay min_delay (longest len))

-- the cell `back` frames before the cursor; the difference wraps at the machine word
unfoldable pub cell_of : ℕ → ℕ → ℕ → ℕ
cell_of len cursor back = (cursor + (2 ^ 64 - back)) % 2 ^ 64 % len

-- read between the cells w and w + 1 back, t of the way: cells w - 1 to w + 2
unfoldable pub taps_of : ℕ → ℕ → ℕ → Float → List Float → Float
taps_of len cursor w t ring =
    let at : ℕ → Float = λ back. ring ‼ cell_of len cursor back in
    hermite_of (at (w - 1)) (at w) (at (w + 1)) (at (w + 2)) t

-- read at a delay, with w its whole part
unfoldable pub ring_read : ℕ → ℕ → Float → List Float → Float
ring_read len cursor delay ring =
    let d = held len delay in
    let w = whole_part d in
    taps_of len cursor w (d ⊖ whole w) ring

-- the cursor's own cell, written
unfoldable pub ring_write : ℕ → ℕ → Float → List Float → List Float
ring_write len cursor value ring = slice_set ring (cursor % len) value

-- ---- a slot's ring in the lent list, through a view

abbrev pub one_of : List ℕ → ℕ → Bool
one_of [] n = false
one_of (k ∷ ks) n = cond (n == k) true (one_of ks n)

-- a power of two from 1,024 to 65,536
abbrev pub lengths : List ℕ
lengths = 1024 ∷ 2048 ∷ 4096 ∷ 8192 ∷ 16384 ∷ 32768 ∷ 65536 ∷ []

abbrev pub is_length : ℕ → Bool
is_length len = one_of lengths len

-- the length is one of those, and the slot ends within a list of `have` cells
unfoldable pub is_view : ℕ → ℕ → ℕ → Bool
is_view len slot have = is_length len && nat_le (slot * len + len) have

-- any other view reads 0 and writes nothing
unfoldable pub read_of : List Float → ℕ → ℕ → ℕ → Float → Float
read_of xs len cursor slot delay = cond (is_view len slot (length xs)) (ring_read len cursor delay (piece len slot xs)) zero

unfoldable pub write_of : List Float → ℕ → ℕ → ℕ → Float → List Float
write_of xs len cursor slot value =
    cond (is_view len slot (length xs)) (patch len slot (ring_write len cursor value (piece len slot xs)) xs) xs
