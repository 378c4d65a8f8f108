-- The checked figures of document 01 that are proved of the definitions, and C-14's zeros: each row is what a definition gives and what the
-- document says, as bits or as a whole number. `figures_hold` is the theorem over the table. Assumes nothing.
use Rattle.std.specs.Prelude.{ℕ, ◌-◌, ◌^◌, Bool, true, cond, ◌&&◌, List, [], ◌∷◌, T, eqb, leb, set, replicate, Float}
use Rattle.std.specs.Float.{binary32, nan}
use Rattle.std.specs.Float.Ieee.{add, sub, mul, div, neg, lt, is_nan, round, to_bits, to_unsigned}
use Rattle.lane.specs.Floats.{decimal, whole, zero, one, half}
use Rattle.lane.specs.Lane.{is_below, max_of, min_of, clamp_of, soft_clip, exp2_of, tan_of}
use Rattle.sqrt.specs.Root.{root_of}
use Rattle.log2.specs.Log2.{log_of}
use Rattle.lines.specs.Lines.{hermite_of, ring_len, held, cell_of, taps_of, ring_read}
use Rattle.parts.specs.Parts.{tab}

pub record Row : Type 0 where
  pub given : ℕ
  pub stated : ℕ

-- two floats by their bits
abbrev pub ◌gives◌ : Float → Float → Row
x gives y = record { given = to_bits binary32 x; stated = to_bits binary32 y }

-- two whole numbers
abbrev pub ◌is◌ : ℕ → ℕ → Row
m is n = record { given = m; stated = n }

infix 3 ◌gives◌ ◌is◌
unfoldable pub agree : List Row → Bool
agree [] = true
agree (r ∷ rs) = eqb r.given r.stated && agree rs

-- rings of 1,024 cells, at cursor 0: a NaN in the one cell so far back; a NaN in every cell but those from a to b back.
-- A NaN that is read makes the reading NaN, so the first tells that a cell is read, and the second that no other is
abbrev pub nan_at : (back : ℕ) → List Float
nan_at back = set (replicate 1024 zero) (cell_of 1024 0 back) nan

abbrev pub nan_but : (a b : ℕ) → List Float
nan_but a b = tab (λ i. cond (leb a (1024 - i) && leb (1024 - i) b) zero nan) 1024

unfoldable pub figures : List Row
figures =
    -- max and min of two zeros (document 02, C-14)
    (max_of zero zero gives zero)
    ∷ (max_of zero (neg zero) gives zero)
    ∷ (max_of (neg zero) zero gives zero)
    ∷ (max_of (neg zero) (neg zero) gives neg zero)
    ∷ (min_of zero zero gives zero)
    ∷ (min_of zero (neg zero) gives neg zero)
    ∷ (min_of (neg zero) zero gives neg zero)
    ∷ (min_of (neg zero) (neg zero) gives neg zero)
    -- soft_clip
    ∷ (soft_clip (whole 3) gives one)
    ∷ (soft_clip (whole 100) gives one)
    ∷ (soft_clip (neg (whole 3)) gives neg one)
    ∷ (soft_clip nan gives neg one)
    ∷ (soft_clip zero gives zero)
    ∷ (soft_clip one gives decimal 7 9)
    -- exp2, tan
    ∷ (exp2_of zero gives one)
    ∷ (exp2_of (whole 13) gives exp2_of (whole 12))
    ∷ (exp2_of nan gives exp2_of (neg (whole 12)))
    ∷ (tan_of zero gives zero)
    -- root
    ∷ (root_of (whole 4) gives whole 2)
    ∷ (root_of (whole 2) gives decimal 11863283 (2 ^ 23))
    -- log2
    ∷ (log_of one gives zero)
    ∷ (log_of (whole 2) gives one)
    ∷ (log_of half gives neg one)
    -- hermite
    ∷ (hermite_of one (whole 2) (whole 3) (whole 4) half gives decimal 25 10)
    -- ring_len
    ∷ (ring_len (whole 8000) is 1024)
    ∷ (ring_len (whole 8128) is 1024)
    ∷ (ring_len (whole 8136) is 2048)
    ∷ (ring_len (whole 384000) is 65536)
    -- length 1,024: delay 1,021 reads 1,020 to 1,023 back
    ∷ (ring_read 1024 0 (whole 1021) (nan_but 1020 1023) gives zero)
    ∷ (ring_read 1024 0 (whole 1021) (nan_at 1020) gives nan)
    ∷ (ring_read 1024 0 (whole 1021) (nan_at 1021) gives nan)
    ∷ (ring_read 1024 0 (whole 1021) (nan_at 1022) gives nan)
    ∷ (ring_read 1024 0 (whole 1021) (nan_at 1023) gives nan)
    -- delay 1 acts as 2 and reads 1 to 4 back
    ∷ (held 1024 one gives whole 2)
    ∷ (ring_read 1024 0 one (nan_but 1 4) gives zero)
    ∷ (ring_read 1024 0 one (nan_at 1) gives nan)
    ∷ (ring_read 1024 0 one (nan_at 2) gives nan)
    ∷ (ring_read 1024 0 one (nan_at 3) gives nan)
    ∷ (ring_read 1024 0 one (nan_at 4) gives nan)
    ∷ []

pub figures_hold : T (agree figures)
unfolding agree figures soft_clip exp2_of tan_of is_below max_of min_of clamp_of root_of log_of hermite_of ring_len held cell_of taps_of ring_read
    add sub mul div neg lt is_nan round to_bits to_unsigned
figures_hold = tt
