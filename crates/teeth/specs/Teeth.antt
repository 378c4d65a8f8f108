-- The teeth of the chord comb, read together (document 02, C-18). Definitions only. Assumes nothing.
use Rattle.std.specs.Prelude.{ℕ, zero, suc, ◌+◌, ◌-◌, min, Bool, false, cond, ◌&&◌, ◌||◌, List, leb, ltb, length, Float}
use Rattle.parts.specs.Parts.{tab, upto}
use Rattle.lane.specs.Floats.{◌⊕◌, ◌⊗◌, ◌⊘◌, ◌‼◌, whole, one}
use Rattle.lane.specs.Floats as floats
use Rattle.lane.specs.Lane.{exp2_of}
use Rattle.lines.specs.Lines.{whole_part, held, ring_read, is_view, read_of}
use Rattle.extended.specs.declared.Chord.{Chord}

-- ---- the teeth

-- how many there are. No count but 1 to 8 passes refusal 16; here one above 8 would be 8
unfoldable pub teeth_of : Chord → ℕ
teeth_of c = min c.count 8

-- "delay 1 / (ratio × exp2(offset))", of tooth j
unfoldable pub tooth_delay : (ratio : Float) → Chord → (j : ℕ) → Float
tooth_delay ratio c j = one ⊘ (ratio ⊗ exp2_of (c.offsets ‼ j))

-- ---- the taps

-- "Each tooth equals a single read": eight taps in the offsets' order, those past the n-th 0; `read` is the read at a delay
unfoldable pub taps_at : (read : Float → Float) (ratio : Float) → Chord → List Float
taps_at read ratio c = tab (λ j. cond (ltb j (teeth_of c)) (read (tooth_delay ratio c j)) floats.zero) 8

-- of one ring
abbrev pub ring_taps : (len cursor : ℕ) (ring : List Float) (ratio : Float) → Chord → List Float
ring_taps len cursor ring = taps_at (λ delay. ring_read len cursor delay ring)

-- through a view: 0 from one that reads 0
unfoldable pub chord_read : List Float → (len cursor slot : ℕ) (ratio : Float) → Chord → List Float
chord_read xs len cursor slot = taps_at (read_of xs len cursor slot)

-- "Taps are summed in list order, beginning with the first tap, and multiplied by 1/n"
unfoldable pub taps_sum : (n : ℕ) (taps : List Float) → Float
taps_sum n taps = upto (λ j sum. sum ⊕ taps ‼ suc j) (n - 1) (taps ‼ 0)

unfoldable pub taps_mean : (n : ℕ) (taps : List Float) → Float
taps_mean n taps = taps_sum n taps ⊗ (one ⊘ whole n)

-- ---- "the size of the set of those cells"

-- a read needs four cells of the ring: from w - 1 to w + 2 steps back, w the whole part of its clamped delay
unfoldable pub first_of : (len : ℕ) (delay : Float) → ℕ
first_of len delay = whole_part (held len delay) - 1

unfoldable pub is_of_four : (first back : ℕ) → Bool
is_of_four first back = leb first back && leb back (first + 3)

-- one of the first n teeth needs the cell so many steps back
unfoldable pub is_needed : (first : ℕ → ℕ) (n back : ℕ) → Bool
is_needed first zero back = false
is_needed first (suc n) back = is_needed first n back || is_of_four (first n) back

-- how many numbers below m a test names
unfoldable pub how_many : (ℕ → Bool) → (m : ℕ) → ℕ
how_many p zero = 0
how_many p (suc m) = how_many p m + cond (p m) 1 0

-- the first cell of tooth j
abbrev pub tooth_first : (len : ℕ) (ratio : Float) → Chord → (j : ℕ) → ℕ
tooth_first len ratio c j = first_of len (tooth_delay ratio c j)

-- of a ring of len cells; different steps back below len are different cells (`cells_differ`, Laws)
unfoldable pub cells_needed : (len : ℕ) (ratio : Float) → Chord → ℕ
cells_needed len ratio c = how_many (is_needed (tooth_first len ratio c) (teeth_of c)) len

-- "0 from a view that reads 0"
unfoldable pub chord_size : List Float → (len slot : ℕ) (ratio : Float) → Chord → ℕ
chord_size xs len slot ratio c = cond (is_view len slot (length xs)) (cells_needed len ratio c) 0
