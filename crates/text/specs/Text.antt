-- Numbers as text, on lists of bytes (document 01, Checked figures: the line that Impulse reads and the lines that it prints). 32 is the blank, 10
-- the newline, 48 `0`, 97 `a`. Definitions only. Assumes nothing.
use Rattle.std.specs.Prelude.{ℕ, zero, suc, ◌+◌, ◌-◌, ◌*◌, ◌/◌, ◌%◌, ◌^◌, Bool, true, false, cond, ◌&&◌, ◌||◌, List, [], ◌∷◌, ltb, leb, eqb, length, take, drop, set, Option, None, Some, Float}
use Rattle.std.specs.Float.{binary32}
use Rattle.std.specs.Float.Ieee.{is_nan, to_bits}
use Rattle.text.specs.declared.Span.{Span}

-- ---- words and lines

abbrev pub count : Bool → ℕ → ℕ
count true n = 0
count false n = suc n

-- how many bytes stand before the first a or b
unfoldable pub count_before : ℕ → ℕ → List ℕ → ℕ
count_before a b [] = 0
count_before a b (x ∷ s) = count (eqb x a || eqb x b) (count_before a b s)

-- the position of the first a or b from `at` on, else the text's end
unfoldable pub first_of : ℕ → ℕ → List ℕ → ℕ → ℕ
unfolding count_before
first_of a b s at = at + count_before a b (drop at s)

-- a word ends at a blank, a newline or the text's end
unfoldable pub word_at : List ℕ → ℕ → Span
unfolding first_of
word_at s at = record { start = at; end = first_of 32 10 s at }

-- a line ends at a newline or the text's end
unfoldable pub line_end : List ℕ → ℕ → ℕ
unfolding first_of
line_end s at = first_of 10 10 s at

-- a word's bytes; none of a word that reaches past the text
unfoldable pub bytes_of : List ℕ → Span → List ℕ
bytes_of s w = cond (leb w.end (length s)) (take (w.end - w.start) (drop w.start s)) []

-- ---- numbers read

-- the number of a digit, `a` to `f` counting from 10; 16 for any other byte
unfoldable pub digit_of : ℕ → ℕ
digit_of b = cond (leb 48 b && leb b 57) (b - 48) (cond (leb 97 b && leb b 102) (b - 87) 16)

abbrev pub provided : Bool → Option ℕ → Option ℕ
provided true n = n
provided false n = None

-- The digits after those that spelled v: each makes the number base times as large and adds its own. None at a byte that is no digit of the
-- base, and past `most`.
unfoldable pub number_from : ℕ → ℕ → List ℕ → ℕ → Option ℕ
unfolding digit_of
number_from base most [] v = Some v
number_from base most (b ∷ s) v = provided (ltb (digit_of b) base && leb (v * base + digit_of b) most) (number_from base most s (v * base + digit_of b))

-- a decimal below 2 ^ 64, of one digit at least
unfoldable pub decimal_of : List ℕ → Option ℕ
unfolding number_from
decimal_of [] = None
decimal_of (b ∷ s) = number_from 10 (2 ^ 64 - 1) (b ∷ s) 0

-- eight hexadecimal digits
unfoldable pub hex_of : List ℕ → Option ℕ
unfolding number_from
hex_of s = provided (eqb (length s) 8) (number_from 16 (2 ^ 32 - 1) s 0)

-- ---- an f32's bits, a NaN's as 7fc00000

unfoldable pub bits_of : Float → ℕ
bits_of x = cond (is_nan x) 2143289344 (to_bits binary32 x)

-- ---- writing: the bytes of a buffer and the position that the next byte goes to

pub record Buffer : Type 0 where
  pub bytes : List ℕ
  pub at : ℕ

abbrev pub buffer : List ℕ → ℕ → Buffer
buffer s i = record { bytes = s; at = i }

abbrev pub room : Bool → Buffer → Buffer → Buffer
room true p q = p
room false p q = q

-- a byte that has no room is left out
unfoldable pub put : ℕ → Buffer → Buffer
put b p = room (ltb p.at (length p.bytes)) (buffer (set p.bytes p.at b) (p.at + 1)) p

-- bytes, one after the other
unfoldable pub puts : List ℕ → Buffer → Buffer
unfolding put
puts [] p = p
puts (b ∷ s) p = puts s (put b p)

-- a digit below 16 as a byte
unfoldable pub glyph : ℕ → ℕ
glyph d = cond (ltb d 10) (48 + d) (87 + d)

abbrev pub either : Bool → List ℕ → List ℕ → List ℕ
either true s t = s
either false s t = t

-- n's decimal digits, k at most, before `rest`
unfoldable pub spelled : ℕ → ℕ → List ℕ → List ℕ
unfolding glyph
spelled zero n rest = rest
spelled (suc k) n rest = either (ltb n 10) (glyph (n % 10) ∷ rest) (spelled k (n / 10) (glyph (n % 10) ∷ rest))

-- a number below 2 ^ 64 has no more than twenty
unfoldable pub decimal_text : ℕ → List ℕ
unfolding spelled
decimal_text n = spelled 20 n []

-- a number below 2 ^ 32 in eight hexadecimal digits
unfoldable pub hex_text : ℕ → List ℕ
unfolding glyph
hex_text n =
    glyph (n / 268435456 % 16) ∷ glyph (n / 16777216 % 16) ∷ glyph (n / 1048576 % 16) ∷ glyph (n / 65536 % 16)
    ∷ glyph (n / 4096 % 16) ∷ glyph (n / 256 % 16) ∷ glyph (n / 16 % 16) ∷ glyph (n % 16) ∷ []
