-- The words of a line read by their place, a name found in a list of names, and f32 written by their bits, over text's bytes and buffers. 32 is the
-- blank, 42 `*`. Definitions only. Assumes nothing.
use Rattle.std.specs.Prelude.{ℕ, zero, suc, ◌+◌, Bool, true, false, cond, not, ◌&&◌, List, [], ◌∷◌, ltb, eqb, length, Option, None, Some, is_some, Float}
use Rattle.std.specs.Option.{unwrap_or}
use Rattle.std.specs.Str.{bytes_eq}
use Rattle.std.specs.Float.{binary32}
use Rattle.std.specs.Float.Ieee.{of_bits}
use Rattle.text.specs.Text.{count, word_at, bytes_of, decimal_of, hex_of, bits_of, Buffer, put, puts, decimal_text, hex_text}

-- ---- words

-- where the word after that at `at` starts; the text's end where there is none
unfoldable pub next_at : List ℕ → ℕ → ℕ
next_at s at = cond (ltb (word_at s at).end (length s)) ((word_at s at).end + 1) (length s)

-- where word k starts, counted from that at `at`
unfoldable pub word_start : List ℕ → ℕ → ℕ → ℕ
word_start s at zero = at
word_start s at (suc k) = word_start s (next_at s at) k

-- the bytes of the word at `at`
unfoldable pub bytes_at : List ℕ → ℕ → List ℕ
bytes_at s at = bytes_of s (word_at s at)

-- the bytes of word k, counted from that at `at`
abbrev pub word_of : List ℕ → ℕ → ℕ → List ℕ
word_of s at k = bytes_at s (word_start s at k)

-- ---- numbers

-- a pattern's f32; 0 where there is none
unfoldable pub float_or0 : Option ℕ → Float
float_or0 (Some b) = of_bits binary32 b
float_or0 None = of_bits binary32 0

-- a number that was read, else `or`
abbrev pub value_or : ℕ → Option ℕ → ℕ
value_or or n = unwrap_or n or

-- whether a word is eight hexadecimal digits
unfoldable pub is_float : List ℕ → Bool
is_float w = is_some (hex_of w)

-- whether a word is a decimal
unfoldable pub is_decimal : List ℕ → Bool
is_decimal w = is_some (decimal_of w)

-- whether the n words from `at` on are all of a kind
unfoldable pub every : (List ℕ → Bool) → List ℕ → ℕ → ℕ → Bool
every kind s at zero = true
every kind s at (suc n) = kind (bytes_at s at) && every kind s (next_at s at) n

-- ---- names

-- the place of `name` among the n words of `names` from `at` on, from 0; n where it is none of them
unfoldable pub place_from : List ℕ → List ℕ → ℕ → ℕ → ℕ
place_from names name at zero = 0
place_from names name at (suc n) = count (bytes_eq (bytes_at names at) name) (place_from names name (next_at names at) n)

-- ---- numbers in runs

-- how many numbers at a list's front have these bits
unfoldable pub run_of : ℕ → List Float → ℕ
run_of b [] = 0
run_of b (x ∷ xs) = count (not (eqb (bits_of x) b)) (run_of b xs)

-- the first of two buffers where the test holds, else the second
abbrev pub choose : Bool → Buffer → Buffer → Buffer
choose true p q = p
choose false p q = q

-- a blank, the bits, and where the count is not 1 a `*` and the count
unfoldable pub put_run : ℕ → ℕ → Buffer → Buffer
put_run b n p = choose (eqb n 1) (puts (hex_text b) (put 32 p)) (puts (decimal_text n) (put 42 (puts (hex_text b) (put 32 p))))

-- the runs of n numbers of the bits b and of the list after them
unfoldable pub runs_from : ℕ → ℕ → List Float → Buffer → Buffer
runs_from b n [] p = put_run b n p
runs_from b n (x ∷ xs) p = choose (eqb (bits_of x) b) (runs_from b (suc n) xs p) (runs_from (bits_of x) 1 xs (put_run b n p))

-- the numbers' bits in runs
unfoldable pub put_runs : List Float → Buffer → Buffer
put_runs [] p = p
put_runs (x ∷ xs) p = runs_from (bits_of x) 1 xs p
