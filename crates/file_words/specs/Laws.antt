-- For the proofs: nothing here must be believed.
-- Laws of words: what was written is what is read, other words stay, and an f32 comes back from its word. Assumes nothing.
use Rattle.std.specs.Prelude.{◌≡◌, refl, ℕ, ◌+◌, ◌-◌, ◌*◌, ◌<◌, List, ◌++◌, T, length, get_or, take, drop, Float}
use Rattle.std.proofs.Common.{sym, ap, ◌∙◌, append_assoc, drop-drop, arith}
use Rattle.std.specs.Float.{nan, inf, fin, binary32}
use Rattle.std.specs.Float.Ieee.{is_nan, fits, of_bits}
use Rattle.std.specs.Float.Ieee.Bits.{of_bits-to_bits}
use Rattle.parts.specs.Parts.{piece, patch}
use Rattle.parts.specs.Laws.{piece_get}
use Rattle.text.specs.Text.{bits_of}
use Rattle.file_words.specs.Words.{word_bytes, word_of, word_at, float_of}

-- a list whose piece b was lent, from b * m to b * m + m, and came back as ys
pub lent : (m b : ℕ) (xs ys p : List ℕ) → p ≡ ys → take (b * m) xs ++ (p ++ drop (b * m + m - b * m) (drop (b * m) xs)) ≡ patch m b ys xs
unfolding patch
lent m b xs ys p e =
    let k : b * m + m - b * m ≡ m = omega arith in
    (λ i. take (b * m) xs ++ (e i ++ (ap (λ (j : ℕ). drop j (drop (b * m) xs)) k ∙ drop-drop m (b * m) xs) i))
    ∙ sym (append_assoc (take (b * m) xs) ys (drop (b * m + m) xs))

pub length_word : (w : ℕ) → length (word_bytes w) ≡ 4
unfolding word_bytes
length_word w = refl

-- by the file's bytes
pub word_is : (file : List ℕ) (i : ℕ)
    → word_at file i ≡ get_or file (i * 4) 0 + get_or file (i * 4 + 1) 0 * 256 + get_or file (i * 4 + 2) 0 * 65536 + get_or file (i * 4 + 3) 0 * 16777216
unfolding word_at word_of
word_is file i = λ t. (at 0 (omega arith) ∙ none) t + at 1 (omega arith) t * 256 + at 2 (omega arith) t * 65536 + at 3 (omega arith) t * 16777216
  where
    at : (k : ℕ) → k < 4 → get_or (piece 4 i file) k 0 ≡ get_or file (i * 4 + k) 0
    at k h = piece_get 4 i k file 0 h

    none : get_or file (i * 4 + 0) 0 ≡ get_or file (i * 4) 0
    none = let e : i * 4 + 0 ≡ i * 4 = omega arith in ap (λ (j : ℕ). get_or file j 0) e

pub word_of_bytes : (w : ℕ) → word_of (word_bytes w) ≡ w
unfolding word_of word_bytes
word_of_bytes w = omega arith

-- the number comes back: zeros keep their sign, and NaN is one value
pub float_of_bits : (x : Float) → T (fits binary32 x) → float_of (bits_of x) ≡ x
unfolding bits_of is_nan of_bits
float_of_bits nan h = refl
float_of_bits (inf s) h = of_bits-to_bits binary32 (inf s) h
float_of_bits (fin s m e) h = of_bits-to_bits binary32 (fin s m e) h
