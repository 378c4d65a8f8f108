-- Laws of writing: one turn of each loop is one step of its definition. Assumes nothing.
use mathlib.Core.Path.{◌≡◌, sym, ◌∙◌}
use mathlib.Core.List.{List, [], ◌∷◌}
use Prim.Native.Nat.{ℕ, suc, ◌+◌, ◌-◌, ◌/◌, ◌%◌, ◌≤◌, ◌<◌}
use native.Mathlib.Numerals.{add-one}
use native.Mathlib.Omega.{arith}
use lib.ListN.{length, take, drop, get_or, set, drop_of_length-le, length-drop, length-set}
use lib.Seq.{take_all, drop-cons, get_or-set_same, drop-set-lt}
use borrow.Author.Tests.{lt-ltb, le-ltb}
use Rattle.text.specs.Text.{Buffer, put, puts, glyph, spelled}

-- the bytes from i on: the byte at i, and those from i + 1 on
pub puts_on : (s : List ℕ) (i : ℕ) (p q : Buffer) → i < length s → q ≡ put (get_or s i 0) p → puts (drop (i + 1) s) q ≡ puts (drop i s) p
unfolding puts
puts_on s i p q h e = rw (drop-cons s i 0 h, add-one, e)

pub puts_end : (s : List ℕ) (i : ℕ) (p : Buffer) → length s ≤ i → puts (drop i s) p ≡ p
unfolding puts
puts_end s i p h = let e : drop i s ≡ [] = drop_of_length-le s h in rw e

-- ---- decimal digits, from the last to the first

-- the digit stored before those from k + 1 on
pub stored : (text : List ℕ) (k g : ℕ) → k < length text → drop k (set text k g) ≡ g ∷ drop (suc k) text
stored text k g h =
    let l : k < length (set text k g) = rw length-set h in
    drop-cons (set text k g) k 0 l ∙ rw (get_or-set_same text k g 0 h, drop-set-lt (suc k) text k g (omega arith))

pub spelled_last : (k n : ℕ) (rest : List ℕ) → n < 10 → spelled (suc k) n rest ≡ glyph (n % 10) ∷ rest
unfolding spelled
spelled_last k n rest h = rw (lt-ltb n 10 h)

pub spelled_on : (k n : ℕ) (rest : List ℕ) → 10 ≤ n → spelled (suc k) n rest ≡ spelled k (n / 10) (glyph (n % 10) ∷ rest)
unfolding spelled
spelled_on k n rest h = rw (le-ltb n 10 h)

-- one turn: a digit is stored, and it was the last
pub turn_last : (i n g : ℕ) (text : List ℕ) → 0 < i → i ≤ length text → n < 10 → g ≡ glyph (n % 10) → drop (i - 1) (set text (i - 1) g) ≡ spelled i n (drop i text)
turn_last i n g text p h k e =
    let s : suc (i - 1) ≡ i = omega arith in
    stored text (i - 1) g (omega arith) ∙ rw (s, e) (sym (spelled_last (i - 1) n (drop i text) k) ∙ rw s)

-- or was not
pub turn_on : (i n g : ℕ) (text : List ℕ) → 0 < i → i ≤ length text → 10 ≤ n → g ≡ glyph (n % 10) → spelled (i - 1) (n / 10) (drop (i - 1) (set text (i - 1) g)) ≡ spelled i n (drop i text)
turn_on i n g text p h k e =
    let s : suc (i - 1) ≡ i = omega arith in
    rw (stored text (i - 1) g (omega arith), s, e) (sym (spelled_on (i - 1) n (drop i text) k) ∙ rw s)

-- all that is stored from r on is written
pub puts_tail : (text d : List ℕ) (n r : ℕ) (p : Buffer) → length text ≡ n → drop r text ≡ d → puts (take (n - r) (drop r text)) p ≡ puts d p
puts_tail text d n r p l e =
    let k : length (drop r text) ≤ n - r = simp length-drop (omega arith) in
    rw (take_all (n - r) (drop r text) k, e)
