-- Laws of the line read: nine digits spell a number below 10 ^ 9, a line ends within its text, and each test of the code is one of
-- `line_request`. Assumes nothing.
use Rattle.std.proofs.Common.{◌≡◌, ℕ, zero, suc, ◌+◌, ◌-◌, ◌*◌, ◌^◌, ◌<◌, ◌≤◌, Bool, true, false, cond, ◌&&◌, ltb, leb, List, ◌∷◌, length, take, drop, sym, refl, ◌∙◌, le_of_suc-le-suc, mul-le-mul_right, pow-suc, arith, length-take, ltb-true, le-ltb, lt-ltb, eq-eqb, ne_eqb, le-leb, []}
use native.Mathlib.Nat.{one-le-pow}
use borrow.Author.Tests.{lt-leb}
use Rattle.text.specs.declared.Span.{Span}
use Rattle.std.proofs.Common.{Option, None, Some}
use Rattle.text.specs.Text.{first_of, word_at, line_end, bytes_of, digit_of, provided, number_from, decimal_of}
use Rattle.impulses.specs.Prefix.{malformed, before_within}
use Rattle.impulses.specs.Impulse.{short_decimal, asked, line_request}

-- ---- a number of k digits after those that spelled v, which is below m, is below m × 10 ^ k

grow : (m p : ℕ) → 0 < p → m ≤ m * (p * 10)
grow m p h = omega (arith, mul-le-mul_right m h)

scale : (m p : ℕ) → m * 10 * p ≡ m * (p * 10)
scale m p = omega arith

-- one more digit
digit_on : (b v k m w most : ℕ) (rest : Option ℕ) (p q : Bool) → ltb (digit_of b) 10 ≡ p → (v * 10 + digit_of b < m * 10 → rest ≡ Some w → w < m * 10 * 10 ^ k) → v < m → provided (p && q) rest ≡ Some w → w < m * 10 ^ suc k
digit_on b v k m w most rest true true t f l e =
    let d : digit_of b < 10 = ltb-true (digit_of b) 10 t in
    rw (pow-suc 10 k) (omega (arith, f (omega arith) e, scale m (10 ^ k)))
digit_on b v k m w most rest true false t f l e = let z : ◌≡◌ {A = ℕ} 0 1 = cc in absurd (omega arith)
digit_on b v k m w most rest false q t f l e = let z : ◌≡◌ {A = ℕ} 0 1 = cc in absurd (omega arith)

below : (k most : ℕ) (s : List ℕ) (v m w : ℕ) → length s ≤ k → v < m → number_from 10 most s v ≡ Some w → w < m * 10 ^ k
unfolding number_from
below zero most [] v m w h l e = let q : v ≡ w = cc in omega arith
below (suc k) most [] v m w h l e = let q : v ≡ w = cc in rw (pow-suc 10 k) (omega (arith, grow m (10 ^ k) (one-le-pow k 10 (omega arith))))
below zero most (b ∷ s) v m w h l e = absurd (omega arith)
below (suc k) most (b ∷ s) v m w h l e =
    digit_on b v k m w most (number_from 10 most s (v * 10 + digit_of b)) (ltb (digit_of b) 10) (leb (v * 10 + digit_of b) most) refl
    (λ (g : v * 10 + digit_of b < m * 10) (f : number_from 10 most s (v * 10 + digit_of b) ≡ Some w). below k most s (v * 10 + digit_of b) (m * 10) w (le_of_suc-le-suc h) g f)
    l e

part_length : (s : List ℕ) (w : Span) → length (bytes_of s w) ≤ w.end - w.start
unfolding bytes_of
part_length s w = go (leb w.end (length s))
  where
    go : (t : Bool) → length (cond t (take (w.end - w.start) (drop w.start s)) []) ≤ w.end - w.start
    go true = simp length-take (omega arith)
    go false = omega arith

decimal_below : (s : List ℕ) (k v : ℕ) → length s ≤ k → decimal_of s ≡ Some v → v < 10 ^ k
unfolding decimal_of
decimal_below [] k v h e = let z : ◌≡◌ {A = ℕ} 0 1 = cc in absurd (omega arith)
decimal_below (b ∷ s) k v h e = omega (arith, below k 18446744073709551615 (b ∷ s) 0 1 v h (omega arith) e)

module _ (s : List ℕ) (w : Span) (n : ℕ) (is : n ≡ w.end - w.start) where
  pub short_below : (v : ℕ) (d : Option ℕ) → n ≤ 9 → d ≡ decimal_of (bytes_of s w) → d ≡ Some v → v < 1000000000
  short_below v d h e f = let l : length (bytes_of s w) ≤ 9 = omega (arith, part_length s w) in decimal_below (bytes_of s w) 9 v l (sym e ∙ f)

  pub short_long : 9 < n → None ≡ short_decimal s w
  short_long h = let l : 9 < w.end - w.start = omega arith in sym (malformed s w (lt-leb (w.end - w.start) 9 l))

  pub short_is : (d : Option ℕ) → n ≤ 9 → d ≡ decimal_of (bytes_of s w) → d ≡ short_decimal s w
  unfolding short_decimal
  short_is d h e = let l : w.end - w.start ≤ 9 = omega arith in rw (le-leb (w.end - w.start) 9 l, e)

-- ---- the line

pub line_end_within : (s : List ℕ) → line_end s 0 ≤ length s
unfolding line_end first_of
line_end_within s = omega (arith, before_within 10 10 s)

-- ---- the line's tests, with the words a, b and c that were found

module _ (l : List ℕ) (a : Span) (ea : a ≡ word_at l 0) where
  pub one_word : length l ≤ a.end → None ≡ line_request l
  unfolding line_request
  one_word h = rw (← ea, le-ltb a.end (length l) h)

  module _ (b : Span) (eb : b ≡ word_at l (a.end + 1)) (ha : a.end < length l) where
    pub two_words : length l ≤ b.end → None ≡ line_request l
    unfolding line_request
    two_words h = rw (← ea, ← eb, lt-ltb a.end (length l) ha, le-ltb b.end (length l) h)

    module _ (c : Span) (ec : c ≡ word_at l (b.end + 1)) (hb : b.end < length l) where
      pub more_words : (c.end ≡ length l → ⊥) → None ≡ line_request l
      unfolding line_request
      more_words h = rw (← ea, ← eb, ← ec, lt-ltb a.end (length l) ha, lt-ltb b.end (length l) hb, ne_eqb c.end (length l) h)

      pub three_words : c.end ≡ length l → asked (short_decimal l a) (short_decimal l b) (short_decimal l c) ≡ line_request l
      unfolding line_request
      three_words h = rw (← ea, ← eb, ← ec, lt-ltb a.end (length l) ha, lt-ltb b.end (length l) hb, eq-eqb c.end (length l) h)
