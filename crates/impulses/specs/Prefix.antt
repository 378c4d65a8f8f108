-- What an input asks for is decided by its first line, and by its first 30 bytes: a line of three decimals has 29 bytes at most, so a longer one is no
-- request however it goes on. Hence a program may stop at the newline or after 64 bytes and leave the rest. Assumes nothing.
use Rattle.std.specs.Prelude.{◌≡◌, ℕ, zero, suc, ◌+◌, ◌-◌, ◌<◌, ◌≤◌, Bool, true, false, cond, ◌&&◌, ◌||◌, List, [], ◌∷◌, length, take, ◌==◌, nat_le, Option, None, Some}
use Rattle.std.proofs.Math.Path.{refl, sym}
use Rattle.std.proofs.Common.{ap, ◌∙◌, take-take}
use native.Mathlib.Omega.{arith}
use Rattle.std.proofs.Math.ListN.{length-take}
use borrow.Author.Tests.{leb-true, leb-false, ne_eqb}
use Rattle.text.specs.declared.Span.{Span}
use Rattle.text.specs.Text.{count, count_before, first_of, word_at, line_end}
use Rattle.impulses.specs.declared.Asked.{Asked}
use Rattle.impulses.specs.Impulse.{short_decimal, asked, line_request, request_of}

abbrev LineDecides : Type 0
LineDecides = (n : ℕ) (s : List ℕ) → line_end s 0 ≤ n → request_of (take n s) ≡ request_of s

abbrev PrefixDecides : Type 0
PrefixDecides = (n : ℕ) (s : List ℕ) → 30 ≤ n → request_of (take n s) ≡ request_of s

-- ---- a line of 30 bytes or more

no_second : (d e : Option ℕ) → asked d None e ≡ None
unfolding asked
no_second (Some v) e = refl
no_second None e = refl

no_third : (d e : Option ℕ) → asked d e None ≡ None
unfolding asked
no_third (Some v) (Some w) = refl
no_third (Some v) None = refl
no_third None e = refl

either_way : (t : Bool) → ◌≡◌ {A = Option Asked} (cond t None None) None
either_way true = refl
either_way false = refl

last_false : (t u : Bool) → t && u && false ≡ false
last_false true true = refl
last_false true false = refl
last_false false u = refl

pub malformed : (s : List ℕ) (w : Span) → nat_le (w.end - w.start) 9 ≡ false → short_decimal s w ≡ None
unfolding short_decimal
malformed s w e = rw e

start_is : (s : List ℕ) (at : ℕ) (w : Span) → w ≡ word_at s at → w.start ≡ at
unfolding word_at
start_is s at w e = ap (λ (v : Span). v.start) e

module _ (l : List ℕ) (a b c : Span) (ea : a ≡ word_at l 0) (eb : b ≡ word_at l (a.end + 1)) (ec : c ≡ word_at l (b.end + 1)) (h : 30 ≤ length l) where
  words : (p q r : Bool) → nat_le (a.end - a.start) 9 ≡ p → nat_le (b.end - b.start) 9 ≡ q → nat_le (c.end - c.start) 9 ≡ r → line_request l ≡ None
  unfolding line_request asked
  words false q r x y z = rw (← ea, ← eb, ← ec, malformed l a x, either_way)
  words true false r x y z = rw (← ea, ← eb, ← ec, malformed l b y, no_second, either_way)
  words true true false x y z = rw (← ea, ← eb, ← ec, malformed l c z, no_third, either_way)
  words true true true x y z =
      let i : a.end - a.start ≤ 9 = leb-true _ 9 x in
      let j : b.end - b.start ≤ 9 = leb-true _ 9 y in
      let k : c.end - c.start ≤ 9 = leb-true _ 9 z in
      let m : c.end < length l = omega (arith, start_is l 0 a ea, start_is l (a.end + 1) b eb, start_is l (b.end + 1) c ec) in
      let n : c.end ≡ length l → ⊥ = λ e. omega arith in
      rw (← ea, ← eb, ← ec, ne_eqb c.end (length l) n, last_false)

long_line : (l : List ℕ) → 30 ≤ length l → line_request l ≡ None
long_line l h =
    let a = word_at l 0 in
    let b = word_at l (a.end + 1) in
    let c = word_at l (b.end + 1) in
    words l a b c refl refl refl h (nat_le (a.end - a.start) 9) (nat_le (b.end - b.start) 9) (nat_le (c.end - c.start) 9) refl refl refl

-- ---- the line of a prefix

module _ (a b : ℕ) where
  short_step : (t : Bool) (p q n : ℕ) → (q ≤ n → p ≡ q) → count t q ≤ suc n → count t p ≡ count t q
  short_step true p q n f h = refl
  short_step false p q n f h = ap suc (f (omega arith))

  before_short : (n : ℕ) (s : List ℕ) → count_before a b s ≤ n → count_before a b (take n s) ≡ count_before a b s
  unfolding count_before
  before_short zero s h = omega arith
  before_short (suc n) [] h = refl
  before_short (suc n) (x ∷ s) h = short_step (x == a || x == b) (count_before a b (take n s)) (count_before a b s) n (before_short n s) h

  long_step : (t : Bool) (p q n : ℕ) → (n ≤ q → p ≡ n) → suc n ≤ count t q → count t p ≡ suc n
  long_step true p q n f h = absurd (omega arith)
  long_step false p q n f h = ap suc (f (omega arith))

  before_long : (n : ℕ) (s : List ℕ) → n ≤ count_before a b s → count_before a b (take n s) ≡ n
  unfolding count_before
  before_long zero s h = refl
  before_long (suc n) [] h = absurd (omega arith)
  before_long (suc n) (x ∷ s) h = long_step (x == a || x == b) (count_before a b (take n s)) (count_before a b s) n (before_long n s) h

  within_step : (t : Bool) (p n : ℕ) → p ≤ n → count t p ≤ suc n
  within_step true p n h = omega arith
  within_step false p n h = omega arith

  pub before_within : (s : List ℕ) → count_before a b s ≤ length s
  unfolding count_before
  before_within [] = omega arith
  before_within (x ∷ s) = within_step (x == a || x == b) (count_before a b s) (length s) (before_within s)

pub line_decides : LineDecides
unfolding request_of line_end first_of
line_decides n s m = rw (before_short 10 10 n s (omega arith), take-take (0 + count_before 10 10 s) n s m)

module _ (n : ℕ) (s : List ℕ) (h : 30 ≤ n) where
  decided : (t : Bool) → nat_le (line_end s 0) n ≡ t → request_of (take n s) ≡ request_of s
  unfolding request_of line_end first_of
  decided true e = line_decides n s (leb-true _ n e)
  decided false e =
      let m : n < 0 + count_before 10 10 s = leb-false _ n e in
      let f : count_before 10 10 (take n s) ≡ n = before_long 10 10 n s (omega arith) in
      let p : 30 ≤ length (take (0 + n) (take n s)) = simp length-take (omega (arith, before_within 10 10 s)) in
      let q : 30 ≤ length (take (0 + count_before 10 10 s) s) = simp length-take (omega (arith, before_within 10 10 s)) in
      rw f (long_line _ p ∙ sym (long_line _ q))

pub prefix_decides : PrefixDecides
prefix_decides n s h = decided n s h (nat_le (line_end s 0) n) refl
