-- Laws of reading: one turn of each loop is one step of its definition, at an index i of the list, and a number that is read is within its bound. By
-- cases on the tests. Assumes nothing.
use mathlib.Core.Path.{◌≡◌, refl, sym, ◌∙◌}
use mathlib.Core.Bool.{Bool, true, false, cond, ◌&&◌, ◌||◌}
use mathlib.Core.List.{List, [], ◌∷◌}
use Prim.Native.Nat.{ℕ, ◌+◌, ◌-◌, ◌*◌, ◌/◌, ◌≤◌, ◌<◌}
use native.Mathlib.Nat.{le-div_iff_mul-le, div-lt_iff_lt-mul}
use native.Mathlib.Numerals.{add-one}
use native.Mathlib.Omega.{arith}
use Rattle.std.proofs.Common.{Option, None, Some, not, inl, inr}
use Rattle.std.specs.List.{prefix_len, PartBy}
use Rattle.std.specs.Option.{unwrap_or}
use Rattle.std.proofs.lemmas.List.Sums.{prefix_len-le-length}
use lib.Dec.{ltb, leb, eqb}
use lib.ListN.{length, drop, take, get_or, length-take, drop_of_length-le}
use lib.Seq.{drop-cons}
use borrow.Author.Tests.{lt-ltb, le-ltb, le-leb, lt-leb, eq-eqb, ne_eqb, leb-true}
use Rattle.text.specs.declared.Span.{Span}
use Rattle.text.specs.Text.{count_before, count, first_of, bytes_of, digit_of, provided, number_from, decimal_of, hex_of}

-- ---- the first of two bytes

count_is : (a b : ℕ) (s : List ℕ) → prefix_len (λ x. not (eqb x a) && not (eqb x b)) s ≡ count_before a b s
unfolding count_before
count_is a b [] = refl
count_is a b (x ∷ s) = go (eqb x a) (eqb x b) (count_is a b s)
  where
    go : (p q : Bool) {m n : ℕ} → m ≡ n → cond (not p && not q) (1 + m) 0 ≡ count (p || q) n
    go true q e = refl
    go false true e = refl
    go false false e = omega arith

pub first_is : (a b : ℕ) (s : List ℕ) (at n : ℕ) → n ≡ length (take (prefix_len (λ x. not (eqb x a) && not (eqb x b)) (drop at s)) (drop at s)) → at + n ≡ first_of a b s at
unfolding first_of
first_is a b s at n e = omega (arith, e ∙ length-take {A = ℕ} _ (drop at s), prefix_len-le-length (λ x. not (eqb x a) && not (eqb x b)) (drop at s), count_is a b (drop at s))

-- ---- a number

module _ (base most : ℕ) (s : List ℕ) (i v d : ℕ) where
  number_is : i < length s → d ≡ digit_of (get_or s i 0) → number_from base most (drop i s) v ≡ provided (ltb d base && leb (v * base + d) most) (number_from base most (drop (i + 1) s) (v * base + d))
  unfolding number_from
  number_is h e = rw (drop-cons s i 0 h, ← e, add-one)

  pub number_no_digit : i < length s → d ≡ digit_of (get_or s i 0) → base ≤ d → None ≡ number_from base most (drop i s) v
  number_no_digit h e k = sym (number_is h e ∙ rw (le-ltb d base k))

  pub too_large : 0 < base → d ≤ most → (most - d) / base < v → most < v * base + d
  too_large p q k = let l : most - d < v * base = (div-lt_iff_lt-mul p).0 k in omega arith

  pub not_large : 0 < base → d ≤ most → v ≤ (most - d) / base → v * base + d ≤ most
  not_large p q k = let l : v * base ≤ most - d = (le-div_iff_mul-le p).0 k in omega arith

  pub number_large : i < length s → d ≡ digit_of (get_or s i 0) → d < base → most < v * base + d → None ≡ number_from base most (drop i s) v
  number_large h e k l = sym (number_is h e ∙ rw (lt-ltb d base k, lt-leb (v * base + d) most l))

  pub number_on : i < length s → d ≡ digit_of (get_or s i 0) → d < base → v * base + d ≤ most → number_from base most (drop (i + 1) s) (v * base + d) ≡ number_from base most (drop i s) v
  number_on h e k l = sym (number_is h e ∙ rw (lt-ltb d base k, le-leb (v * base + d) most l))

  pub number_end : length s ≤ i → Some v ≡ number_from base most (drop i s) v
  unfolding number_from
  number_end h = let e : drop i s ≡ [] = drop_of_length-le s h in rw e

-- a number that is read is `most` at most
pub within : (base most : ℕ) (s : List ℕ) (v w : ℕ) → v ≤ most → number_from base most s v ≡ Some w → w ≤ most
unfolding number_from
within base most [] v w h e = let q : v ≡ w = cc in omega arith
within base most (b ∷ s) v w h e =
    go (ltb (digit_of b) base) (leb (v * base + digit_of b) most) refl e
    (λ (k : v * base + digit_of b ≤ most) (f : number_from base most s (v * base + digit_of b) ≡ Some w). within base most s (v * base + digit_of b) w k f)
  where
    go : (p q : Bool) → leb (v * base + digit_of b) most ≡ q → provided (p && q) (number_from base most s (v * base + digit_of b)) ≡ Some w → (v * base + digit_of b ≤ most → number_from base most s (v * base + digit_of b) ≡ Some w → w ≤ most) → w ≤ most
    go true true t e f = f (leb-true (v * base + digit_of b) most t) e
    go true false t e f = let z : ◌≡◌ {A = ℕ} 0 1 = cc in omega arith
    go false q t e f = let z : ◌≡◌ {A = ℕ} 0 1 = cc in omega arith

-- ---- a part

pub part_got : {B : Type 0} (now : B → List ℕ) (s : List ℕ) (w : Span) (r : Option B) (d : B) → PartBy now s w.start w.end r → now d ≡ [] → now (unwrap_or r d) ≡ bytes_of s w
unfolding bytes_of
part_got now s w (Some x) d h e = rw (le-leb w.end (length s) h.0.1) h.0.2
part_got now s w None d h e =
    elim h.0 [ inl k ↦ let z : w.end - w.start ≡ 0 = omega arith in rw z (go (leb w.end (length s))) | inr k ↦ rw (lt-leb w.end (length s) k) e ]
  where
    go : (p : Bool) → now d ≡ cond p [] []
    go true = e
    go false = e

pub decimal_none : (s t : List ℕ) → length s < 1 → s ≡ t → None ≡ decimal_of t
unfolding decimal_of
decimal_none [] t h e = rw (← e)
decimal_none (b ∷ s) t h e = absurd (omega arith)

pub decimal_is : (s t : List ℕ) (n : Option ℕ) → 0 < length s → s ≡ t → n ≡ number_from 10 18446744073709551615 s 0 → n ≡ decimal_of t
unfolding decimal_of
decimal_is [] t n h e f = absurd (omega arith)
decimal_is (b ∷ s) t n h e f = rw (← e) f

-- ---- eight hexadecimal digits

pub hex_other : (s t : List ℕ) → s ≡ t → (length s ≡ 8 → ⊥) → None ≡ hex_of t
unfolding hex_of
hex_other s t e h = rw (← e, ne_eqb (length s) 8 h)

pub hex_is : (s t : List ℕ) (n : Option ℕ) (m : ℕ) → s ≡ t → length s ≡ 8 → m ≡ 4294967295 → n ≡ number_from 16 m s 0 → n ≡ hex_of t
unfolding hex_of
hex_is s t n m e h k f = rw (← e, eq-eqb (length s) 8 h, ← k) f
