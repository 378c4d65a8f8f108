-- For the proofs: nothing here must be believed.
-- What a good view is good for: its length is between 1,024 and 65,536 and divides the machine word, and the slot ends within the
-- list. The cell that a wrapped difference names. By the list of lengths. Assumes nothing.
use Rattle.std.specs.Prelude.{◌≡◌, ℕ, suc, ◌+◌, ◌-◌, ◌*◌, ◌/◌, ◌%◌, ◌^◌, ◌<◌, ◌≤◌, Bool, true, false, cond, ◌&&◌, leb, ◌≢◌, List, [], ◌∷◌, ◌==◌, nat_eq, nat_le, nat_lt, refl}
use Rattle.std.proofs.Common.{sym, ap, ◌∙◌, inl, inr, le-div_iff_mul-le, div-lt_iff_lt-mul, suc-mul, div-add-mod', arith, eq-eqb, ne_eqb, eqb-true, leb-true, le-leb, ltb-true, ltb-false}
use Rattle.std.proofs.lemmas.Bool.{false≢true, lt-leb}
use Rattle.std.proofs.Math.Decide.{dec_le}
use types.Run.{OneOf}
use Rattle.parts.specs.Laws.{flat_low}
use Rattle.lines.specs.Lines.{one_of, lengths, is_length, is_view, cell_of}

-- ---- a number is one of a list's
some : (ks : List ℕ) (n : ℕ) → OneOf ks n → one_of ks n ≡ true
some [] n h = absurd h
some (k ∷ []) n e = rw (eq-eqb n k e)
some (k ∷ j ∷ ks) n (inl e) = rw (eq-eqb n k e)
some (k ∷ j ∷ ks) n (inr h) = go (n == k) (some (j ∷ ks) n h)
  where
    go : (t : Bool) → one_of (j ∷ ks) n ≡ true → cond t true (one_of (j ∷ ks) n) ≡ true
    go true e = refl
    go false e = e

none : (ks : List ℕ) (n : ℕ) → (OneOf ks n → ⊥) → one_of ks n ≡ false
none [] n h = refl
none (k ∷ []) n h = rw (ne_eqb n k h)
none (k ∷ j ∷ ks) n h = rw (ne_eqb n k (λ e. h (inl e))) (none (j ∷ ks) n (λ g. h (inr g)))

-- what a test tells of each number of a list, it tells of one of them
abbrev all : (ℕ → Bool) → List ℕ → Bool
all f [] = true
all f (k ∷ ks) = f k && all f ks

each : (f : ℕ → Bool) (ks : List ℕ) (n : ℕ) → all f ks ≡ true → one_of ks n ≡ true → f n ≡ true
each f [] n a e = absurd (false≢true e)
each f (k ∷ ks) n a e = go (f k) (n == k) refl refl (each f ks n) a e
  where
    go : (x z : Bool) → f k ≡ x → (n == k) ≡ z → (all f ks ≡ true → one_of ks n ≡ true → f n ≡ true)
        → x && all f ks ≡ true → cond z true (one_of ks n) ≡ true → f n ≡ true
    go true true p r g a e = ap f (eqb-true n k r) ∙ p
    go true false p r g a e = g a e
    go false z p r g a e = absurd (false≢true a)

-- ---- lengths
pub record Length (len : ℕ) : Type 0 where
  pub least : 1024 ≤ len
  pub most : len ≤ 65536
  pub divides : 2 ^ 64 / len * len ≡ 2 ^ 64

pub length_of : (len : ℕ) → is_length len ≡ true → Length len
length_of len h =
    record {
      least = leb-true 1024 len (each (leb 1024) lengths len refl h);
      most = leb-true len 65536 (each (λ n. leb n 65536) lengths len refl h);
      divides = eqb-true (2 ^ 64 / len * len) (2 ^ 64) (each (λ n. nat_eq (2 ^ 64 / n * n) (2 ^ 64)) lengths len refl h);
    }

-- ---- views
pub record View (len slot have : ℕ) : Type 0 where
  pub size : is_length len ≡ true
  pub least : 1024 ≤ len
  pub most : len ≤ 65536
  pub ends : slot * len + len ≤ have

pub good : (len slot have : ℕ) → is_view len slot have ≡ true → View len slot have
unfolding is_view
good len slot have e = go (is_length len) (nat_le (slot * len + len) have) refl refl e
  where
    go : (x y : Bool) → is_length len ≡ x → nat_le (slot * len + len) have ≡ y → x && y ≡ true → View len slot have
    go true true p q e = let r = length_of len p in record { size = p; least = r.least; most = r.most; ends = leb-true (slot * len + len) have q }
    go true false p q e = absurd (false≢true e)
    go false y p q e = absurd (false≢true e)

-- a slot ends within the list just where it is below the number of whole rings
ends_test : (len slot have : ℕ) → 0 < len → nat_lt slot (have / len) ≡ nat_le (slot * len + len) have
ends_test len slot have h = go (nat_lt slot (have / len)) refl
  where
    go : (b : Bool) → nat_lt slot (have / len) ≡ b → b ≡ nat_le (slot * len + len) have
    go true e = sym (le-leb (slot * len + len) have
        (omega (arith, suc-mul slot len, (le-div_iff_mul-le {k = len} {x = suc slot} {y = have} h).0 (ltb-true slot (have / len) e))))
    go false e = sym (lt-leb (slot * len + len) have
        (omega (arith, suc-mul slot len, (div-lt_iff_lt-mul {k = len} {x = have} {y = suc slot} h).0 (omega (arith, ltb-false slot (have / len) e)))))

pub is_good : (len slot have : ℕ) → OneOf lengths len → (0 < len) × (nat_lt slot (have / len) ≡ is_view len slot have)
unfolding is_view
is_good len slot have h =
    let e : is_length len ≡ true = some lengths len h in
    let r = length_of len e in
    let p : 0 < len = omega arith in
    (p, ends_test len slot have p ∙ sym (ap (λ (b : Bool). b && nat_le (slot * len + len) have) e))

pub is_bad : (len slot have : ℕ) → (OneOf lengths len → ⊥) → false ≡ is_view len slot have
unfolding is_view
is_bad len slot have h = sym (ap (λ (b : Bool). b && nat_le (slot * len + len) have) (none lengths len h))

-- ---- the cell that a wrapped difference names
-- the wrapped difference is the cursor's own cell, b less, and whole turns
pub whole_turns : (len cursor b : ℕ) → is_length len ≡ true → cursor < 2 ^ 64 → b < len → (P : Type 0)
    → ((k : ℕ) → k * len + cursor % len ≡ (cursor + (2 ^ 64 - b)) % 2 ^ 64 + b → P) → P
whole_turns len cursor b g c h P f =
    let t = length_of len g in
    let y : cursor / len * len + cursor % len ≡ cursor = div-add-mod' cursor len in
    let q : ℕ = cursor / len in
    let d : ℕ = 2 ^ 64 / len in
    let l = t.least in
    let m = t.most in
    elim (dec_le b cursor) [
      | yes u ↦ f q (y ∙ sym (before cursor b u c))
      | no u ↦ f (q + d) (sym (sum q d len (cursor % len) cursor y t.divides) ∙ sym (after cursor b (omega arith) (omega arith) c))
    ]
  where
    before : (cursor back : ℕ) → back ≤ cursor → cursor < 2 ^ 64 → (cursor + (2 ^ 64 - back)) % 2 ^ 64 + back ≡ cursor
    before cursor back u c = omega arith

    after : (cursor back : ℕ) → cursor < back → back < 2 ^ 64 → cursor < 2 ^ 64 → (cursor + (2 ^ 64 - back)) % 2 ^ 64 + back ≡ cursor + 2 ^ 64
    after cursor back u w c = omega arith

    sum : (a q len s cursor : ℕ) → a * len + s ≡ cursor → q * len ≡ 2 ^ 64 → cursor + 2 ^ 64 ≡ (a + q) * len + s
    sum a q len s cursor y d = omega arith

-- neither a few cells on nor a few cells back, with a whole number of turns besides, is a cell the same
turns : (len a b back s : ℕ) → 0 < back → back < len → a * len + s + back ≢ b * len + s
turns len a b back s p h e =
    let z : back ≡ 0 = flat_low len a b back 0 h (omega arith) (omega arith) in
    omega arith

pub cell_other : (len cursor back : ℕ) → is_length len ≡ true → cursor < 2 ^ 64 → 0 < back → back < len → cell_of len cursor back ≢ cursor % len
unfolding cell_of
cell_other len cursor back g c p h e =
    let r : ℕ = (cursor + (2 ^ 64 - back)) % 2 ^ 64 in
    let x : r / len * len + cursor % len ≡ r = ap (λ (z : ℕ). r / len * len + z) (sym e) ∙ div-add-mod' r len in
    whole_turns len cursor back g c h ⊥ (λ k t. turns len (r / len) k back (cursor % len) p h (ap (λ (z : ℕ). z + back) x ∙ sym t))
