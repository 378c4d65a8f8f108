-- For the proofs: nothing here must be believed.
-- A tooth more needs so many cells more as none before it needed. By induction over the cells. Assumes nothing.
use Rattle.std.specs.Prelude.{◌≡◌, refl, Bool, true, false, cond, ◌&&◌, ◌||◌, ℕ, zero, suc, ◌+◌, ◌-◌, ◌<◌, ◌≤◌, leb, ltb, eqb}
use Rattle.std.proofs.Common.{sym, ap, ◌∙◌, subst, add-zero, le_refl, not-suc-le-zero, add-one, arith, eq-eqb, ne_eqb, le-leb, lt-ltb, le-ltb}
use Rattle.std.proofs.lemmas.Bool.{false≢true, lt-leb}
use Rattle.std.proofs.Math.Bool.{or-true, or-false, and-false}
use Rattle.std.proofs.Math.Nat.{le_step}
use Rattle.std.proofs.Math.Decide.{dec_le, ℕ_discrete}
use Rattle.std.specs.Int.{abs_diff}
use Rattle.teeth.specs.Teeth.{is_of_four, is_needed, how_many}

-- ---- a tooth's four cells: from the first to three after it

both : (a b c d : ℕ) → a ≤ b → c ≤ d → leb a b && leb c d ≡ true
both a b c d h k = rw (le-leb a b h, le-leb c d k)

past : (a b c d : ℕ) → d < c → leb a b && leb c d ≡ false
past a b c d h = rw (lt-leb c d h) (and-false (leb a b))

pub four_inside : (a b : ℕ) → a ≤ b → b ≤ a + 3 → is_of_four a b ≡ true
unfolding is_of_four
four_inside a b l u = both a b b _ l (omega arith)

pub four_before : (a b : ℕ) → b < a → is_of_four a b ≡ false
unfolding is_of_four
four_before a b h = rw (lt-leb a b h)

pub four_after : (a b : ℕ) → a + 3 < b → is_of_four a b ≡ false
unfolding is_of_four
four_after a b h = past a b b _ (omega arith)

-- ---- the cells that some teeth need

pub needed_some : (f : ℕ → ℕ) (n j b : ℕ) → j < n → is_of_four (f j) b ≡ true → is_needed f n b ≡ true
unfolding is_needed
needed_some f zero j b h w = absurd (not-suc-le-zero h)
needed_some f (suc n) j b h w =
    elim (ℕ_discrete n j) [
      | yes e ↦ rw (e, w) (or-true (is_needed f j b))
      | no ne ↦ rw (needed_some f n j b (omega arith) w)
    ]

pub needed_same : (f g : ℕ → ℕ) (n b : ℕ) → ((j : ℕ) → j < n → f j ≡ g j) → is_needed f n b ≡ is_needed g n b
unfolding is_needed
needed_same f g zero b h = refl
needed_same f g (suc n) b h = rw (needed_same f g n b (λ j l. h j (le_step l)), h n (le_refl (suc n)))

pub needed_no : (f : ℕ → ℕ) (n b : ℕ) → ((j : ℕ) → j < n → is_of_four (f j) b ≡ false) → is_needed f n b ≡ false
unfolding is_needed
needed_no f zero b h = refl
needed_no f (suc n) b h = rw (needed_no f n b (λ j l. h j (le_step l)), h n (le_refl (suc n)))

-- ---- how many they are

many_same : (p q : ℕ → Bool) (m : ℕ) → ((b : ℕ) → b < m → p b ≡ q b) → how_many p m ≡ how_many q m
unfolding how_many
many_same p q zero h = refl
many_same p q (suc m) h = rw (many_same p q m (λ b l. h b (le_step l)), h m (le_refl (suc m)))

abbrev with : (ℕ → Bool) → ℕ → ℕ → Bool
with p x b = p b || eqb b x

-- one number more
many_past : (p : ℕ → Bool) (x m : ℕ) → m ≤ x → how_many (with p x) m ≡ how_many p m
many_past p x m h = many_same (with p x) p m (λ b l. rw (ne_eqb b x (λ e. omega arith)) (or-false (p b)))

many_with : (p : ℕ → Bool) (x m : ℕ) → x < m → how_many (with p x) m ≡ how_many p m + cond (p x) 0 1
unfolding how_many
many_with p x zero h = absurd (not-suc-le-zero h)
many_with p x (suc m) h =
    elim (ℕ_discrete m x) [
      | yes e ↦ rw (many_past p x m (omega arith), eq-eqb m x e, or-true (p m), ← e) (go (p m) (how_many p m))
      | no ne ↦ rw (many_with p x m (omega arith), ne_eqb m x ne, or-false (p m)) (swap (how_many p m) (cond (p x) 0 1) (cond (p m) 1 0))
    ]
  where
    go : (t : Bool) (n : ℕ) → n + 1 ≡ n + cond t 1 0 + cond t 0 1
    go true n = omega arith
    go false n = omega arith

    swap : (a b c : ℕ) → a + b + c ≡ a + c + b
    swap a b c = omega arith

pub many_none : (f : ℕ → ℕ) (m : ℕ) → 0 ≡ how_many (is_needed f 0) m
unfolding how_many is_needed
many_none f zero = refl
many_none f (suc m) = omega (arith, many_none f m)

-- ---- the four cells of a tooth

out : (t x y z w : Bool) → x ≡ false → y ≡ false → z ≡ false → w ≡ false → t || false ≡ t || x || y || z || w
out true x y z w a b c d = refl
out false x y z w a b c d = rw (a, b, c, d)

in4 : (t : Bool) (a b k : ℕ) → b ≡ a + k → k < 4 → t || eqb b a || eqb b (a + 1) || eqb b (a + 2) || eqb b (a + 3) ≡ true
in4 true a b k e h = refl
in4 false a b zero e h = rw (eq-eqb b a (omega arith))
in4 false a b (suc zero) e h = rw (eq-eqb b (a + 1) (omega arith), or-true (eqb b a))
in4 false a b (suc (suc zero)) e h = rw (eq-eqb b (a + 2) (omega arith), or-true (eqb b a || eqb b (a + 1)))
in4 false a b (suc (suc (suc zero))) e h = rw (eq-eqb b (a + 3) (omega arith), or-true (eqb b a || eqb b (a + 1) || eqb b (a + 2)))
in4 false a b (suc (suc (suc (suc k)))) e h = absurd (omega arith)

four : (p : ℕ → Bool) (a b : ℕ) → p b || is_of_four a b ≡ with (with (with (with p a) (a + 1)) (a + 2)) (a + 3) b
four p a b =
    let far : (a < b + 1 → a + 3 < b) → p b || false ≡ p b || eqb b a || eqb b (a + 1) || eqb b (a + 2) || eqb b (a + 3) =
    λ h. out (p b) (eqb b a) (eqb b (a + 1)) (eqb b (a + 2)) (eqb b (a + 3))
    (ne_eqb b a (λ e. omega (arith, h (omega arith))))
    (ne_eqb b (a + 1) (λ e. omega (arith, h (omega arith))))
    (ne_eqb b (a + 2) (λ e. omega (arith, h (omega arith))))
    (ne_eqb b (a + 3) (λ e. omega (arith, h (omega arith))))
    in
    elim (dec_le a b) [
      | yes l ↦ elim (dec_le b (a + 3)) [
        | yes u ↦ rw (four_inside a b l u, or-true (p b)) (sym (in4 (p b) a b (b - a) (omega arith) (omega arith)))
        | no u ↦ rw (four_after a b (omega arith)) (far (λ h. omega arith))
      ]
      | no l ↦ rw (four_before a b (omega arith)) (far (λ h. omega arith))
    ]

without : (p : ℕ → Bool) (x b : ℕ) → (b ≡ x → ⊥) → with p x b ≡ p b
without p x b h = rw (ne_eqb b x h) (or-false (p b))

-- ---- a tooth more

-- 1 for a cell that none of the first i teeth needs
unfoldable pub fresh : (first : ℕ → ℕ) (i back : ℕ) → ℕ
fresh first i b = cond (is_needed first i b) 0 1

-- the size with the cells of tooth i
unfoldable pub fresh_tooth : (first : ℕ → ℕ) (i size : ℕ) → ℕ
fresh_tooth first i size = size + fresh first i (first i) + fresh first i (first i + 1) + fresh first i (first i + 2) + fresh first i (first i + 3)

pub size_more : (f : ℕ → ℕ) (n m : ℕ) → f n + 3 < m → fresh_tooth f n (how_many (is_needed f n) m) ≡ how_many (is_needed f (n + 1)) m
unfolding is_needed fresh_tooth fresh
size_more f n m h =
    let a : ℕ = f n in
    let p0 : ℕ → Bool = is_needed f n in
    let p1 : ℕ → Bool = with p0 a in
    let p2 : ℕ → Bool = with p1 (a + 1) in
    let p3 : ℕ → Bool = with p2 (a + 2) in
    let e1 : p1 (a + 1) ≡ p0 (a + 1) = without p0 a (a + 1) (λ e. omega arith) in
    let e2 : p2 (a + 2) ≡ p0 (a + 2) = without p1 (a + 1) (a + 2) (λ e. omega arith) ∙ without p0 a (a + 2) (λ e. omega arith) in
    let e3 : p3 (a + 3) ≡ p0 (a + 3) =
    without p2 (a + 2) (a + 3) (λ e. omega arith) ∙ without p1 (a + 1) (a + 3) (λ e. omega arith) ∙ without p0 a (a + 3) (λ e. omega arith)
    in
    let s1 = many_with p0 a m (omega arith) in
    let s2 = many_with p1 (a + 1) m (omega arith) ∙ ap (λ (t : Bool). how_many p1 m + cond t 0 1) e1 in
    let s3 = many_with p2 (a + 2) m (omega arith) ∙ ap (λ (t : Bool). how_many p2 m + cond t 0 1) e2 in
    let s4 = many_with p3 (a + 3) m (omega arith) ∙ ap (λ (t : Bool). how_many p3 m + cond t 0 1) e3 in
    let s0 = many_same (is_needed f (suc n)) (with p3 (a + 3)) m (λ b l. four p0 a b) in
    rw (add-one n)
    (sym
    (s0
    ∙ s4
    ∙ ap (λ (x : ℕ). x + cond (p0 (a + 3)) 0 1)
    (s3 ∙ ap (λ (x : ℕ). x + cond (p0 (a + 2)) 0 1) (s2 ∙ ap (λ (x : ℕ). x + cond (p0 (a + 1)) 0 1) s1))))

pub tooth_same : (f g : ℕ → ℕ) (i n : ℕ) → ((j : ℕ) → j < i + 1 → f j ≡ g j) → fresh_tooth f i n ≡ fresh_tooth g i n
unfolding fresh_tooth fresh
tooth_same f g i n h =
    let e = h i (omega arith) in
    let s : (b : ℕ) → is_needed f i b ≡ is_needed g i b = λ b. needed_same f g i b (λ j l. h j (omega arith)) in
    rw (e, s (g i), s (g i + 1), s (g i + 2), s (g i + 3))

pub fresh_some : (f : ℕ → ℕ) (i j b n : ℕ) → j < i → is_of_four (f j) b ≡ true → n ≡ n + fresh f i b
unfolding fresh
fresh_some f i j b n l w = rw (needed_some f i j b l w) (omega arith)

pub fresh_none : (f : ℕ → ℕ) (i b n : ℕ) → is_needed f i b ≡ false → n + 1 ≡ n + fresh f i b
unfolding fresh
fresh_none f i b n h = rw h

-- ---- the tests of the code

pub four_near : (a b : ℕ) → a ≤ b → ltb (b - a) 4 ≡ is_of_four a b
four_near a b h =
    elim (dec_le b (a + 3)) [
      | yes u ↦ lt-ltb (b - a) 4 (omega arith) ∙ sym (four_inside a b h u)
      | no u ↦ le-ltb (b - a) 4 (omega arith) ∙ sym (four_after a b (omega arith))
    ]

pub record Inside (a b : ℕ) : Type 0 where
  pub least : a ≤ b
  pub most : b ≤ a + 3

pub inside_of : (a b : ℕ) → is_of_four a b ≡ true → Inside a b
inside_of a b h =
    elim (dec_le a b) [
      | yes l ↦ elim (dec_le b (a + 3)) [
        | yes u ↦ record { least = l; most = u }
        | no u ↦ absurd (false≢true (sym (four_after a b (omega arith)) ∙ h))
      ]
      | no l ↦ absurd (false≢true (sym (four_before a b (omega arith)) ∙ h))
    ]

-- ---- a tooth that no earlier one is near

pub record Apart (f a : ℕ) : Type 0 where
  pub none : (k : ℕ) → k < 4 → is_of_four f (a + k) ≡ false

pub apart_from : (f a : ℕ) → 3 < abs_diff f a → Apart f a
apart_from f a h =
    elim (dec_le f a) [
      | yes l ↦ record { none = λ k u. four_after f (a + k) (omega arith) }
      | no l ↦ record { none = λ k u. four_before f (a + k) (omega arith) }
    ]

-- none of the first i teeth needs a cell of the four
pub record Clear (f : ℕ → ℕ) (i a : ℕ) : Type 0 where
  pub none : (k : ℕ) → k < 4 → is_needed f i (a + k) ≡ false

pub clear_of : (f : ℕ → ℕ) (i a : ℕ) → ((j : ℕ) → j < i → Apart (f j) a) → Clear f i a
clear_of f i a h = record { none = λ k u. needed_no f i (a + k) (λ j l. (h j l).none k u) }

pub clear_size : (f : ℕ → ℕ) (i n : ℕ) → Clear f i (f i) → n + 4 ≡ fresh_tooth f i n
unfolding fresh_tooth fresh
clear_size f i n c =
    let a : ℕ = f i in
    let e : is_needed f i a ≡ false = subst (λ (b : ℕ). is_needed f i b ≡ false) (add-zero a) (c.none 0 (omega arith)) in
    rw (e, c.none 1 (omega arith), c.none 2 (omega arith), c.none 3 (omega arith)) (omega arith)
