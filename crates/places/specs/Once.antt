-- For the proofs: nothing here must be believed.
-- `exactly` in words, both ways, and what rules it out; as many things as numbers. By induction over the things. Assumes nothing.
use Rattle.std.specs.Prelude.{◌≡◌, refl, Bool, true, false, ◌&&◌, ℕ, zero, suc, ◌≤◌, ◌<◌, ltb, eqb}
use Rattle.std.proofs.Common.{sym, ap, ◌∙◌, le_refl, not-suc-le-zero, arith, lt-ltb, ltb-true, eq-eqb, ne_eqb, eqb-true}
use Rattle.std.proofs.Math.Nat.{le_step}
use Rattle.std.proofs.Math.Decide.{ℕ_discrete, dec_le}
use Rattle.std.proofs.lemmas.Bool.{eqb-false}
use Rattle.places.specs.Places.{tally, count, pick, place_of, every, exactly}

-- every number below n stands exactly once, and no other stands
pub record Placed (f : ℕ → ℕ) (N n : ℕ) : Type 0 where
  pub known : (b : ℕ) → b < N → f b < n
  pub at : (k : ℕ) → k < n → place_of f k N < N
  pub stands : (k : ℕ) → k < n → f (place_of f k N) ≡ k
  pub sole : (b c : ℕ) → b < N → c < N → f b ≡ f c → b ≡ c

-- ---- every

pub both : (a b : Bool) → a && b ≡ true → (a ≡ true) × (b ≡ true)
both true b e = (refl, e)
both false b e = ((cc), (cc))

pub every_at : (p : ℕ → Bool) (n k : ℕ) → every p n ≡ true → k < n → p k ≡ true
unfolding every
every_at p zero k e l = absurd (not-suc-le-zero l)
every_at p (suc n) k e l =
    let ab = both (every p n) (p n) e in
    elim (ℕ_discrete k n) [ yes s ↦ ap p s ∙ ab.1 | no ne ↦ every_at p n k ab.0 (omega arith) ]

pub every_of : (p : ℕ → Bool) (n : ℕ) → ((k : ℕ) → k < n → p k ≡ true) → every p n ≡ true
unfolding every
every_of p zero h = refl
every_of p (suc n) h = (λ i. every_of p n (λ k l. h k (le_step l)) i && h n (le_refl (suc n)) i)

-- ---- count

-- none of them
pub count_none : (f : ℕ → ℕ) (k N : ℕ) → ((b : ℕ) → b < N → f b ≡ k → ⊥) → count f k N ≡ 0
unfolding count
count_none f k zero h = refl
count_none f k (suc N) h = (λ i. tally (ne_eqb (f N) k (h N (le_refl (suc N))) i) (count f k N)) ∙ count_none f k N (λ b l. h b (le_step l))

-- one of them
pub count_one : (f : ℕ → ℕ) (k N b : ℕ) → b < N → f b ≡ k → ((c : ℕ) → c < N → f c ≡ k → c ≡ b) → count f k N ≡ 1
unfolding count
count_one f k zero b l e h = absurd (not-suc-le-zero l)
count_one f k (suc N) b l e h =
    elim (ℕ_discrete N b) [
      | yes s ↦
          (λ i. tally (eq-eqb (f N) k (ap f s ∙ e) i) (count f k N))
          ∙ ap suc (count_none f k N (λ c u d. let g : c ≡ b = h c (le_step u) d in omega arith))
      | no ne ↦
          (λ i. tally (ne_eqb (f N) k (λ d. ne (h N (le_refl (suc N)) d)) i) (count f k N))
          ∙ count_one f k N b (omega arith) e (λ c u d. h c (le_step u) d)
    ]

-- read back
none_of : (f : ℕ → ℕ) (k N b : ℕ) → count f k N ≡ 0 → b < N → f b ≡ k → ⊥
unfolding count
none_of f k zero b z l e = absurd (not-suc-le-zero l)
none_of f k (suc N) b z l e = go (none_of f k N b) (eqb (f N) k) refl z
  where
    go : (count f k N ≡ 0 → b < N → f b ≡ k → ⊥) → (t : Bool) → eqb (f N) k ≡ t → tally t (count f k N) ≡ 0 → ⊥
    go more true u z' = omega arith
    go more false u z' =
        elim (ℕ_discrete b N) [ yes s ↦ eqb-false (f N) k u (ap f (sym s) ∙ e) | no ne ↦ more z' (omega arith) e ]

pub sole_of : (f : ℕ → ℕ) (k N b c : ℕ) → count f k N ≡ 1 → b < N → c < N → f b ≡ k → f c ≡ k → b ≡ c
unfolding count
sole_of f k zero b c z l m e d = absurd (not-suc-le-zero l)
sole_of f k (suc N) b c z l m e d = go (sole_of f k N b c) (eqb (f N) k) refl z
  where
    go : (count f k N ≡ 1 → b < N → c < N → f b ≡ k → f c ≡ k → b ≡ c) → (t : Bool) → eqb (f N) k ≡ t
        → tally t (count f k N) ≡ 1 → b ≡ c
    go more true u z' =
        let o : count f k N ≡ 0 = omega arith in
        elim (ℕ_discrete b N) [
          | yes s ↦ elim (ℕ_discrete c N) [ yes r ↦ s ∙ sym r | no nr ↦ absurd (none_of f k N c o (omega arith) d) ]
          | no ns ↦ absurd (none_of f k N b o (omega arith) e)
        ]
    go more false u z' =
        elim (ℕ_discrete b N) [
          | yes s ↦ absurd (eqb-false (f N) k u (ap f (sym s) ∙ e))
          | no ns ↦ elim
              (ℕ_discrete c N) [ yes r ↦ absurd (eqb-false (f N) k u (ap f (sym r) ∙ d)) | no nr ↦ more z' (omega arith) (omega arith) e d ]
        ]

pub place_of_lem : (f : ℕ → ℕ) (k N : ℕ) → 1 ≤ count f k N → (place_of f k N < N) × (f (place_of f k N) ≡ k)
unfolding count place_of
place_of_lem f k zero h = absurd (not-suc-le-zero h)
place_of_lem f k (suc N) h = go (place_of_lem f k N) (eqb (f N) k) refl h
  where
    go : (1 ≤ count f k N → (place_of f k N < N) × (f (place_of f k N) ≡ k)) → (t : Bool) → eqb (f N) k ≡ t → 1 ≤ tally t (count f k N)
        → (pick t N (place_of f k N) < suc N) × (f (pick t N (place_of f k N)) ≡ k)
    go more true u h' = (le_refl (suc N), eqb-true (f N) k u)
    go more false u h' = let r = more h' in (le_step r.0, r.1)

-- ---- exactly, in words

pub exactly_placed : (f : ℕ → ℕ) (N n : ℕ) → exactly f N n ≡ true → Placed f N n
unfolding exactly
exactly_placed f N n e =
    let ab = both (every (λ b. ltb (f b) n) N) (every (λ k. eqb (count f k N) 1) n) e in
    let kn : (b : ℕ) → b < N → f b < n = λ b l. ltb-true (f b) n (every_at (λ b. ltb (f b) n) N b ab.0 l) in
    let one : (k : ℕ) → k < n → count f k N ≡ 1 = λ k l. eqb-true (count f k N) 1 (every_at (λ k. eqb (count f k N) 1) n k ab.1 l) in
    record {
      known = kn;
      at = λ k l. (place_of_lem f k N (omega (arith, one k l))).0;
      stands = λ k l. (place_of_lem f k N (omega (arith, one k l))).1;
      sole = λ b c l m d. sole_of f (f c) N b c (one (f c) (kn c m)) l m d refl;
    }

pub placed_exactly : (f : ℕ → ℕ) (N n : ℕ) → Placed f N n → exactly f N n ≡ true
unfolding exactly
placed_exactly f N n p =
    λ i. every_of (λ b. ltb (f b) n) N (λ b l. lt-ltb (f b) n (p.known b l)) i
    && every_of (λ k. eqb (count f k N) 1) n
    (λ k l. eq-eqb (count f k N) 1
    (count_one f k N (place_of f k N) (p.at k l) (p.stands k l) (λ c m d. p.sole c (place_of f k N) m (p.at k l) (d ∙ sym (p.stands k l))))) i

-- from any places, not only `place_of`'s
pub placed_by : (f : ℕ → ℕ) (N n : ℕ) (s : ℕ → ℕ) → ((b : ℕ) → b < N → f b < n) → ((k : ℕ) → k < n → s k < N)
    → ((k : ℕ) → k < n → f (s k) ≡ k)
    → ((b c : ℕ) → b < N → c < N → f b ≡ f c → b ≡ c) → Placed f N n
placed_by f N n s known at stands sole =
    let one : (k : ℕ) → k < n
    → count f k N ≡ 1 = λ k l. count_one f k N (s k) (at k l) (stands k l) (λ c m d. sole c (s k) m (at k l) (d ∙ sym (stands k l))) in
    record {
      known = known;
      at = λ k l. (place_of_lem f k N (omega (arith, one k l))).0;
      stands = λ k l. (place_of_lem f k N (omega (arith, one k l))).1;
      sole = sole;
    }

-- where anything stands
pub place_is : (f : ℕ → ℕ) (N n : ℕ) → Placed f N n → (b : ℕ) → b < N → place_of f (f b) N ≡ b
place_is f N n p b l = p.sole (place_of f (f b) N) b (p.at (f b) (p.known b l)) l (p.stands (f b) (p.known b l))

-- ---- what rules it out

pub never : (t : Bool) → (t ≡ true → ⊥) → t ≡ false
never true h = absurd (h refl)
never false h = refl

pub alike : (a b : Bool) → (a ≡ true → b ≡ true) → (b ≡ true → a ≡ true) → a ≡ b
alike true b h g = sym (h refl)
alike false true h g = g refl
alike false false h g = refl

pub unknown : (f : ℕ → ℕ) (N n b : ℕ) → b < N → n ≤ f b → exactly f N n ≡ false
unknown f N n b l h = never (exactly f N n) (λ e. let g : f b < n = (exactly_placed f N n e).known b l in omega arith)

pub doubled : (f : ℕ → ℕ) (N n b c : ℕ) → b < c → c < N → f b ≡ f c → exactly f N n ≡ false
doubled f N n b c l m d = never (exactly f N n) (λ e. let g : b ≡ c = (exactly_placed f N n e).sole b c (omega arith) m d in omega arith)

-- ---- as many things as numbers

-- numbers below n, all different: at most n
abbrev swap_one : (f : ℕ → ℕ) (N m b : ℕ) → ℕ
swap_one f N m b = pick (eqb (f b) m) (f N) (f b)

pub pigeon : (f : ℕ → ℕ) (N n : ℕ) → ((b : ℕ) → b < N → f b < n) → ((b c : ℕ) → b < N → c < N → f b ≡ f c → b ≡ c) → N ≤ n
pigeon f zero n h s = omega arith
pigeon f (suc N) zero h s = absurd (not-suc-le-zero (h N (le_refl (suc N))))
pigeon f (suc N) (suc m) h s =
    let r : N ≤ m = pigeon (swap_one f N m) N m (λ b l. below b l (eqb (f b) m) refl) (λ b c l k e. same b c l k (eqb (f b) m) (eqb (f c) m) refl refl e) in
    omega arith
  where
    last : f N < suc m
    last = h N (le_refl (suc N))

    below : (b : ℕ) → b < N → (t : Bool) → eqb (f b) m ≡ t → pick t (f N) (f b) < m
    below b l true e =
        let g : f b ≡ m = eqb-true (f b) m e in
        elim (ℕ_discrete (f N) m) [
          | yes d ↦ let z : b ≡ N = s b N (le_step l) (le_refl (suc N)) (g ∙ sym d) in absurd (omega arith)
          | no ne ↦ let u : f N < suc m = last in omega arith
        ]
    below b l false e = let g : f b < suc m = h b (le_step l) in let ne : (f b ≡ m)
        → ⊥ = eqb-false (f b) m e in elim (dec_le m (f b)) [ yes d ↦ absurd (ne (omega arith)) | no d ↦ omega arith ]

    same : (b c : ℕ) → b < N → c < N → (t u : Bool) → eqb (f b) m ≡ t → eqb (f c) m ≡ u → pick t (f N) (f b) ≡ pick u (f N) (f c)
        → b ≡ c
    same b c l k true true x y e = s b c (le_step l) (le_step k) (eqb-true (f b) m x ∙ sym (eqb-true (f c) m y))
    same b c l k true false x y e = let z : N ≡ c = s N c (le_refl (suc N)) (le_step k) e in absurd (omega arith)
    same b c l k false true x y e = let z : b ≡ N = s b N (le_step l) (le_refl (suc N)) e in absurd (omega arith)
    same b c l k false false x y e = s b c (le_step l) (le_step k) e

pub placed_size : (f : ℕ → ℕ) (N n : ℕ) → Placed f N n → N ≡ n
placed_size f N n p =
    let a : N ≤ n = pigeon f N n p.known p.sole in
    let b : n ≤ N = pigeon (λ k. place_of f k N) n N p.at (λ k j l m e. sym (p.stands k l) ∙ ap f e ∙ p.stands j m) in
    omega arith
