-- For the proofs: nothing here must be believed.
-- A head that is called for has one number and a number one head; so where every number stands once, so does every head that is called for, and the block
-- with that head is the block of that number. Blocks in another order: a head that stands once still does, and its block is the same. Assumes nothing.
use Rattle.std.specs.Prelude.{◌≡◌, Bool, true, false, ◌&&◌, ℕ, ◌+◌, ◌-◌, ◌*◌, ◌/◌, ◌%◌, ◌≤◌, ◌<◌, List, ltb, length}
use Rattle.std.proofs.Math.Path.{refl, ap}
use Rattle.std.proofs.Common.{sym, ◌∙◌, subst, mod-lt, div-add-mod', arith}
use Rattle.std.proofs.Math.Dec.{eqb}
use borrow.Author.Tests.{lt-ltb, le-ltb, eq-eqb, eqb-true, ltb-true}
use Rattle.parts.specs.Parts.{piece}
use Rattle.parts.specs.Laws.{flat_low, flat_high}
use Rattle.file_words.specs.Words.{word_at}
use Rattle.blocks.specs.Blocks.{head_of, kind_of, who_of, part_of, sound_block, total}
use Rattle.blocks.specs.Laws.{head_parts}
use Rattle.places.specs.Places.{pick, count, place_of, every, exactly, blocks_in, head_in, sound_file, is_once, block_with}
use Rattle.places.specs.Places.{number_of, index_of, number_in, number_at, is_whole}
use Rattle.places.specs.Once.{both, Placed, place_of_lem, sole_of, count_one, every_of, every_at, alike}
use Rattle.places.specs.Heads.{head_at, index_head, setup_head}
use Rattle.places.specs.Order.{Rearranged, turned, exactly_rearranged}

-- ---- the head of each kind's numbers

-- r * p + q tells r and q
pub row_of : (p r q : ℕ) → q < p → (r * p + q) / p ≡ r
row_of p r q h = flat_high p ((r * p + q) / p) r ((r * p + q) % p) q (mod-lt (r * p + q) (omega arith)) h (div-add-mod' (r * p + q) p)

pub part_of_lem : (p r q : ℕ) → q < p → (r * p + q) % p ≡ q
part_of_lem p r q h = flat_low p ((r * p + q) / p) r ((r * p + q) % p) q (mod-lt (r * p + q) (omega arith)) h (div-add-mod' (r * p + q) p)

pub target_head : (v s p who : ℕ) → who < v → head_at v s p (2 + who) ≡ head_of 2 who 0
unfolding head_at
target_head v s p who h =
    let k : ℕ = 2 + who in
    let e : k - 2 ≡ who = omega arith in
    λ i. pick (le-ltb k 2 (omega arith) i) (head_of 1 0 k)
    (pick (lt-ltb k (2 + v) (omega arith) i) (head_of 2 (e i) 0)
    (pick (ltb k (2 + v + s)) (head_of 3 (k - (2 + v)) 0) (head_of 4 ((k - (2 + v + s)) / p) ((k - (2 + v + s)) % p))))

pub record_head : (v s p who : ℕ) → who < s → head_at v s p (2 + v + who) ≡ head_of 3 who 0
unfolding head_at
record_head v s p who h =
    let k : ℕ = 2 + v + who in
    let e : k - (2 + v) ≡ who = omega arith in
    λ i. pick (le-ltb k 2 (omega arith) i) (head_of 1 0 k)
    (pick (le-ltb k (2 + v) (omega arith) i) (head_of 2 (k - 2) 0)
    (pick (lt-ltb k (2 + v + s) (omega arith) i) (head_of 3 (e i) 0) (head_of 4 ((k - (2 + v + s)) / p) ((k - (2 + v + s)) % p))))

pub ring_head_lem : (v s p j : ℕ) → head_at v s p (2 + v + s + j) ≡ head_of 4 (j / p) (j % p)
unfolding head_at
ring_head_lem v s p j =
    let k : ℕ = 2 + v + s + j in
    let e : k - (2 + v + s) ≡ j = omega arith in
    λ i. pick (le-ltb k 2 (omega arith) i) (head_of 1 0 k)
    (pick (le-ltb k (2 + v) (omega arith) i) (head_of 2 (k - 2) 0)
    (pick (le-ltb k (2 + v + s) (omega arith) i) (head_of 3 (k - (2 + v)) 0) (head_of 4 (e i / p) (e i % p))))

-- as rows of one part
pub target_heads : (v s p j : ℕ) → j < v * 1 → head_at v s p (2 + j) ≡ head_of 2 (j / 1) (j % 1)
target_heads v s p j l =
    let e : j ≡ j / 1 = omega arith in
    let q : 0 ≡ j % 1 = omega arith in
    target_head v s p j (omega arith) ∙ (λ t. head_of 2 (e t) (q t))

pub record_heads : (v s p j : ℕ) → j < s * 1 → head_at v s p (2 + v + j) ≡ head_of 3 (j / 1) (j % 1)
record_heads v s p j l =
    let e : j ≡ j / 1 = omega arith in
    let q : 0 ≡ j % 1 = omega arith in
    record_head v s p j (omega arith) ∙ (λ t. head_of 3 (e t) (q t))

module _ (v s p kind who part : ℕ) where
  -- a head of kind c that is called for is that of its number, `number`; one that is not has the total
  arm : (c number : ℕ) (t : Bool) → (t ≡ true → head_at v s p number ≡ head_of c who part) → kind ≡ c
      → pick t number (total v s p) < total v s p → head_at v s p (pick t number (total v s p)) ≡ head_of kind who part
  arm c number true h e l = h refl ∙ ap (λ (x : ℕ). head_of x who part) (sym e)
  arm c number false h e l = absurd (omega arith)

  setup_arm : eqb who 0 && ltb part 2 ≡ true → head_at v s p part ≡ head_of 1 who part
  setup_arm t =
      let ab = both (eqb who 0) (ltb part 2) t in
      setup_head v s p part (ltb-true part 2 ab.1) ∙ ap (λ (x : ℕ). head_of 1 x part) (sym (eqb-true who 0 ab.0))

  target_arm : ltb who v && eqb part 0 ≡ true → head_at v s p (2 + who) ≡ head_of 2 who part
  target_arm t =
      let ab = both (ltb who v) (eqb part 0) t in
      target_head v s p who (ltb-true who v ab.0) ∙ ap (head_of 2 who) (sym (eqb-true part 0 ab.1))

  record_arm : ltb who s && eqb part 0 ≡ true → head_at v s p (2 + v + who) ≡ head_of 3 who part
  record_arm t =
      let ab = both (ltb who s) (eqb part 0) t in
      record_head v s p who (ltb-true who s ab.0) ∙ ap (head_of 3 who) (sym (eqb-true part 0 ab.1))

  ring_arm : ltb who s && ltb part p ≡ true → head_at v s p (2 + v + s + (who * p + part)) ≡ head_of 4 who part
  ring_arm t =
      let ab = both (ltb who s) (ltb part p) t in
      let l : part < p = ltb-true part p ab.1 in
      ring_head_lem v s p (who * p + part) ∙ (λ i. head_of 4 (row_of p who part l i) (part_of_lem p who part l i))

  abbrev after3 : ℕ
  after3 = pick (eqb kind 4) (pick (ltb who s && ltb part p) (2 + v + s + (who * p + part)) (total v s p)) (total v s p)

  abbrev after2 : ℕ
  after2 = pick (eqb kind 3) (pick (ltb who s && eqb part 0) (2 + v + who) (total v s p)) after3

  abbrev after1 : ℕ
  after1 = pick (eqb kind 2) (pick (ltb who v && eqb part 0) (2 + who) (total v s p)) after2

  fourth : (t : Bool) → eqb kind 4 ≡ t
      → let n = pick t (pick (ltb who s && ltb part p) (2 + v + s + (who * p + part)) (total v s p)) (total v s p) in n < total v s p
      → head_at v s p n ≡ head_of kind who part
  fourth true e = arm 4 (2 + v + s + (who * p + part)) (ltb who s && ltb part p) ring_arm (eqb-true kind 4 e)
  fourth false e = λ l. absurd (omega arith)

  third : (t : Bool) → eqb kind 3 ≡ t → let n = pick t (pick (ltb who s && eqb part 0) (2 + v + who) (total v s p)) after3 in n < total v s p
      → head_at v s p n ≡ head_of kind who part
  third true e = arm 3 (2 + v + who) (ltb who s && eqb part 0) record_arm (eqb-true kind 3 e)
  third false e = fourth (eqb kind 4) refl

  second : (t : Bool) → eqb kind 2 ≡ t → let n = pick t (pick (ltb who v && eqb part 0) (2 + who) (total v s p)) after2 in n < total v s p
      → head_at v s p n ≡ head_of kind who part
  second true e = arm 2 (2 + who) (ltb who v && eqb part 0) target_arm (eqb-true kind 2 e)
  second false e = third (eqb kind 3) refl

  first : (t : Bool) → eqb kind 1 ≡ t → let n = pick t (pick (eqb who 0 && ltb part 2) part (total v s p)) after1 in n < total v s p
      → head_at v s p n ≡ head_of kind who part
  first true e = arm 1 part (eqb who 0 && ltb part 2) setup_arm (eqb-true kind 1 e)
  first false e = second (eqb kind 2) refl

  number_head : number_of v s p kind who part < total v s p → head_at v s p (number_of v s p kind who part) ≡ head_of kind who part
  unfolding number_of
  number_head = first (eqb kind 1) refl

pub head_index : (v s p h : ℕ) → index_of v s p h < total v s p → head_at v s p (index_of v s p h) ≡ h
unfolding index_of
head_index v s p h l = number_head v s p (kind_of h) (who_of h) (part_of h) l ∙ head_parts h

-- ---- a file where every number stands once

module _ (v s p : ℕ) (file : List ℕ) (few-voices : v ≤ 256) (few-slots : s ≤ 256)
    (pl : Placed (number_at v s p file) (blocks_in file) (total v s p)) (k : ℕ) (l : k < total v s p) where
  -- where the block of number k stands
  abbrev b : ℕ
  b = place_of (number_at v s p file) k (blocks_in file)

  head_here : head_in file b ≡ head_at v s p k
  head_here =
      let e : number_at v s p file b ≡ k = pl.stands k l in
      sym (head_index v s p (head_in file b) (subst (λ (x : ℕ). x < total v s p) (sym e) l)) ∙ ap (head_at v s p) e

  only_here : (c : ℕ) → c < blocks_in file → head_in file c ≡ head_at v s p k → c ≡ b
  only_here c lc e =
      pl.sole c b lc (pl.at k l) (ap (index_of v s p) e ∙ index_head v s p k few-voices few-slots l ∙ sym (pl.stands k l))

  pub head_count : count (head_in file) (head_at v s p k) (blocks_in file) ≡ 1
  head_count = count_one (head_in file) (head_at v s p k) (blocks_in file) b (pl.at k l) head_here only_here

  pub head_once : is_once file (head_at v s p k) ≡ true
  unfolding is_once
  head_once = eq-eqb (count (head_in file) (head_at v s p k) (blocks_in file)) 1 head_count

  pub with_number : block_with file (head_at v s p k) ≡ piece 512 b file
  unfolding block_with
  with_number =
      let at = place_of_lem (head_in file) (head_at v s p k) (blocks_in file) (omega (arith, head_count)) in
      ap (λ (c : ℕ). piece 512 c file) (only_here (place_of (head_in file) (head_at v s p k) (blocks_in file)) at.0 at.1)

-- ---- blocks in another order

-- files of one length whose blocks are the same in another order
abbrev pub Shuffled : List ℕ → List ℕ → Type 0
Shuffled a b = (length a ≡ length b) × Rearranged (λ k. piece 512 k a) (λ k. piece 512 k b) (blocks_in a)

module _ {ℓ} {X : Type ℓ} (number : X → ℕ) (B C : ℕ → X) (N k : ℕ) (r : Rearranged B C N) where
  abbrev f : ℕ → ℕ
  f b = number (B b)

  abbrev g : ℕ → ℕ
  g c = number (C c)

  -- a number that stands once in B stands once in C, and it is the same thing
  pub count_rearranged : count f k N ≡ 1 → count g k N ≡ 1
  count_rearranged e =
      let at = place_of_lem f k N (omega arith) in
      let b : ℕ = place_of f k N in
      let here : g (r.fro b) ≡ k = ap number (r.same (r.fro b) (r.fro_below b at.0)) ∙ ap f (r.to_fro b at.0) ∙ at.1 in
      count_one g k N (r.fro b) (r.fro_below b at.0) here
      (λ c l d.
      sym (r.fro_to c l)
      ∙ ap r.fro (sole_of f k N (r.to c) b e (r.to_below c l) at.0 (sym (ap number (r.same c l)) ∙ d) at.1))

  pub thing_rearranged : count f k N ≡ 1 → C (place_of g k N) ≡ B (place_of f k N)
  thing_rearranged e =
      let at = place_of_lem f k N (omega arith) in
      let to = place_of_lem g k N (omega (arith, count_rearranged e)) in
      let c : ℕ = place_of g k N in
      r.same c to.0
      ∙ ap B (sole_of f k N (r.to c) (place_of f k N) e (r.to_below c to.0) at.0 (sym (ap number (r.same c to.0)) ∙ to.1) at.1)

module _ (a b : List ℕ) (sh : Shuffled a b) where
  as_many : blocks_in b ≡ blocks_in a
  as_many = ap (λ (n : ℕ). n / 512) (sym sh.0)

  abbrev block_in : List ℕ → ℕ → List ℕ
  block_in file k = piece 512 k file

  abbrev head_of_block : List ℕ → ℕ
  head_of_block x = word_at x 0

  pub once_shuffled : (head : ℕ) → is_once b head ≡ is_once a head
  unfolding is_once
  once_shuffled head =
      ap (λ (N : ℕ). eqb (count (head_in b) head N) 1) as_many
      ∙ alike (eqb (count (head_in b) head (blocks_in a)) 1) (eqb (count (head_in a) head (blocks_in a)) 1)
      (λ e. eq-eqb (count (head_in a) head (blocks_in a)) 1
      (count_rearranged head_of_block (block_in b) (block_in a) (blocks_in a) head (turned (block_in a) (block_in b) (blocks_in a) sh.1)
      (eqb-true (count (head_in b) head (blocks_in a)) 1 e)))
      (λ e. eq-eqb (count (head_in b) head (blocks_in a)) 1
      (count_rearranged head_of_block (block_in a) (block_in b) (blocks_in a) head sh.1 (eqb-true (count (head_in a) head (blocks_in a)) 1 e)))

  pub with_shuffled : (head : ℕ) → is_once a head ≡ true → block_with b head ≡ block_with a head
  unfolding is_once block_with
  with_shuffled head e =
      ap (λ (N : ℕ). piece 512 (place_of (head_in b) head N) b) as_many
      ∙ thing_rearranged head_of_block (block_in a) (block_in b) (blocks_in a) head sh.1 (eqb-true (count (head_in a) head (blocks_in a)) 1 e)

  pub sound_shuffled : sound_file b ≡ sound_file a
  unfolding sound_file
  sound_shuffled =
      ap (every (λ k. sound_block (block_in b k))) as_many
      ∙ alike (every (λ k. sound_block (block_in b k)) (blocks_in a)) (every (λ k. sound_block (block_in a k)) (blocks_in a))
      (λ e. every_of (λ k. sound_block (block_in a k)) (blocks_in a)
      (λ k l. let t = turned (block_in a) (block_in b) (blocks_in a) sh.1 in
      ap sound_block (t.same k l) ∙ every_at (λ k. sound_block (block_in b k)) (blocks_in a) (t.to k) e (t.to_below k l)))
      (λ e. every_of (λ k. sound_block (block_in b k)) (blocks_in a)
      (λ k l. ap sound_block (sh.1.same k l) ∙ every_at (λ k. sound_block (block_in a k)) (blocks_in a) (sh.1.to k) e (sh.1.to_below k l)))

  pub whole_shuffled : (v s p : ℕ) → is_whole v s p b ≡ is_whole v s p a
  whole_shuffled v s p =
      ap (λ (N : ℕ). exactly (number_at v s p b) N (total v s p)) as_many
      ∙ exactly_rearranged (number_in v s p) (block_in a) (block_in b) (blocks_in a) (total v s p) sh.1
