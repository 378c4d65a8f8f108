-- For the proofs: nothing here must be believed.
-- The head of a number, and that a number's head has that number. v voices, s slots, p parts of a ring. By cases on the kind. Assumes nothing.
use Rattle.std.specs.Prelude.{◌≡◌, true, ◌&&◌, ℕ, suc, ◌+◌, ◌-◌, ◌*◌, ◌/◌, ◌%◌, ◌≤◌, ◌<◌, ltb}
use Rattle.std.proofs.Common.{ap, ◌∙◌, mod-lt, div-add-mod', div-lt_iff_lt-mul, arith, lt-ltb, le-ltb}
use Rattle.std.proofs.Math.Decide.{dec_le, ℕ_discrete}
use Rattle.blocks.specs.Blocks.{head_of, total}
use Rattle.blocks.specs.Laws.{head_kind, head_who, head_part}
use Rattle.places.specs.Places.{pick, number_of, index_of}

-- the head of number k
unfoldable pub head_at : (v s p k : ℕ) → ℕ
head_at v s p k =
    pick (ltb k 2) (head_of 1 0 k)
    (pick (ltb k (2 + v)) (head_of 2 (k - 2) 0)
    (pick (ltb k (2 + v + s)) (head_of 3 (k - (2 + v)) 0)
    (head_of 4 ((k - (2 + v + s)) / p) ((k - (2 + v + s)) % p))))

-- ---- a number's head has that number

index_head_of : (v s p kind who part : ℕ) → kind < 256 → who < 256 → index_of v s p (head_of kind who part) ≡ number_of v s p kind who part
unfolding index_of
index_head_of v s p kind who part hk hw = λ i. number_of v s p (head_kind kind who part hk hw i) (head_who kind who part hk hw i)
    (head_part kind who part hk hw i)

setup_number : (v s p part : ℕ) → part < 2 → number_of v s p 1 0 part ≡ part
unfolding number_of
setup_number v s p part h = λ i. pick (lt-ltb part 2 h i) part (total v s p)

target_number : (v s p who : ℕ) → who < v → number_of v s p 2 who 0 ≡ 2 + who
unfolding number_of
target_number v s p who h = λ i. pick (lt-ltb who v h i && true) (2 + who) (total v s p)

record_number : (v s p who : ℕ) → who < s → number_of v s p 3 who 0 ≡ 2 + v + who
unfolding number_of
record_number v s p who h = λ i. pick (lt-ltb who s h i && true) (2 + v + who) (total v s p)

pub ring_number : (v s p who part : ℕ) → who < s → part < p → number_of v s p 4 who part ≡ 2 + v + s + (who * p + part)
unfolding number_of
ring_number v s p who part h g = λ i. pick (lt-ltb who s h i && lt-ltb part p g i) (2 + v + s + (who * p + part)) (total v s p)

pub index_head : (v s p k : ℕ) → v ≤ 256 → s ≤ 256 → k < total v s p → index_of v s p (head_at v s p k) ≡ k
unfolding head_at
index_head v s p k hv hs h =
    elim (dec_le (suc k) 2) [
      | yes a ↦ (λ i. index_of v s p (pick (lt-ltb k 2 a i) (head_of 1 0 k) (rest1))) ∙ index_head_of v s p 1 0 k (omega arith) (omega arith)
          ∙ setup_number v s p k a
      | no a ↦
          (λ i. index_of v s p (pick (le-ltb k 2 (omega arith) i) (head_of 1 0 k) (rest1)))
          ∙ elim (dec_le (suc k) (2 + v)) [
            | yes b ↦
                let w : k - 2 < v = omega arith in
                (λ i. index_of v s p (pick (lt-ltb k (2 + v) b i) (head_of 2 (k - 2) 0) (rest2)))
                ∙ index_head_of v s p 2 (k - 2) 0 (omega arith) (omega arith) ∙ target_number v s p (k - 2) w ∙ omega arith
            | no b ↦
                (λ i. index_of v s p (pick (le-ltb k (2 + v) (omega arith) i) (head_of 2 (k - 2) 0) (rest2)))
                ∙ elim (dec_le (suc k) (2 + v + s)) [
                  | yes d ↦
                      let w : k - (2 + v) < s = omega arith in
                      (λ i. index_of v s p (pick (lt-ltb k (2 + v + s) d i) (head_of 3 (k - (2 + v)) 0) (rest3)))
                      ∙ index_head_of v s p 3 (k - (2 + v)) 0 (omega arith) (omega arith) ∙ record_number v s p (k - (2 + v)) w ∙ omega arith
                  | no d ↦
                      let j : ℕ = k - (2 + v + s) in
                      let lj : j < s * p = omega arith in
                      let pp : 0 < p = positive lj in
                      let w : j / p < s = (div-lt_iff_lt-mul {k = p} {x = j} {y = s} pp).1 lj in
                      (λ i. index_of v s p (pick (le-ltb k (2 + v + s) (omega arith) i) (head_of 3 (k - (2 + v)) 0) (rest3)))
                      ∙ index_head_of v s p 4 (j / p) (j % p) (omega arith) (omega arith)
                      ∙ ring_number v s p (j / p) (j % p) w (mod-lt j pp)
                      ∙ ap (λ (x : ℕ). 2 + v + s + x) (div-add-mod' j p)
                      ∙ omega arith
                ]
          ]
    ]
  where
    rest3 : ℕ
    rest3 = head_of 4 ((k - (2 + v + s)) / p) ((k - (2 + v + s)) % p)

    rest2 : ℕ
    rest2 = pick (ltb k (2 + v + s)) (head_of 3 (k - (2 + v)) 0) rest3

    rest1 : ℕ
    rest1 = pick (ltb k (2 + v)) (head_of 2 (k - 2) 0) rest2

    positive : k - (2 + v + s) < s * p → 0 < p
    positive l = elim (ℕ_discrete p 0) [
      | yes e ↦ let z : s * p ≡ 0 = ap (λ (x : ℕ). s * x) e
          ∙ omega arith in absurd (omega arith)
      | no ne ↦ omega arith
    ]

pub setup_head : (v s p k : ℕ) → k < 2 → head_at v s p k ≡ head_of 1 0 k
unfolding head_at
setup_head v s p k h =
    λ i. pick (lt-ltb k 2 h i) (head_of 1 0 k)
    (pick (ltb k (2 + v)) (head_of 2 (k - 2) 0) (pick (ltb k (2 + v + s)) (head_of 3 (k - (2 + v)) 0) (head_of 4 ((k - (2 + v + s)) / p) ((k - (2 + v + s)) % p))))
