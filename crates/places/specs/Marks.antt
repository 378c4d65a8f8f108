-- For the proofs: nothing here must be believed.
-- The reader's table: after b blocks, entry k is 0, or 1 more than the place of the block with number k. Each turn keeps this; the ends decide `exactly`.
-- By cases on the index. Assumes nothing.
use Rattle.std.specs.Prelude.{◌≡◌, true, false, ℕ, suc, ◌-◌, ◌≤◌, ◌<◌, List, length, get_or, set}
use Rattle.std.proofs.Common.{sym, ap, ◌∙◌, subst, not-suc-le-zero, arith, get_or-set_same, get_or-set_other}
use Rattle.std.proofs.Math.Decide.{ℕ_discrete}
use Rattle.places.specs.Places.{exactly, place_of}
use Rattle.places.specs.Once.{Placed, placed_by, placed_exactly, doubled}

pub record Marked (f : ℕ → ℕ) (n b : ℕ) (pos : List ℕ) : Type 0 where
  pub known : (j : ℕ) → j < b → f j < n
  pub marks : (j : ℕ) → j < b → get_or pos (f j) 0 ≡ suc j
  pub below : (k : ℕ) → k < n → (get_or pos k 0 ≡ 0 → ⊥) → get_or pos k 0 - 1 < b
  pub back : (k : ℕ) → k < n → (get_or pos k 0 ≡ 0 → ⊥) → f (get_or pos k 0 - 1) ≡ k

-- a clear table
pub clear : (f : ℕ → ℕ) (n : ℕ) (pos : List ℕ) → ((k : ℕ) → k < n → get_or pos k 0 ≡ 0) → Marked f n 0 pos
clear f n pos z = record {
  known = λ j l. absurd (not-suc-le-zero l);
  marks = λ j l. absurd (not-suc-le-zero l);
  below = λ k l h. absurd (h (z k l));
  back = λ k l h. absurd (h (z k l));
}

-- one block more
pub mark : (f : ℕ → ℕ) (n b : ℕ) (pos : List ℕ) → n ≤ length pos → Marked f n b pos → f b < n → get_or pos (f b) 0 ≡ 0
    → Marked f n (suc b) (set pos (f b) (suc b))
mark f n b pos l m h z = record {
  known = λ j u. elim (ℕ_discrete j b) [ yes e ↦ subst (λ (i : ℕ). f i < n) (sym e) h | no ne ↦ m.known j (omega arith) ];
  marks = λ j u. elim (ℕ_discrete j b) [
    | yes e ↦ ap (λ (i : ℕ). get_or (set pos (f b) (suc b)) (f i) 0) e ∙ here ∙ ap suc (sym e)
    | no ne ↦
        let o : get_or pos (f j) 0 ≡ suc j = m.marks j (omega arith) in
        get_or-set_other pos (f b) (f j) (suc b) 0 (λ d. let q : 0 ≡ suc j = sym z ∙ ap (λ (i : ℕ). get_or pos i 0) (sym d) ∙ o in omega arith) ∙ o
  ];
  below = λ k u q. elim (ℕ_discrete k (f b)) [
    | yes e ↦ let v : get_or (set pos (f b) (suc b)) k 0 ≡ suc b = at k e in omega arith
    | no ne ↦
        let v : get_or (set pos (f b) (suc b)) k 0 ≡ get_or pos k 0 = get_or-set_other pos (f b) k (suc b) 0 ne in
        let w : get_or pos k 0 - 1 < b = m.below k u (λ y. q (v ∙ y)) in
        omega arith
  ];
  back = λ k u q. elim (ℕ_discrete k (f b)) [
    | yes e ↦ ap (λ (i : ℕ). f (i - 1)) (at k e) ∙ same ∙ sym e
    | no ne ↦
        let v : get_or (set pos (f b) (suc b)) k 0 ≡ get_or pos k 0 = get_or-set_other pos (f b) k (suc b) 0 ne in
        ap (λ (i : ℕ). f (i - 1)) v ∙ m.back k u (λ y. q (v ∙ y))
  ];
}
  where
    here : get_or (set pos (f b) (suc b)) (f b) 0 ≡ suc b
    here = get_or-set_same pos (f b) (suc b) 0 (omega arith)

    at : (k : ℕ) → k ≡ f b → get_or (set pos (f b) (suc b)) k 0 ≡ suc b
    at k e = ap (λ (i : ℕ). get_or (set pos (f b) (suc b)) i 0) e ∙ here

    same : f (suc b - 1) ≡ f b
    same = let e : suc b - 1 ≡ b = omega arith in ap f e

-- a block whose entry is taken
pub mark_doubled : (f : ℕ → ℕ) (N n b : ℕ) (pos : List ℕ) → Marked f n b pos → b < N → f b < n → (get_or pos (f b) 0 ≡ 0 → ⊥)
    → exactly f N n ≡ false
mark_doubled f N n b pos m l h q = doubled f N n (get_or pos (f b) 0 - 1) b (m.below (f b) h q) l (m.back (f b) h q)

-- none is clear at the end
pub mark_placed : (f : ℕ → ℕ) (N n : ℕ) (pos : List ℕ) → Marked f n N pos → ((k : ℕ) → k < n → get_or pos k 0 ≡ 0 → ⊥) → Placed f N n
mark_placed f N n pos m full =
    placed_by f N n (λ k. get_or pos k 0 - 1) m.known (λ k l. m.below k l (full k l)) (λ k l. m.back k l (full k l))
    (λ b c l u e. let q : suc b ≡ suc c = sym (m.marks b l) ∙ ap (λ (i : ℕ). get_or pos i 0) e ∙ m.marks c u in omega arith)

pub mark_exactly : (f : ℕ → ℕ) (N n : ℕ) (pos : List ℕ) → Marked f n N pos → ((k : ℕ) → k < n → get_or pos k 0 ≡ 0 → ⊥)
    → exactly f N n ≡ true
mark_exactly f N n pos m full = placed_exactly f N n (mark_placed f N n pos m full)

-- then the table has the places
pub mark_place : (f : ℕ → ℕ) (N n : ℕ) (pos : List ℕ) → Marked f n N pos → ((k : ℕ) → k < n → get_or pos k 0 ≡ 0 → ⊥)
    → (k : ℕ) → k < n → get_or pos k 0 ≡ suc (place_of f k N)
mark_place f N n pos m full k l =
    let p : Placed f N n = mark_placed f N n pos m full in
    sym (ap (λ (i : ℕ). get_or pos i 0) (p.stands k l)) ∙ m.marks (place_of f k N) (p.at k l)
