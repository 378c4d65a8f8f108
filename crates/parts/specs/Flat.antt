-- For the proofs: nothing here must be believed.
-- Blocks of m elements, one after the other: the list, its pieces, and its making from the front. By induction over the blocks. Assumes nothing.
use Rattle.std.specs.Prelude.{◌≡◌, refl, get_or, set}
use Rattle.std.proofs.Math.Path.{sym, ap}
use Rattle.std.proofs.Common.{◌∙◌, le_refl, not-suc-le-zero, add-zero, add-suc, add-one, length-append, drop_of_length-le, drop_at, drop-cons}
use Prim.Native.Nat.{ℕ, zero, suc, ◌+◌, ◌*◌, ◌≤◌, ◌<◌}
use Rattle.std.proofs.Math.Nat.{le_step}
use Rattle.std.proofs.Math.Decide.{ℕ_discrete}
use native.Mathlib.Omega.{arith}
use mathlib.Core.List.{List, [], ◌∷◌, ◌++◌, append_assoc, append-nil}
use Rattle.std.proofs.Math.ListN.{length, take, drop}
use Rattle.std.proofs.Math.Seq.{take_at, drop-drop}
use Rattle.std.proofs.lemmas.List.{set_at}
use Rattle.parts.specs.Parts.{flat, piece, patch, tab}
use Rattle.parts.specs.Laws.{length_tab}

module _ {ℓ} {A : Type ℓ} where
  pub flat_same : (a b : ℕ → List A) (n : ℕ) → ((k : ℕ) → k < n → a k ≡ b k) → flat a n ≡ flat b n
  flat_same a b zero h = refl
  flat_same a b (suc n) h = λ i. flat_same a b n (λ k l. h k (le_step l)) i ++ h n (le_refl (suc n)) i

  pub flat_add : (b : ℕ → List A) (m n : ℕ) → flat b (m + n) ≡ flat b m ++ flat (λ j. b (m + j)) n
  flat_add b m zero = ap (flat b) (add-zero m) ∙ sym (append-nil (flat b m))
  flat_add b m (suc n) =
      ap (flat b) (add-suc m n) ∙ ap (λ (r : List A). r ++ b (m + n)) (flat_add b m n) ∙ append_assoc (flat b m) (flat (λ j. b (m + j)) n) (b (m + n))

  -- rows of p blocks, one after the other
  pub flat_flat : (b : ℕ → List A) (p s : ℕ) → flat b (s * p) ≡ flat (λ i. flat (λ q. b (i * p + q)) p) s
  flat_flat b p zero = let e : zero * p ≡ zero = omega arith in ap (flat b) e
  flat_flat b p (suc s) =
      let e : suc s * p ≡ s * p + p = omega arith in
      ap (flat b) e ∙ flat_add b (s * p) p ∙ ap (λ (r : List A). r ++ flat (λ q. b (s * p + q)) p) (flat_flat b p s)

  pub length_flat : (m : ℕ) (b : ℕ → List A) (n : ℕ) → ((k : ℕ) → k < n → length (b k) ≡ m) → length (flat b n) ≡ n * m
  length_flat m b zero h = omega arith
  length_flat m b (suc n) h =
      length-append (flat b n) (b n) ∙ omega (arith, length_flat m b n (λ k l. h k (le_step l)), h n (le_refl (suc n)))

  -- the k-th block is the k-th piece, whatever follows
  pub flat_piece : (m : ℕ) (b : ℕ → List A) (n k : ℕ) (q : List A) → ((j : ℕ) → j < n → length (b j) ≡ m) → k < n
      → piece m k (flat b n ++ q) ≡ b k
  unfolding piece
  flat_piece m b zero k q h l = absurd (not-suc-le-zero l)
  flat_piece m b (suc n) k q h l =
      let hn : (j : ℕ) → j < n → length (b j) ≡ m = λ j u. h j (le_step u) in
      let e : length (flat b n) ≡ n * m = length_flat m b n hn in
      ap (λ (r : List A). take m (drop (k * m) r)) (append_assoc (flat b n) (b n) q)
      ∙ elim (ℕ_discrete k n) [
        | yes s ↦
            ap (λ (j : ℕ). take m (drop (j * m) (flat b n ++ (b n ++ q)))) s
            ∙ ap (take m) (drop_at (flat b n) (b n ++ q) (n * m) e)
            ∙ take_at (b n) q m (h n (le_refl (suc n)))
            ∙ ap b (sym s)
        | no ne ↦ flat_piece m b n k (b n ++ q) hn (omega arith)
      ]

  pub flat_at : (m : ℕ) (b : ℕ → List A) (n k : ℕ) → ((j : ℕ) → j < n → length (b j) ≡ m) → k < n → piece m k (flat b n) ≡ b k
  flat_at m b n k h l = ap (piece m k) (sym (append-nil (flat b n))) ∙ flat_piece m b n k [] h l

  -- made from the front: the next block written behind those that stand
  pub flat_next : (m : ℕ) (b : ℕ → List A) (n : ℕ) (xs : List A) → ((k : ℕ) → k < n → length (b k) ≡ m) → n * m + m ≤ length xs
      → patch m n (b n) (flat b n ++ drop (n * m) xs) ≡ flat b (suc n) ++ drop (suc n * m) xs
  unfolding patch
  flat_next m b n xs h l =
      let e : length (flat b n) ≡ n * m = length_flat m b n h in
      let k : n * m + m ≡ suc n * m = omega arith in
      λ i. (take_at (flat b n) (drop (n * m) xs) (n * m) e i ++ b n) ++ back e k i
    where
      back : length (flat b n) ≡ n * m → n * m + m ≡ suc n * m → drop (n * m + m) (flat b n ++ drop (n * m) xs) ≡ drop (suc n * m) xs
      back e k =
          sym (drop-drop m (n * m) (flat b n ++ drop (n * m) xs))
          ∙ ap (drop m) (drop_at (flat b n) (drop (n * m) xs) (n * m) e)
          ∙ drop-drop m (n * m) xs
          ∙ ap (λ (j : ℕ). drop j xs) k

  -- all of them written
  pub flat_whole : (m : ℕ) (b : ℕ → List A) (n : ℕ) (xs : List A) → length xs ≡ n * m → flat b n ++ drop (n * m) xs ≡ flat b n
  flat_whole m b n xs l = ap (λ (r : List A). flat b n ++ r) (drop_of_length-le xs {i = n * m} (omega arith)) ∙ append-nil (flat b n)

  -- ---- a list made by a rule, element by element, in place of another

  pub tab_add : (g : ℕ → A) (m n : ℕ) → tab g (m + n) ≡ tab g m ++ tab (λ j. g (m + j)) n
  tab_add g m zero = ap (tab g) (add-zero m) ∙ sym (append-nil (tab g m))
  tab_add g m (suc n) =
      ap (tab g) (add-suc m n) ∙ ap (λ (r : List A). r ++ g (m + n) ∷ []) (tab_add g m n)
      ∙ append_assoc (tab g m) (tab (λ j. g (m + j)) n) (g (m + n) ∷ [])

  pub tab_next : (g : ℕ → A) (n : ℕ) (xs : List A) (a d : A) → n < length xs → a ≡ g n
      → set (tab g n ++ drop n xs) n a ≡ tab g (suc n) ++ drop (suc n) xs
  tab_next g n xs a d h e =
      (λ i. set (tab g n ++ drop-cons xs n d h i) n (e i))
      ∙ set_at (tab g n) (get_or xs n d) (drop (suc n) xs) (g n) n (length_tab g n)
      ∙ sym (append_assoc (tab g n) (g n ∷ []) (drop (suc n) xs))

  pub tab_whole : (g : ℕ → A) (n : ℕ) (xs : List A) → length xs ≡ n → tab g n ++ drop n xs ≡ tab g n
  tab_whole g n xs l = ap (λ (r : List A). tab g n ++ r) (drop_of_length-le xs {i = n} (omega arith)) ∙ append-nil (tab g n)

  -- one turn of a loop that stores element n, and the end of such a loop
  pub tab_again : (g : ℕ → A) (n : ℕ) (ys xs : List A) (a d : A) → n < length xs → ys ≡ tab g n ++ drop n xs → a ≡ g n
      → set ys n a ≡ tab g (n + 1) ++ drop (n + 1) xs
  tab_again g n ys xs a d h e w = rw (add-one, e) (tab_next g n xs a d h w)

  pub tab_done : (g : ℕ → A) (ys xs : List A) (i n : ℕ) → length xs ≡ n → i ≡ n → ys ≡ tab g i ++ drop i xs → ys ≡ tab g n
  tab_done g ys xs i n l e d = d ∙ ap (λ (k : ℕ). tab g k ++ drop k xs) e ∙ tab_whole g n xs l
