-- For the proofs: nothing here must be believed.
-- Loops whose turns commute: one slides past the other, and in step they are the one whole and then the other. So patches of two pieces commute, each being
-- a run of stores. By induction over the turns. Assumes nothing.
use Rattle.std.specs.Prelude.{◌≡◌, refl, ◌≢◌, ℕ, zero, suc, ◌+◌, ◌*◌, ◌<◌, ◌≤◌, List, length, get_or, set}
use Rattle.std.proofs.Common.{sym, ap, ◌∙◌, le_refl, arith}
use Rattle.std.proofs.Math.Nat.{le_step}
use Rattle.std.proofs.lemmas.List.{set_comm}
use Rattle.std.proofs.Math.Seq.{paste, paste-zero, paste-suc}
use Rattle.parts.specs.Parts.{upto, patch}
use Rattle.parts.specs.Laws.{upto_keep, length_patch, patch_paste, flat_high}

-- a step that commutes with every turn slides past the loop
pub slide {ℓ} : {X : Type ℓ} (P : X → Type 0) (f : X → X) (g : ℕ → X → X) (n : ℕ) (x : X)
    → ((k : ℕ) (y : X) → k < n → P y → f (g k y) ≡ g k (f y))
    → ((k : ℕ) (y : X) → k < n → P y → P (g k y))
    → P x → f (upto g n x) ≡ upto g n (f x)
slide P f g zero x h q a = refl
slide P f g (suc n) x h q a =
    h n (upto g n x) (le_refl (suc n)) (upto_keep P g n x (λ k y l. q k y (le_step l)) a)
    ∙ ap (g n) (slide P f g n x (λ k y l. h k y (le_step l)) (λ k y l. q k y (le_step l)) a)

-- two loops in step are the one and then the other
pub in_step {ℓ} : {X : Type ℓ} (P : X → Type 0) (f g : ℕ → X → X) (n : ℕ) (x : X)
    → ((k j : ℕ) (y : X) → k < n → j < n → P y → f k (g j y) ≡ g j (f k y))
    → ((k : ℕ) (y : X) → k < n → P y → P (f k y))
    → ((k : ℕ) (y : X) → k < n → P y → P (g k y))
    → P x → upto (λ k y. g k (f k y)) n x ≡ upto g n (upto f n x)
in_step P f g zero x h p q a = refl
in_step P f g (suc n) x h p q a =
    ap (λ y. g n (f n y)) (in_step P f g n x (λ k j y l m. h k j y (le_step l) (le_step m)) (λ k y l. p k y (le_step l)) (λ k y l. q k y (le_step l)) a)
    ∙ ap (g n)
    (slide P (f n) g n (upto f n x) (λ k y l. h n k y (le_refl (suc n)) (le_step l)) (λ k y l. q k y (le_step l))
    (upto_keep P f n x (λ k y l. p k y (le_step l)) a))

module _ {ℓ} {A : Type ℓ} where
  -- the first n elements of t, stored one by one from place o on; d is any element
  abbrev stored : A → ℕ → List A → ℕ → List A → List A
  stored d o t n xs = upto (λ i l. set l (o + i) (get_or t i d)) n xs

  stored_paste : (d : A) (o : ℕ) (t : List A) (n : ℕ) (xs : List A) → o + n ≤ length xs → n ≤ length t → stored d o t n xs ≡ paste xs o t n
  stored_paste d o t zero xs h l = paste-zero xs o t
  stored_paste d o t (suc n) xs h l =
      ap (λ (r : List A). set r (o + n) (get_or t n d)) (stored_paste d o t n xs (omega arith) (omega arith))
      ∙ paste-suc xs o t n d (omega arith) (omega arith)

  stored_patch : (d : A) (m s : ℕ) (ys xs : List A) → s * m + m ≤ length xs → length ys ≡ m → stored d (s * m) ys m xs ≡ patch m s ys xs
  stored_patch d m s ys xs h l = stored_paste d (s * m) ys m xs h (omega arith) ∙ patch_paste m s ys xs l

  -- runs of stores in places that differ
  stored_stored : (d : A) (o : ℕ) (t : List A) (n p : ℕ) (u : List A) (m : ℕ) (xs : List A) → ((i j : ℕ) → i < n → j < m → o + i ≢ p + j)
      → stored d o t n (stored d p u m xs) ≡ stored d p u m (stored d o t n xs)
  stored_stored d o t n p u m xs h =
      slide (λ l. Unit {0}) (stored d o t n) (λ j l. set l (p + j) (get_or u j d)) m xs
      (λ j y b z. sym (slide (λ l. Unit {0}) (λ l. set l (p + j) (get_or u j d)) (λ i l. set l (o + i) (get_or t i d)) n y
      (λ i l c w. set_comm l (o + i) (p + j) (get_or t i d) (get_or u j d) (h i j c b)) (λ i l c w. tt) tt))
      (λ j y b z. tt) tt

  -- patches of two pieces commute; d is any element
  pub patch_comm : (d : A) (m s t : ℕ) (ys zs xs : List A) → s ≢ t
      → s * m + m ≤ length xs → t * m + m ≤ length xs → length ys ≡ m → length zs ≡ m
      → patch m s ys (patch m t zs xs) ≡ patch m t zs (patch m s ys xs)
  patch_comm d m s t ys zs xs ne hs ht ly lz =
      sym (both s t ys zs hs ht ly lz)
      ∙ stored_stored d (s * m) ys m (t * m) zs m xs apart
      ∙ both t s zs ys ht hs lz ly
    where
      both : (a b : ℕ) (u w : List A) → a * m + m ≤ length xs → b * m + m ≤ length xs → length u ≡ m → length w ≡ m
          → stored d (a * m) u m (stored d (b * m) w m xs) ≡ patch m a u (patch m b w xs)
      both a b u w ha hb lu lw =
          let l : length (patch m b w xs) ≡ length xs = length_patch m b w xs hb lw in
          ap (stored d (a * m) u m) (stored_patch d m b w xs hb lw) ∙ stored_patch d m a u (patch m b w xs) (omega arith) lu

      apart : (i j : ℕ) → i < m → j < m → s * m + i ≢ t * m + j
      apart i j l k e = ne (flat_high m s t i j l k e)
