-- For the proofs: nothing here must be believed.
-- Laws of loops, lists made by a rule and lists in pieces, over any element type. Each goes by induction
-- over the loop's turns, or by cutting the list at the piece's ends. Assumes nothing.
use Rattle.std.specs.Prelude.{◌≡◌, refl, ◌≢◌, get_or}
use Rattle.std.proofs.Math.Path.{sym, ap}
use Rattle.std.proofs.Common.{◌∙◌, subst, le_refl, not-suc-le-zero, mod-eq_of_lt, zero-add, suc-add, drop_of_length-le, drop-drop, take_all}
use Prim.Native.Nat.{ℕ, zero, suc, ◌+◌, ◌-◌, ◌*◌, ◌%◌, ◌≤◌, ◌<◌}
use Rattle.std.proofs.Math.Nat.{le_step, mul-add-mod_self_right, mul-le-mul_right}
use Rattle.std.proofs.Math.Decide.{dec_le, ℕ_discrete}
use native.Mathlib.Omega.{arith}
use mathlib.Core.List.{List, [], ◌∷◌, ◌++◌, append_assoc, append-nil}
use Rattle.std.proofs.Math.ListN.{length, take, drop, set, length-append, length-take, length-drop, take-append-drop, get_or-append}
use Rattle.std.proofs.Math.Seq.{take_at, drop_at, length-take-le, get_or-take, get_or-drop, set-append_left, paste}
use Rattle.std.proofs.lemmas.List.{take-append-le, drop-append-le, get_or_at}
use Rattle.parts.specs.Parts.{upto, tab, piece, patch}

-- ---- places in rows

-- k·m + s, with s below m, tells k and s
pub flat_low : (m k i s t : ℕ) → s < m → t < m → k * m + s ≡ i * m + t → s ≡ t
flat_low m k i s t hs ht e =
    sym (mod-eq_of_lt hs) ∙ sym (mul-add-mod_self_right k m s) ∙ ap (λ (x : ℕ). x % m) e ∙ mul-add-mod_self_right i m t ∙ mod-eq_of_lt ht

pub flat_high : (m k i s t : ℕ) → s < m → t < m → k * m + s ≡ i * m + t → k ≡ i
flat_high m k i s t hs ht e =
    elim (dec_le (suc k) i) [
      | yes l ↦ absurd (omega (arith, mul-le-mul_right m l))
      | no l ↦ elim (dec_le (suc i) k) [ yes u ↦ absurd (omega (arith, mul-le-mul_right m u)) | no u ↦ omega arith ]
    ]

pub flat_lt : (m n c v : ℕ) → c < m → v < n → c * n + v < m * n
flat_lt m n c v hc hv = omega (arith, mul-le-mul_right n hc)

-- ---- loops

pub upto_keep {ℓ} : {X : Type ℓ} (P : X → Type 0) (g : ℕ → X → X) (n : ℕ) (x : X)
    → ((k : ℕ) (y : X) → k < n → P y → P (g k y)) → P x → P (upto g n x)
upto_keep P g zero x h p = p
upto_keep P g (suc n) x h p = h n (upto g n x) (le_refl (suc n)) (upto_keep P g n x (λ k y b. h k y (le_step b)) p)

pub upto_count {ℓ} : {X : Type ℓ} (P : ℕ → X → Type 0) (g : ℕ → X → X) (n : ℕ) (x : X)
    → ((k : ℕ) (y : X) → k < n → P k y → P (suc k) (g k y)) → P zero x → P n (upto g n x)
upto_count P g zero x h p = p
upto_count P g (suc n) x h p = h n (upto g n x) (le_refl (suc n)) (upto_count P g n x (λ k y b. h k y (le_step b)) p)

-- loops whose turns are the same
pub upto_same {ℓ} : {X : Type ℓ} (g h : ℕ → X → X) (n : ℕ) (x : X)
    → ((k : ℕ) (y : X) → k < n → g k y ≡ h k y) → upto g n x ≡ upto h n x
upto_same g h zero x e = refl
upto_same g h (suc n) x e = e n (upto g n x) (le_refl (suc n)) ∙ ap (h n) (upto_same g h n x (λ k y b. e k y (le_step b)))

-- turn i makes D of U; every other turn keeps both
pub upto_focus {ℓ} : {X : Type ℓ} (U D : X → Type 0) (g : ℕ → X → X) (n i : ℕ) (x : X)
    → ((k : ℕ) (y : X) → k < n → k ≢ i → U y → U (g k y))
    → ((y : X) → U y → D (g i y))
    → ((k : ℕ) (y : X) → k < n → k ≢ i → D y → D (g k y))
    → i < n → U x → D (upto g n x)
upto_focus U D g zero i x u hit d b p = absurd (not-suc-le-zero b)
upto_focus U D g (suc n) i x u hit d b p =
    elim (ℕ_discrete n i) [
      | yes e ↦ subst (λ (j : ℕ). D (g j (upto g n x))) (sym e)
          (hit (upto g n x) (upto_keep U g n x (λ k y l. u k y (le_step l) (omega arith)) p))
      | no ne ↦ d n (upto g n x) (le_refl (suc n)) ne
          (upto_focus U D g n i x (λ k y l. u k y (le_step l)) hit (λ k y l. d k y (le_step l)) (omega arith) p)
    ]

-- ---- lists made by a rule

module _ {ℓ} {A : Type ℓ} where
  pub length_tab : (f : ℕ → A) (n : ℕ) → length (tab f n) ≡ n
  length_tab f zero = refl
  length_tab f (suc n) = length-append (tab f n) (f n ∷ []) ∙ omega (arith, length_tab f n)

  pub tab_at : (f : ℕ → A) (n i : ℕ) (d : A) → i < n → get_or (tab f n) i d ≡ f i
  tab_at f zero i d h = absurd (not-suc-le-zero h)
  tab_at f (suc n) i d h =
      elim (ℕ_discrete n i) [
        | yes e ↦ get_or_at (tab f n) (f n) [] d i (length_tab f n ∙ e) ∙ ap f e
        | no ne ↦ get_or-append (tab f n) (f n ∷ []) d i (omega (arith, length_tab f n)) ∙ tab_at f n i d (omega arith)
      ]

  pub tab_same : (f g : ℕ → A) (n : ℕ) → ((i : ℕ) → i < n → f i ≡ g i) → tab f n ≡ tab g n
  tab_same f g zero h = refl
  tab_same f g (suc n) h = λ i. tab_same f g n (λ k b. h k (le_step b)) i ++ h n (le_refl (suc n)) i ∷ []

-- ---- pieces

-- of k pieces of m, piece s ends within the list
pub piece_fits : (m s k : ℕ) → s < k → s * m + m ≤ k * m
piece_fits m s k h = omega (arith, mul-le-mul_right m h)

module _ {ℓ} {A : Type ℓ} where
  set_append_add : (xs ys : List A) (i : ℕ) (a : A) → set (xs ++ ys) (length xs + i) a ≡ xs ++ set ys i a
  set_append_add [] ys i a = ap (λ (k : ℕ). set ys k a) (zero-add i)
  set_append_add (x ∷ xs) ys i a =
      ap (λ (k : ℕ). set (x ∷ (xs ++ ys)) k a) (suc-add (length xs) i) ∙ ap (λ (r : List A). x ∷ r) (set_append_add xs ys i a)

  pub length_piece : (m s : ℕ) (xs : List A) → s * m + m ≤ length xs → length (piece m s xs) ≡ m
  unfolding piece
  length_piece m s xs h = length-take-le m (drop (s * m) xs) (simp length-drop (omega arith))

  pub length_patch : (m s : ℕ) (ys xs : List A) → s * m + m ≤ length xs → length ys ≡ m → length (patch m s ys xs) ≡ length xs
  unfolding patch
  length_patch m s ys xs h l = simp (length-append, length-take, length-drop) (omega arith)

  pub piece_patch : (m s : ℕ) (ys xs : List A) → s * m + m ≤ length xs → length ys ≡ m → piece m s (patch m s ys xs) ≡ ys
  unfolding piece patch
  piece_patch m s ys xs h l =
      ap (λ (r : List A). take m (drop (s * m) r)) (append_assoc (take (s * m) xs) ys (drop (s * m + m) xs))
      ∙ ap (λ (r : List A). take m r) (drop_at (take (s * m) xs) (ys ++ drop (s * m + m) xs) (s * m) (length-take-le (s * m) xs (omega arith)))
      ∙ take_at ys (drop (s * m + m) xs) m l

  -- what stands before b is not touched by what follows b
  part_before : (m a b : ℕ) (xs q : List A) → a + m ≤ b → b ≤ length xs → take m (drop a (take b xs ++ q)) ≡ take m (drop a (take b xs))
  part_before m a b xs q h k =
      let e : length (take b xs) ≡ b = length-take-le b xs k in
      ap (λ (r : List A). take m r) (drop-append-le a (take b xs) q (omega arith))
      ∙ take-append-le m (drop a (take b xs)) q (simp length-drop (omega arith))

  pub piece_other : (m s t : ℕ) (ys xs : List A) → s ≢ t → t * m + m ≤ length xs → length ys ≡ m → piece m s (patch m t ys xs) ≡ piece m s xs
  unfolding piece patch
  piece_other m s t ys xs ne h l =
      elim (dec_le (suc s) t) [
        | yes lt ↦
            ap (λ (r : List A). take m (drop (s * m) r)) (append_assoc (take (t * m) xs) ys (drop (t * m + m) xs))
            ∙ part_before m (s * m) (t * m) xs (ys ++ drop (t * m + m) xs) (omega (arith, mul-le-mul_right m lt)) (omega arith)
            ∙ sym (part_before m (s * m) (t * m) xs (drop (t * m) xs) (omega (arith, mul-le-mul_right m lt)) (omega arith))
            ∙ ap (λ (r : List A). take m (drop (s * m) r)) (take-append-drop (t * m) xs)
        | no nlt ↦
            let lt : suc t ≤ s = omega arith in
            let e : ℕ = t * m + m in
            let r : ℕ = s * m - e in
            let es : e + r ≡ s * m = omega (arith, mul-le-mul_right m lt) in
            let back : (l₂ : List A) → drop (s * m) l₂ ≡ drop r (drop e l₂)
            = λ l₂. ap (λ (k : ℕ). drop k l₂) (sym es) ∙ sym (drop-drop r e l₂) in
            ap (λ (q : List A). take m q)
            (back (take (t * m) xs ++ ys ++ drop e xs)
            ∙ ap (λ (q : List A). drop r q) (drop_at (take (t * m) xs ++ ys) (drop e xs) e (simp (length-append, length-take) (omega arith)))
            ∙ sym (back xs))
      ]

  -- ---- a flat list worked in place: the loads and stores of code, read as those of the piece

  pub piece_get : (m s i : ℕ) (xs : List A) (d : A) → i < m → get_or (piece m s xs) i d ≡ get_or xs (s * m + i) d
  unfolding piece
  piece_get m s i xs d h = get_or-take m (drop (s * m) xs) i d h ∙ get_or-drop (s * m) xs i d

  pub patch_piece : (m s : ℕ) (xs : List A) → patch m s (piece m s xs) xs ≡ xs
  unfolding piece patch
  patch_piece m s xs =
      append_assoc (take (s * m) xs) (take m (drop (s * m) xs)) (drop (s * m + m) xs)
      ∙ ap (λ (r : List A). take (s * m) xs ++ r)
      (ap (λ (r : List A). take m (drop (s * m) xs) ++ r) (sym (drop-drop m (s * m) xs)) ∙ take-append-drop m (drop (s * m) xs))
      ∙ take-append-drop (s * m) xs

  pub patch_patch : (m s : ℕ) (ys zs xs : List A) → s * m + m ≤ length xs → length zs ≡ m → patch m s ys (patch m s zs xs) ≡ patch m s ys xs
  unfolding patch
  patch_patch m s ys zs xs h l =
      let e : length (take (s * m) xs) ≡ s * m = length-take-le (s * m) xs (omega arith) in
      λ i. ((ap (take (s * m)) (append_assoc (take (s * m) xs) zs (drop (s * m + m) xs)) ∙ take_at (take (s * m) xs) (zs ++ drop (s * m + m) xs) (s * m) e) i
      ++ ys ++ drop_at (take (s * m) xs ++ zs) (drop (s * m + m) xs) (s * m + m) (simp length-append (omega arith)) i)

  -- a store at index i of piece s
  pub patch_set : (m s i : ℕ) (ys xs : List A) (a : A) → s * m + m ≤ length xs → length ys ≡ m → i < m
      → set (patch m s ys xs) (s * m + i) a ≡ patch m s (set ys i a) xs
  unfolding patch
  patch_set m s i ys xs a h l b =
      let e : length (take (s * m) xs) ≡ s * m = length-take-le (s * m) xs (omega arith) in
      set-append_left (take (s * m) xs ++ ys) (drop (s * m + m) xs) (s * m + i) a (simp length-append (omega arith))
      ∙ ap (λ (r : List A). r ++ drop (s * m + m) xs)
      (ap (λ (k : ℕ). set (take (s * m) xs ++ ys) (k + i) a) (sym e) ∙ set_append_add (take (s * m) xs) ys i a)

  pub patch_paste : (m s : ℕ) (ys xs : List A) → length ys ≡ m → paste xs (s * m) ys m ≡ patch m s ys xs
  unfolding patch
  patch_paste m s ys xs l = ap (λ (r : List A). take (s * m) xs ++ r ++ drop (s * m + m) xs) (take_all m ys (omega arith))

  -- a list of n, pasted over whole
  pub paste_whole : (n : ℕ) (r s : List A) → length r ≡ n → paste r 0 s n ≡ take n s
  paste_whole n r s l = ap (λ (q : List A). take n s ++ q) (drop_of_length-le r {i = 0 + n} (omega arith)) ∙ append-nil (take n s)
