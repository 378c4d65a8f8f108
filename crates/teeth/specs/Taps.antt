-- For the proofs: nothing here must be believed.
-- The cells of a plan, loaded, and the taps that are made of them: by the plan each is the single read. Assumes nothing.
use Rattle.std.specs.Prelude.{◌≡◌, Bool, List, ltb, length, set, replicate, Float}
use Rattle.std.proofs.Math.Path.{refl, sym, ap}
use Rattle.std.proofs.Common.{below_more, ◌∙◌, subst, not-suc-le-zero, arith, length-set, get_or-set_same, get_or-set_other, ext_get_or, lt-ltb, le-ltb}
use Rattle.std.proofs.Math.Bool.{true, false, cond}
use Prim.Native.Nat.{ℕ, zero, suc, ◌+◌, ◌-◌, ◌<◌, ◌≤◌}
use Rattle.std.proofs.Math.Numerals.{unary_clauses}
use Rattle.std.proofs.Math.Decide.{dec_le}
use Rattle.std.proofs.lemmas.List.{get_or-replicate}
use Rattle.std.specs.Float.Ieee.{nan}
use Rattle.lane.specs.Floats.{◌⊕◌, ◌⊖◌, ◌‼◌, whole}
use Rattle.lane.specs.Floats as floats
use Rattle.parts.specs.Parts.{tab, upto, piece}
use Rattle.parts.specs.Laws.{upto_same, length_tab, tab_at, tab_same}
use Rattle.lines.specs.Lines.{whole_part, held, cell_of, hermite_of, taps_of, ring_read, is_length, is_view, read_of}
use Rattle.lines.proofs.Laws.{read_good}
use Rattle.lines.specs.View.{length_of}
use Rattle.lines.proofs.Delay.{held_between}
use Rattle.extended.specs.declared.Chord.{Chord}
use Rattle.teeth.specs.Teeth.{ring_taps, taps_sum, teeth_of, tooth_delay, first_of, tooth_first, taps_at, chord_read}
use Rattle.teeth.specs.Promises.{plan_at, place_of, size_in, Planned}
use Rattle.teeth.specs.Placing.{few_teeth}

-- ---- the cells

abbrev pub back_at : (len cursor : ℕ) → List Float → ℕ → Float
back_at len cursor ring back = ring ‼ cell_of len cursor back

-- the first n cells of the plan
pub record Loaded (len cursor : ℕ) (ring : List Float) (plan : List ℕ) (n : ℕ) (cells : List Float) : Type 0 where
  pub width : length cells ≡ 32
  pub value : (m : ℕ) → m < n → cells ‼ m ≡ back_at len cursor ring (plan_at plan m)

module _ (len cursor : ℕ) (ring : List Float) (plan : List ℕ) (cells : List Float) where
  pub loaded_none : length cells ≡ 32 → Loaded len cursor ring plan 0 cells
  loaded_none w = record { width = w; value = λ m h. absurd (not-suc-le-zero h) }

  pub loaded_more : (n : ℕ) (v : Float) → n < 32 → v ≡ back_at len cursor ring (plan_at plan n) → Loaded len cursor ring plan n cells
      → Loaded len cursor ring plan (n + 1) (set cells n v)
  loaded_more n v l e q =
      let w = q.width in
      record {
        width = length-set cells n v ∙ w;
        value = below_more (λ m. set cells n v ‼ m ≡ back_at len cursor ring (plan_at plan m)) n
            (λ m h. get_or-set_other cells n m v nan (λ e. omega arith) ∙ q.value m h)
            (get_or-set_same cells n v nan (omega arith) ∙ e);
      }

-- ---- a tap

-- tooth j's, of the cells at its four places
unfoldable pub tap_of : (cells : List Float) (plan : List ℕ) (t : Float) (j : ℕ) → Float
tap_of cells plan t j =
    hermite_of (cells ‼ place_of plan j 0) (cells ‼ place_of plan j 1) (cells ‼ place_of plan j 2) (cells ‼ place_of plan j 3) t

-- four cells from the first on are those of the single read
read_is : (len cursor : ℕ) (ring : List Float) (delay a b c d : Float) → is_length len ≡ true
    → let at : ℕ → Float = λ k. back_at len cursor ring (first_of len delay + k) in
    a ≡ at 0 → b ≡ at 1 → c ≡ at 2 → d ≡ at 3
    → hermite_of a b c d (held len delay ⊖ whole (whole_part (held len delay))) ≡ ring_read len cursor delay ring
unfolding ring_read taps_of first_of
read_is len cursor ring delay a b c d g ea eb ec ed =
    let r = length_of len g in
    let w : ℕ = whole_part (held len delay) in
    let l = (held_between len delay r.least r.most).least in
    let at : ℕ → Float = back_at len cursor ring in
    let e0 : w - 1 + 0 ≡ w - 1 = omega arith in
    let e1 : w - 1 + 1 ≡ w = omega arith in
    let e2 : w - 1 + 2 ≡ w + 1 = omega arith in
    let e3 : w - 1 + 3 ≡ w + 2 = omega arith in
    λ i. hermite_of ((ea ∙ ap at e0) i) ((eb ∙ ap at e1) i) ((ec ∙ ap at e2) i) ((ed ∙ ap at e3) i) (held len delay ⊖ whole w)

pub tap_is : (len cursor : ℕ) (ring : List Float) (c : Chord) (plan : List ℕ) (teeth cells : List Float) (j : ℕ) → is_length len ≡ true
    → Planned len c plan teeth → Loaded len cursor ring plan (size_in plan) cells → j < teeth_of c
    → tap_of cells plan (teeth ‼ j) j ≡ ring_read len cursor (tooth_delay (teeth ‼ 8) c j) ring
unfolding tap_of
tap_is len cursor ring c plan teeth cells j g p q h =
    let cell : (k : ℕ) → k < 4 → cells ‼ place_of plan j k ≡ back_at len cursor ring (tooth_first len (teeth ‼ 8) c j + k) =
    λ k l. q.value (place_of plan j k) (p.place j k h l) ∙ ap (back_at len cursor ring) (p.back j k h l)
    in
    rw (p.fraction j h)
    (read_is len cursor ring (tooth_delay (teeth ‼ 8) c j) (cells ‼ place_of plan j 0) (cells ‼ place_of plan j 1) (cells ‼ place_of plan j 2)
    (cells ‼ place_of plan j 3) g (cell 0 (omega arith)) (cell 1 (omega arith)) (cell 2 (omega arith)) (cell 3 (omega arith)))

-- ---- the taps

-- eight, the first n of them made, the others 0
pub record Tapped (tap : ℕ → Float) (n : ℕ) (taps : List Float) : Type 0 where
  pub width : length taps ≡ 8
  pub value : (j : ℕ) → j < n → taps ‼ j ≡ tap j
  pub rest : (j : ℕ) → n ≤ j → j < 8 → taps ‼ j ≡ floats.zero

module _ (tap : ℕ → Float) (n : ℕ) (taps : List Float) where
  pub tapped_none : length taps ≡ 8 → ((j : ℕ) → j < 8 → taps ‼ j ≡ floats.zero) → Tapped tap 0 taps
  tapped_none w z = record { width = w; value = λ j h. absurd (not-suc-le-zero h); rest = λ j l h. z j h }

  pub tapped_more : (v : Float) → n < 8 → v ≡ tap n → Tapped tap n taps → Tapped tap (n + 1) (set taps n v)
  tapped_more v l e q =
      let w = q.width in
      let other : (j : ℕ) → (j ≡ n → ⊥) → set taps n v ‼ j ≡ taps ‼ j = λ j ne. get_or-set_other taps n j v nan ne in
      record {
        width = length-set taps n v ∙ w;
        value = below_more (λ j. set taps n v ‼ j ≡ tap j) n (λ j h. other j (λ e. omega arith) ∙ q.value j h)
            (get_or-set_same taps n v nan (omega arith) ∙ e);
        rest = λ j m h. other j (λ e. omega arith) ∙ q.rest j (omega arith) h;
      }

  pub tapped_is : Tapped tap n taps → taps ≡ tab (λ j. cond (ltb j n) (tap j) floats.zero) 8
  tapped_is q =
      let w = q.width in
      let f : ℕ → Float = λ j. cond (ltb j n) (tap j) floats.zero in
      ext_get_or nan taps (tab f 8) (w ∙ sym (length_tab f 8))
      (λ j h.
      elim (dec_le n j) [
        | yes l ↦ q.rest j l (omega arith) ∙ sym (tab_at f 8 j nan (omega arith) ∙ rw (le-ltb j n l))
        | no l ↦ q.value j (omega arith) ∙ sym (tab_at f 8 j nan (omega arith) ∙ rw (lt-ltb j n (omega arith)))
      ])

-- made by the plan of the cells that it names, they are the ring's
pub taps_are : (len cursor : ℕ) (ring : List Float) (c : Chord) (plan : List ℕ) (teeth cells taps : List Float) → is_length len ≡ true
    → Planned len c plan teeth → Loaded len cursor ring plan (size_in plan) cells → Tapped (λ j. tap_of cells plan (teeth ‼ j) j) (teeth_of c) taps
    → taps ≡ ring_taps len cursor ring (teeth ‼ 8) c
unfolding taps_at
taps_are len cursor ring c plan teeth cells taps g p q t =
    tapped_is (λ j. ring_read len cursor (tooth_delay (teeth ‼ 8) c j) ring) (teeth_of c) taps
    (record { width = t.width; value = λ j h. t.value j h ∙ tap_is len cursor ring c plan teeth cells j g p q h; rest = t.rest })

-- ---- their sum

-- of the first n taps
abbrev pub summed : (tap : ℕ → Float) (n : ℕ) → Float
summed tap n = upto (λ j sum. sum ⊕ tap (suc j)) (n - 1) (tap 0)

pub summed_more : (tap : ℕ → Float) (j : ℕ) → 1 ≤ j → summed tap j ⊕ tap j ≡ summed tap (j + 1)
summed_more tap zero h = absurd (omega arith)
summed_more tap (suc j) h = simp unary_clauses refl

-- the taps so far and their sum
pub record Summed (tap : ℕ → Float) (n : ℕ) (sum : Float) (taps : List Float) : Type 0 where
  pub total : sum ≡ summed tap n
  pub made : Tapped tap n taps

module _ (tap : ℕ → Float) where
  pub summed_first : (v : Float) (taps : List Float) → v ≡ tap 0 → taps ≡ replicate 8 floats.zero → Summed tap 1 v (set taps 0 v)
  summed_first v taps e z = record {
    total = e;
    made = tapped_more tap 0 taps v (omega arith) e
        (tapped_none tap 0 taps (ap length z) (λ j h. ap (λ (xs : List Float). xs ‼ j) z ∙ get_or-replicate 8 j floats.zero nan h));
  }

  pub summed_next : (j : ℕ) (sum r : Float) (taps after : List Float) → 1 ≤ j → j < 8 → r ≡ sum ⊕ tap j → after ≡ set taps j (tap j)
      → Summed tap j sum taps → Summed tap (j + 1) r after
  summed_next j sum r taps after l h e f s = record {
    total = e ∙ ap (λ (v : Float). v ⊕ tap j) s.total ∙ summed_more tap j l;
    made = subst (Tapped tap (j + 1)) (sym f) (tapped_more tap j taps (tap j) h refl s.made);
  }

module _ (len cursor : ℕ) (ring : List Float) (c : Chord) (plan : List ℕ) (teeth cells : List Float) (g : is_length len ≡ true)
    (p : Planned len c plan teeth) (q : Loaded len cursor ring plan (size_in plan) cells) where
  abbrev taps : List Float
  taps = ring_taps len cursor ring (teeth ‼ 8) c

  tap_in : (j : ℕ) → j < teeth_of c → tap_of cells plan (teeth ‼ j) j ≡ taps ‼ j
  unfolding taps_at
  tap_in j h =
      let n = few_teeth c in
      tap_is len cursor ring c plan teeth cells j g p q h
      ∙ sym (tab_at (λ j. cond (ltb j (teeth_of c)) (ring_read len cursor (tooth_delay (teeth ‼ 8) c j) ring) floats.zero) 8 j nan (omega arith)
      ∙ rw (lt-ltb j (teeth_of c) h))

  pub sum_is : 0 < teeth_of c → summed (λ j. tap_of cells plan (teeth ‼ j) j) (teeth_of c) ≡ taps_sum (teeth_of c) taps
  unfolding taps_sum
  sum_is h =
      upto_same (λ j sum. sum ⊕ tap_of cells plan (teeth ‼ suc j) (suc j)) (λ j sum. sum ⊕ taps ‼ suc j) (teeth_of c - 1)
      (tap_of cells plan (teeth ‼ 0) 0)
      (λ j sum l. ap (λ (v : Float). sum ⊕ v) (tap_in (suc j) (omega arith)))
      ∙ ap (upto (λ j sum. sum ⊕ taps ‼ suc j) (teeth_of c - 1)) (tap_in 0 h)

-- no teeth
pub sum_none : (read : Float → Float) (ratio : Float) (c : Chord) → teeth_of c ≡ 0 → floats.zero ≡ taps_sum (teeth_of c) (taps_at read ratio c)
unfolding taps_sum taps_at
sum_none read ratio c e = rw e refl

pub rest_none : (read : Float → Float) (ratio : Float) (c : Chord) → teeth_of c ≡ 0 → replicate 8 floats.zero ≡ taps_at read ratio c
unfolding taps_at
rest_none read ratio c e = rw e refl

-- ---- through a view

module _ (xs : List Float) (len cursor slot : ℕ) (ratio : Float) (c : Chord) where
  pub chord_good : is_view len slot (length xs) ≡ true → ring_taps len cursor (piece len slot xs) ratio c ≡ chord_read xs len cursor slot ratio c
  unfolding chord_read
  chord_good h = λ i. taps_at (λ delay. sym (read_good xs len cursor slot delay h) i) ratio c

  pub chord_bad : is_view len slot (length xs) ≡ false → replicate 8 floats.zero ≡ chord_read xs len cursor slot ratio c
  unfolding chord_read taps_at read_of
  chord_bad h =
      rw h
      (tab_same (λ j. floats.zero) (λ j. cond (ltb j (teeth_of c)) floats.zero floats.zero) 8 (λ j l. none (ltb j (teeth_of c))))
    where
      none : (t : Bool) → floats.zero ≡ cond t floats.zero floats.zero
      none true = refl
      none false = refl
