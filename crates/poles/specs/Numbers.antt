-- For the proofs: nothing here must be believed.
-- The numbers of a table's sections at one pitch, X, Y and Z, as a list: five a section, for the sections that run, then the pitch, X, Y and Z.
-- Definitions, and the laws that the list grows section by section and that its sections are the table's. Assumes nothing.
use Rattle.std.specs.Prelude.{◌≡◌, List, [], ◌∷◌, ◌++◌, eqb, ltb}
use Rattle.std.proofs.Math.Path.{refl, ap}
use Rattle.std.proofs.Common.{zero-add, sym, ◌∙◌, subst, lt-ltb}
use Prim.Native.Nat.{ℕ, zero, suc, ◌+◌, ◌*◌, ◌/◌, ◌%◌, ◌≤◌, ◌<◌, min}
use native.Mathlib.Omega.{arith}
use Rattle.std.proofs.Math.Bool.{cond}
use Rattle.std.proofs.Math.ListN.{get_or-append, replicate}
use Rattle.std.proofs.lemmas.List.Edits.{sets}
use Rattle.std.specs.Float.Ieee.{Float, nan}
use Rattle.parts.specs.Parts.{upto, tab}
use Rattle.parts.specs.Laws.{upto_same, length_tab, tab_at}
use Rattle.lane.specs.Floats.{◌⊕◌, ◌⊗◌, ◌‼◌}
use Rattle.lane.specs.Floats as floats
use Rattle.filter.specs.declared.Pitch.{Pitch}
use Rattle.filter.specs.declared.Ratio.{Ratio}
use Rattle.filter.specs.Filter.{octaves_of, ratio_at, over_at, once, gain_at}
use Rattle.filter.specs.Judged.{once_most}
use Rattle.extended.specs.Extended.{Ticked, unit_or0}
use Rattle.points.specs.declared.Section.{Section}
use Rattle.points.specs.Points.{new_section, between, section_between}
use Rattle.poles.specs.declared.Pad.{Pad}
use Rattle.poles.specs.declared.PoleSection.{PoleSection}
use Rattle.poles.specs.declared.JudgedSection.{JudgedSection}
use Rattle.poles.specs.Poles.{term, blend_of, far_face, number_at, pole_section, section_over, pole_stage, pole_series, pole_step}

-- of a section that does not run, zeros
abbrev none : PoleSection
none = record { g = floats.zero; k = floats.zero; high = floats.zero; band = floats.zero; low = floats.zero }

-- section j, if it is among the n that run
unfoldable pub running : ℕ → (ℕ → PoleSection) → ℕ → PoleSection
running n c j = cond (ltb j n) (c j) none

-- section j with its mark
unfoldable pub judged_section : (at : ℕ → Float) (transpose : Float) → Ratio → ℕ → JudgedSection
judged_section at transpose reference j =
    record { section = pole_section at transpose reference j; over = section_over at transpose reference j }

-- the two ways to a section's number: in the near face, and between the two
unfoldable pub near_at : (sections : List Float) → Pad → ℕ → Float
near_at sections d at = blend_of sections at d.x d.y

unfoldable pub between_at : (sections : List Float) → Pad → ℕ → Float
between_at sections d at = between (blend_of sections at d.x d.y) (blend_of sections (far_face + at) d.x d.y) (unit_or0 d.z)

-- the five numbers of section j, in the face that begins at `face`
unfoldable pub face_section : (sections : List Float) (face j : ℕ) (x y : Float) → Section
face_section sections face j x y =
    new_section (blend_of sections (face + term j 0) x y) (blend_of sections (face + term j 1) x y) (blend_of sections (face + term j 2) x y)
    (blend_of sections (face + term j 3) x y) (blend_of sections (face + term j 4) x y)

-- the five numbers of section j, of a way to a number
unfoldable pub numbers_of : (at : ℕ → Float) → ℕ → Section
numbers_of at j = new_section (at (term j 0)) (at (term j 1)) (at (term j 2)) (at (term j 3)) (at (term j 4))

-- a closure takes the eight sections' numbers, and gives them by this way
abbrev pub TakesEight : (pre : ℕ → Type 0) → Type 0
TakesEight pre = (j : ℕ) → j < 8 → pre j

abbrev pub Gives : (post : ℕ → Section → Type 0) (at : ℕ → Float) → Type 0
Gives post at = (j : ℕ) (s : Section) → j < 8 → post j s → s ≡ numbers_of at j

-- a section with its mark from its five numbers
unfoldable pub judged_of : Section → (transpose : Float) → Ratio → JudgedSection
judged_of n transpose reference =
    record {
      section = record { g = gain_at (ratio_at (transpose ⊕ n.octaves) reference); k = n.damping; high = n.high; band = n.band; low = n.low };
      over = once (over_at (transpose ⊕ n.octaves) reference);
    }

-- it is the table's, of the numbers that a closure gives
pub judged_given : (at : ℕ → Float) (transpose : Float) (reference : Ratio) (j : ℕ) {n : Section} {s : JudgedSection} → n ≡ numbers_of at j
    → s ≡ judged_of n transpose reference → s ≡ judged_section at transpose reference j
unfolding judged_of numbers_of judged_section pole_section section_over
judged_given at transpose reference j h e = e ∙ ap (λ (n : Section). judged_of n transpose reference) h

pub mark_most : (at : ℕ → Float) (transpose : Float) (reference : Ratio) (j : ℕ) {s : JudgedSection}
    → s ≡ judged_section at transpose reference j → s.over ≤ 1
unfolding judged_section section_over
mark_most at transpose reference j e = subst (λ (s : JudgedSection). s.over ≤ 1) (sym e) (once_most (over_at (transpose ⊕ at (term j 0)) reference))

module _ (sections : List Float) (d : Pad) (j : ℕ) where
  abbrev near : Section
  near = face_section sections 0 j d.x d.y

  pub numbers_near : near ≡ numbers_of (near_at sections d) j
  unfolding face_section numbers_of near_at
  numbers_near =
      let at : (i : ℕ) → blend_of sections (0 + i) d.x d.y ≡ blend_of sections i d.x d.y = λ i t. blend_of sections (zero-add i t) d.x d.y in
      λ t. new_section (at (term j 0) t) (at (term j 1) t) (at (term j 2) t) (at (term j 3) t) (at (term j 4) t)

  pub numbers_between : section_between near (face_section sections far_face j d.x d.y) (unit_or0 d.z) ≡ numbers_of (between_at sections d) j
  unfolding face_section numbers_of between_at section_between
  numbers_between =
      let far : ℕ → Float = λ i. blend_of sections (far_face + i) d.x d.y in
      let at : (i : ℕ) → between (blend_of sections (0 + i) d.x d.y) (far i) (unit_or0 d.z) ≡ between_at sections d i
      = λ i t. between (blend_of sections (zero-add i t) d.x d.y) (far i) (unit_or0 d.z) in
      λ t. new_section (at (term j 0) t) (at (term j 1) t) (at (term j 2) t) (at (term j 3) t) (at (term j 4) t)

-- a section's five numbers, counted from 0
abbrev pub number : PoleSection → ℕ → Float
number c i = cond (eqb i 0) c.g (cond (eqb i 1) c.k (cond (eqb i 2) c.high (cond (eqb i 3) c.band c.low)))

unfoldable pub pole_numbers : (sections : List Float) (active : ℕ) → Ratio → Pitch → Pad → List Float
pole_numbers sections active reference pitch d =
    tab (λ i. number (running (min active 8) (pole_section (number_at sections d) (octaves_of pitch) reference) (i / 5)) (i % 5)) 40
    ++ pitch.0 ∷ d.x ∷ d.y ∷ d.z ∷ []

-- section j of such a list
unfoldable pub section_at : List Float → ℕ → PoleSection
section_at t j =
    record {
      g = t ‼ (5 * j);
      k = t ‼ (5 * j + 1);
      high = t ‼ (5 * j + 2);
      band = t ‼ (5 * j + 3);
      low = t ‼ (5 * j + 4);
    }

-- ---- the list section by section

-- the list with the first n sections' numbers, and after all sections' these
unfoldable pub table_of : (c : ℕ → PoleSection) (n : ℕ) (last : List Float) → List Float
table_of c n last = tab (λ i. number (running n c (i / 5)) (i % 5)) 40 ++ last

abbrev pub five : PoleSection → List Float
five c = c.g ∷ c.k ∷ c.high ∷ c.band ∷ c.low ∷ []

abbrev pub zeros : List Float
zeros = floats.zero ∷ floats.zero ∷ floats.zero ∷ floats.zero ∷ []

-- the marks of the first n sections
abbrev pub marks_of : (mark : ℕ → ℕ) (n : ℕ) → ℕ
marks_of mark n = upto (λ j t. t + mark j) n 0

module _ (c : ℕ → PoleSection) where
  pub table_none : replicate 44 floats.zero ≡ table_of c 0 zeros
  unfolding running table_of
  table_none = refl

  pub table_more : (j : ℕ) → j < 8 → sets (table_of c j zeros) (5 * j) (five (c j)) ≡ table_of c (j + 1) zeros
  unfolding running table_of
  table_more zero h = refl
  table_more (suc zero) h = refl
  table_more (suc (suc zero)) h = refl
  table_more (suc (suc (suc zero))) h = refl
  table_more (suc (suc (suc (suc zero)))) h = refl
  table_more (suc (suc (suc (suc (suc zero))))) h = refl
  table_more (suc (suc (suc (suc (suc (suc zero)))))) h = refl
  table_more (suc (suc (suc (suc (suc (suc (suc zero))))))) h = refl
  table_more (suc (suc (suc (suc (suc (suc (suc (suc j)))))))) h = absurd (omega arith)

  pub table_last : (n : ℕ) (p x y z : Float) → sets (table_of c n zeros) 40 (p ∷ x ∷ y ∷ z ∷ []) ≡ table_of c n (p ∷ x ∷ y ∷ z ∷ [])
  unfolding table_of
  table_last n p x y z = refl

-- ---- the sections that run are the table's

module _ (sections : List Float) (active : ℕ) (reference : Ratio) (pitch : Pitch) (d : Pad) where
  abbrev section : ℕ → PoleSection
  section = pole_section (number_at sections d) (octaves_of pitch) reference

  at : (j i k : ℕ) → j < 8 → i < 5 → k ≡ 5 * j + i
      → pole_numbers sections active reference pitch d ‼ k ≡ number (running (min active 8) section j) i
  unfolding pole_numbers
  at j i k hj hi e =
      let f : ℕ → Float = λ m. number (running (min active 8) section (m / 5)) (m % 5) in
      let high : k / 5 ≡ j = omega arith in
      let low : k % 5 ≡ i = omega arith in
      get_or-append (tab f 40) (pitch.0 ∷ d.x ∷ d.y ∷ d.z ∷ []) nan k (omega (arith, length_tab f 40))
      ∙ tab_at f 40 k nan (omega arith)
      ∙ (λ t. number (running (min active 8) section (high t)) (low t))

  runs : (n j : ℕ) → j < n → running n section j ≡ section j
  unfolding running
  runs n j h = simp (lt-ltb j n h)

  section_at_lem : (j : ℕ) → j < min active 8 → section_at (pole_numbers sections active reference pitch d) j ≡ section j
  unfolding section_at
  section_at_lem j r =
      let h : j < 8 = omega arith in
      (λ t. record {
        g = at j 0 (5 * j) h (omega arith) (omega arith) t;
        k = at j 1 (5 * j + 1) h (omega arith) refl t;
        high = at j 2 (5 * j + 2) h (omega arith) refl t;
        band = at j 3 (5 * j + 3) h (omega arith) refl t;
        low = at j 4 (5 * j + 4) h (omega arith) refl t;
      })
      ∙ runs (min active 8) j r

  pub numbers_step : (gain : Float) (state : List Float) (v : Float)
      → pole_step (section_at (pole_numbers sections active reference pitch d)) active gain state v ≡ pole_step section active gain state v
  unfolding pole_step pole_series
  numbers_step gain state v =
      ap (λ (t : Ticked). record { out = t.out ⊗ gain; state = t.state })
      (upto_same _ (λ j. pole_stage (section j) j) (min active 8) (record { out = v; state = state })
      (λ j t h. ap (λ (c : PoleSection). pole_stage c j t) (section_at_lem j h)))
