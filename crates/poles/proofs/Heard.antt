-- For the proofs: nothing here must be believed.
-- C-17: with two axes the numbers after the near face are not heard: whatever they are, the sections take the same step and have the same marks.
-- Assumes nothing.
use Rattle.std.specs.Prelude.{◌≡◌, refl, ℕ, ◌+◌, ◌<◌, min, Bool, true, false, cond, List, ◌++◌, Float}
use Rattle.std.proofs.Math.Path.{ap}
use Rattle.std.proofs.Common.{◌∙◌, arith}
use Rattle.std.proofs.Math.ListN.{get_or-append}
use Rattle.std.specs.Float.{nan}
use Rattle.parts.specs.Parts.{tab}
use Rattle.parts.specs.Laws.{upto_same, length_tab, tab_at}
use Rattle.lane.specs.Floats.{◌⊕◌, ◌⊗◌, ◌‼◌, fma}
use Rattle.filter.specs.declared.Pitch.{Pitch}
use Rattle.filter.specs.Filter.{octaves_of, ratio_at, over_at, once, gain_at}
use Rattle.extended.specs.declared.Settings.{Settings}
use Rattle.extended.specs.Extended.{Ticked}
use Rattle.poles.specs.declared.JudgedSection.{JudgedSection}
use Rattle.poles.specs.Poles.{term, blend_of, far_face, pad_of, number_at, pole_section, section_over, pole_coefficients, pole_over}
use Rattle.poles.specs.Poles.{pole_stage, pole_series, pole_step}
use Rattle.poles.specs.Numbers.{judged_section}

-- a table's list; with two axes, with other numbers after the near face's
abbrev pub others : (three : Bool) (sections far : List Float) → List Float
others three sections far = cond three sections (tab (λ i. sections ‼ i) far_face ++ far)

near : (sections far : List Float) (i : ℕ) → i < far_face → others false sections far ‼ i ≡ sections ‼ i
near sections far i l =
    let f : ℕ → Float = λ k. sections ‼ k in
    get_or-append (tab f far_face) far nan i (omega (arith, length_tab f far_face)) ∙ tab_at f far_face i nan l

number_heard : (three : Bool) (sections far : List Float) (p : Settings) (at : ℕ) → at + 3 < far_face
    → number_at (others three sections far) (pad_of three p) at ≡ number_at sections (pad_of three p) at
unfolding number_at blend_of
number_heard true sections far p at l = refl
number_heard false sections far p at l =
    let e = near sections far in
    λ t. fma (e (at + 3) l t) (p.x ⊗ p.y)
    (fma (e (at + 2) (omega arith) t) p.y (fma (e (at + 1) (omega arith) t) p.x (e at (omega arith) t)))

module _ (three : Bool) (sections far : List Float) (pitch : Pitch) (p : Settings) where
  abbrev number : List Float → ℕ → Float
  number xs = number_at xs (pad_of three p)

  abbrev judged : List Float → ℕ → JudgedSection
  judged xs = judged_section (number xs) (octaves_of pitch) p.ref_over_rate

  section_heard : (j : ℕ) → j < 8 → judged (others three sections far) j ≡ judged sections j
  unfolding judged_section pole_section section_over
  section_heard j h =
      let r = p.ref_over_rate in
      let e : (i : ℕ) → i < 5 → number (others three sections far) (term j i) ≡ number sections (term j i) =
      λ i l. number_heard three sections far p (term j i) (omega arith) in
      let octaves = ap (λ (o : Float). octaves_of pitch ⊕ o) (e 0 (omega arith)) in
      λ t. record {
        section = record {
          g = gain_at (ratio_at (octaves t) r);
          k = e 1 (omega arith) t;
          high = e 2 (omega arith) t;
          band = e 3 (omega arith) t;
          low = e 4 (omega arith) t;
        };
        over = once (over_at (octaves t) r);
      }

  pub step_heard : (active : ℕ) (gain : Float) (state : List Float) (x : Float)
      → pole_step (pole_coefficients three (others three sections far) pitch p) active gain state x
      ≡ pole_step (pole_coefficients three sections pitch p) active gain state x
  unfolding pole_step pole_series pole_coefficients judged_section
  step_heard active gain state x =
      ap (λ (d : Ticked). record { out = d.out ⊗ gain; state = d.state })
      (upto_same _ _ (min active 8) (record { out = x; state = state })
      (λ j d h. ap (λ (s : JudgedSection). pole_stage s.section j d) (section_heard j (omega arith))))

  pub over_heard : (active : ℕ)
      → pole_over (number (others three sections far)) active (octaves_of pitch) p.ref_over_rate
      ≡ pole_over (number sections) active (octaves_of pitch) p.ref_over_rate
  unfolding pole_over judged_section
  over_heard active = upto_same _ _ (min active 8) 0 (λ j n h. ap (λ (s : JudgedSection). n + s.over) (section_heard j (omega arith)))
