-- For the proofs: nothing here must be believed.
-- A kernel keeps its states' number and its ring's length, and its tick judges at most eight ratios, whatever the structure.
-- Assumes nothing.
use Rattle.std.specs.Prelude.{◌≡◌, ℕ, ◌+◌, ◌*◌, ◌≤◌, min, Bool, true, false, cond, List, eqb, Float}
use Rattle.std.proofs.Math.Path.{refl}
use Rattle.std.proofs.Common.{zero-le, mul-le-mul_left, arith}
use Rattle.std.proofs.Math.ListN.{length, length-set}
use Rattle.parts.specs.Parts.{upto}
use Rattle.parts.specs.Laws.{upto_keep, upto_count}
use Rattle.lane.specs.Floats.{◌⊕◌, zero}
use Rattle.lines.specs.Lines.{ring_write}
use Rattle.pole_zero.specs.declared.Table.{Table}
use Rattle.filter.specs.declared.Pitch.{Pitch}
use Rattle.filter.specs.Filter.{octaves_of, over_at, over_of, once}
use Rattle.filter.specs.Judged.{once_most}
use Rattle.extended.specs.declared.Settings.{Settings}
use Rattle.extended.specs.Extended.{Ticked}
use Rattle.sweeps.specs.declared.BuzzMorph.{BuzzMorph}
use Rattle.sweeps.specs.declared.DjSweep.{DjSweep}
use Rattle.sweeps.specs.declared.Diffuser.{Diffuser}
use Rattle.sweeps.specs.declared.Diffused.{Diffused}
use Rattle.sweeps.specs.Sweeps.{buzz_coefficients, buzz_step, dj_coefficients, dj_over, dj_step, diffuse_stage, diffuser_coefficients, diffuser_step}
use Rattle.stages.specs.declared.Stages.{Stages}
use Rattle.stages.specs.declared.Five.{Five}
use Rattle.ladders.specs.declared.TransistorLadder.{TransistorLadder}
use Rattle.ladders.specs.declared.DrivenLadder.{DrivenLadder}
use Rattle.ladders.specs.declared.DiodeLadder.{DiodeLadder}
use Rattle.expanders.specs.declared.Expander.{Expander}
use Rattle.expanders.specs.declared.K35.{K35}
use Rattle.stages.specs.Stages.{ladder_states}
use Rattle.ladders.specs.Ladders.{transistor_coefficients, transistor_step, driven_coefficients, driven_step}
use Rattle.ladders.specs.Ladders.{acid_coefficients, acid_step, clean_ladder_coefficients, clean_ladder_step}
use Rattle.expanders.specs.Expanders.{expander_coefficients, band_step, multimode_weights, multimode_step, k35_coefficients, k35_step}
use Rattle.poles.specs.declared.PoleSection.{PoleSection}
use Rattle.poles.specs.Poles.{term, pad_of, number_at, pole_coefficients, section_over, pole_over, pole_stage, pole_series, pole_step}
use Rattle.combs.specs.declared.Comb2.{Comb2}
use Rattle.extended.specs.declared.Chord.{Chord}
use Rattle.teeth.specs.Teeth.{teeth_of}
use Rattle.combs.specs.declared.FeedbackPath.{FeedbackPath}
use Rattle.combs.specs.Combs.{comb_end, comb_coefficients, comb_over, comb_step, feedback_path, comb_ratio, chord_step, chord_over}
use Rattle.kernels.specs.Kernels.{Kernel, on_states, kernel_of, over_count}

-- ---- the states of each kernel are as many as they were

module _ (state : List Float) (x : Float) where
  buzz_length : (c : BuzzMorph) → length (buzz_step c state x).state ≡ length state
  unfolding buzz_step
  buzz_length c = simp length-set

  dj_length : (c : DjSweep) → length (dj_step c state x).state ≡ length state
  unfolding dj_step
  dj_length c = simp length-set

  diffuser_length : (c : Diffuser) → length (diffuser_step c state x).state ≡ length state
  unfolding diffuser_step diffuse_stage
  diffuser_length c =
      upto_keep (λ (d : Diffused). length d.state ≡ length state) (diffuse_stage c) 8
      (record { state = state; u = x; out = zero })
      (λ j d h e. simp length-set e)
      refl

  ladder_length : (y : Stages) → length (ladder_states state y) ≡ length state
  unfolding ladder_states
  ladder_length y = simp length-set

  transistor_length : (c : TransistorLadder) (v : Float) → length (transistor_step c state v).state ≡ length state
  unfolding transistor_step
  transistor_length c v = ladder_length _

  driven_length : (c : DrivenLadder) → length (driven_step c state x).state ≡ length state
  unfolding driven_step
  driven_length c = transistor_length _ _

  acid_length : (c : DiodeLadder) → length (acid_step c state x).state ≡ length state
  unfolding acid_step
  acid_length c = ladder_length _

  clean_length : (c : DiodeLadder) → length (clean_ladder_step c state x).state ≡ length state
  unfolding clean_ladder_step
  clean_length c = ladder_length _

  band_length : (c : Expander) → length (band_step c state x).state ≡ length state
  unfolding band_step
  band_length c = ladder_length _

  multimode_length : (c : Expander) (w : Five) → length (multimode_step c w state x).state ≡ length state
  unfolding multimode_step
  multimode_length c w = ladder_length _

  k35_length : (c : K35) → length (k35_step c state x).state ≡ length state
  unfolding k35_step
  k35_length c = simp length-set

  pole_length : (c : ℕ → PoleSection) (active : ℕ) (gain : Float) → length (pole_step c active gain state x).state ≡ length state
  unfolding pole_step pole_series pole_stage
  pole_length c active gain =
      upto_keep (λ (d : Ticked). length d.state ≡ length state) (λ j. pole_stage (c j) j) (min active 8)
      (record { out = x; state = state })
      (λ j d h e. simp length-set e)
      refl

-- so are the cells of both combs' rings
end_length : (c : FeedbackPath) (len cursor : ℕ) (ring : List Float) (taps x : Float) → length (comb_end c len cursor ring taps x).ring ≡ length ring
unfolding comb_end ring_write
end_length c len cursor ring taps x = simp length-set

comb_length : (c : Comb2) (len cursor : ℕ) (ring : List Float) (x : Float) → length (comb_step c len cursor ring x).ring ≡ length ring
unfolding comb_step
comb_length c len cursor ring x = end_length c.path len cursor ring _ x

chord_length : (c : FeedbackPath) (ratio : Float) (chord : Chord) (len cursor : ℕ) (ring : List Float) (x : Float)
    → length (chord_step c ratio chord len cursor ring x).ring ≡ length ring
unfolding chord_step
chord_length c ratio chord len cursor ring x = end_length c len cursor ring _ x

-- ---- the kernel that the code chooses

-- the states and the ring are as long as they were
pub record SameLengths (state ring : List Float) (k : Kernel) : Type 0 where
  pub states : length k.state ≡ length state
  pub cells : length k.ring ≡ length ring

module _ (state ring : List Float) where
  either : (b : Bool) (s t : Kernel) → SameLengths state ring s → SameLengths state ring t → SameLengths state ring (cond b s t)
  either true s t p q = p
  either false s t p q = q

  on_states_lem : (t : Ticked) → length t.state ≡ length state → SameLengths state ring (on_states ring t)
  on_states_lem t e = record { states = e; cells = refl }

module _ (code : ℕ) (table : Table) (len cursor : ℕ) (pitch : Pitch) (p : Settings) (state ring : List Float) (x : Float) where
  -- a kernel on the states, from what it does to them
  one_of : (n : ℕ) (t : Ticked) → length t.state ≡ length state → (rest : Kernel) → SameLengths state ring rest
      → SameLengths state ring (cond (eqb code n) (on_states ring t) rest)
  one_of n t e rest h = either state ring (eqb code n) _ _ (on_states_lem state ring t e) h

  pub kernel_lengths : SameLengths state ring (kernel_of code table len cursor pitch p state ring x)
  unfolding kernel_of
  kernel_lengths =
      one_of 1 (buzz_step _ state x) (buzz_length state x (buzz_coefficients pitch p)) _
      (one_of 2 (dj_step _ state x) (dj_length state x (dj_coefficients pitch p)) _
      (one_of 3 (diffuser_step _ state x) (diffuser_length state x (diffuser_coefficients pitch p)) _
      (one_of 4 (transistor_step _ state x) (transistor_length state x (transistor_coefficients pitch p) x) _
      (one_of 5 (acid_step _ state x) (acid_length state x (acid_coefficients pitch p)) _
      (one_of 6 (clean_ladder_step _ state x) (clean_length state x (clean_ladder_coefficients pitch p)) _
      (one_of 7 (driven_step _ state x) (driven_length state x (driven_coefficients pitch p)) _
      (one_of 8 (pole_step _ _ _ state x) (pole_length state x (pole_coefficients table.three table.sections pitch p) table.active table.gain) _
      (either state ring (eqb code 9) _ _ (record { states = refl; cells = comb_length (comb_coefficients pitch p) len cursor ring x })
      (one_of 10 (multimode_step _ _ state x) (multimode_length state x (expander_coefficients pitch p) (multimode_weights p.character)) _
      (one_of 11 (band_step _ state x) (band_length state x (expander_coefficients pitch p)) _
      (one_of 12 (k35_step _ state x) (k35_length state x (k35_coefficients pitch p)) _
      (either state ring (eqb code 13) _ _
      (record { states = refl; cells = chord_length (feedback_path p) (comb_ratio pitch p) p.chord len cursor ring x })
      (record { states = refl; cells = refl })))))))))))))

-- ---- a tick judges at most eight ratios

sections_most : (m : ℕ → ℕ) → ((j : ℕ) → m j ≤ 1) → (n : ℕ) → upto (λ j t. t + m j) n 0 ≤ n
sections_most m h n = upto_count (λ (k t : ℕ). t ≤ k) (λ j t. t + m j) n 0 (λ k t l e. omega (arith, h k)) zero-le

at_most : (b : Bool) (x y : ℕ) → x ≤ 8 → y ≤ 8 → cond b x y ≤ 8
at_most true x y hx hy = hx
at_most false x y hx hy = hy

pub chord_most : (c : Chord) (m : ℕ) → m ≤ 1 → teeth_of c * m ≤ 8
unfolding teeth_of
chord_most c m h = omega (arith, mul-le-mul_left (min c.count 8) h)

pub over_most : (code : ℕ) (table : Table) (pitch : Pitch) (p : Settings) → over_count code table pitch p ≤ 8
unfolding over_count pole_over section_over chord_over
over_most code table pitch p =
    let comb = once_most (comb_over pitch p) in
    let sweep = once_most (dj_over pitch p) in
    let other = once_most (over_of pitch p.ref_over_rate) in
    let at : ℕ → Float = number_at table.sections (pad_of table.three p) in
    let poles = sections_most
    (λ j. once (over_at (octaves_of pitch ⊕ at (term j 0)) p.ref_over_rate))
    (λ j. once_most (over_at (octaves_of pitch ⊕ at (term j 0)) p.ref_over_rate))
    (min table.active 8) in
    at_most (eqb code 8) _ _ (omega (arith, poles))
    (at_most (eqb code 9) _ _ (omega (arith, comb))
    (at_most (eqb code 13) _ _ (chord_most p.chord _ comb) (at_most (eqb code 2) _ _ (omega (arith, sweep)) (omega (arith, other)))))
