-- For the proofs: nothing here must be believed.
-- Numbers that are not heard, whatever the structure: with two axes those after a table's near face (C-17); of the chord the offsets past its
-- teeth, and by any code but 13 all (C-18). Assumes nothing.
use Rattle.std.specs.Prelude.{◌≡◌, Bool, true, false, cond, List, eqb, Float}
use Rattle.std.proofs.Math.Path.{refl, ap}
use Prim.Native.Nat.{ℕ, ◌*◌, ◌<◌}
use Rattle.std.proofs.Common.{eqb-true}
use Rattle.lane.specs.Floats.{◌‼◌}
use Rattle.lines.specs.Lines.{ring_read}
use Rattle.filter.specs.declared.Pitch.{Pitch}
use Rattle.filter.specs.Filter.{over_of, once}
use Rattle.extended.specs.declared.Chord.{Chord}
use Rattle.extended.specs.declared.Settings.{Settings}
use Rattle.teeth.specs.Teeth.{teeth_of}
use Rattle.teeth.specs.Laws.{taps_same}
use Rattle.pole_zero.specs.declared.Table.{Table}
use Rattle.poles.proofs.Heard.{others, step_heard, over_heard}
use Rattle.sweeps.specs.Sweeps.{buzz_coefficients, buzz_with, dj_coefficients, dj_with, dj_over, diffuser_coefficients, diffuser_with}
use Rattle.ladders.specs.Ladders.{transistor_coefficients, transistor_with, driven_coefficients, driven_with}
use Rattle.ladders.specs.Ladders.{acid_coefficients, acid_with, clean_ladder_coefficients, clean_ladder_with}
use Rattle.expanders.specs.Expanders.{expander_coefficients, expander_with, k35_coefficients, k35_with}
use Rattle.poles.specs.Poles.{pole_coefficients}
use Rattle.combs.specs.declared.FeedbackPath.{FeedbackPath}
use Rattle.combs.specs.Combs.{feedback_path, comb_coefficients, comb_with, comb_over, comb_ratio, chord_step, chord_over}
use Rattle.kernels.specs.Kernels.{Kernel, on_ring, kernel_of, over_count}

-- the table t; with two axes, with other numbers after the near face's
abbrev pub other_table : Table → (far : List Float) → Table
other_table t far = record { active = t.active; three = t.three; sections = others t.three t.sections far; gain = t.gain }

module _ (code : ℕ) (t : Table) (far : List Float) (pitch : Pitch) (p : Settings) where
  pub kernel_heard : (len cursor : ℕ) (state ring : List Float) (x : Float)
      → kernel_of code (other_table t far) len cursor pitch p state ring x ≡ kernel_of code t len cursor pitch p state ring x
  unfolding kernel_of
  kernel_heard len cursor state ring x =
      rw (step_heard t.three t.sections far pitch p t.active t.gain state x) refl

  pub count_heard : over_count code (other_table t far) pitch p ≡ over_count code t pitch p
  unfolding over_count
  count_heard = rw (over_heard t.three t.sections far pitch p t.active) refl

-- ---- the chord

-- settings with a chord
abbrev pub with_chord : Settings → Chord → Settings
with_chord p c = record {
  resonance = p.resonance;
  inv_knee = p.inv_knee;
  character = p.character;
  x = p.x;
  y = p.y;
  z = p.z;
  ref_over_rate = p.ref_over_rate;
  reference_ratio = p.reference_ratio;
  chord = c;
}

-- code 13 has the same teeth of two chords
pub record SameTeeth (c d : Chord) : Type 0 where
  pub teeth : teeth_of c ≡ teeth_of d
  pub octaves : (j : ℕ) → j < teeth_of c → c.offsets ‼ j ≡ d.offsets ‼ j

step_chord : (f : FeedbackPath) (ratio : Float) (c d : Chord) → SameTeeth c d → (len cursor : ℕ) (ring : List Float) (x : Float)
    → chord_step f ratio c len cursor ring x ≡ chord_step f ratio d len cursor ring x
unfolding chord_step
step_chord f ratio c d h len cursor ring x =
    rw (h.teeth, taps_same (λ delay. ring_read len cursor delay ring) ratio c d h.teeth h.octaves) refl

module _ (code : ℕ) (t : Table) (pitch : Pitch) (p : Settings) (c d : Chord) (h : code ≡ 13 → SameTeeth c d) where
  of_chord : (A : Type 0) (u v rest : A) → (SameTeeth c d → u ≡ v) → cond (eqb code 13) u rest ≡ cond (eqb code 13) v rest
  of_chord A u v rest e = go (eqb code 13) refl
    where
      go : (b : Bool) → eqb code 13 ≡ b → cond b u rest ≡ cond b v rest
      go true k = e (h (eqb-true code 13 k))
      go false k = refl

  pub kernel_chord : (len cursor : ℕ) (state ring : List Float) (x : Float)
      → kernel_of code t len cursor pitch (with_chord p c) state ring x ≡ kernel_of code t len cursor pitch (with_chord p d) state ring x
  unfolding kernel_of buzz_coefficients buzz_with dj_coefficients dj_with diffuser_coefficients diffuser_with transistor_coefficients transistor_with
      driven_coefficients driven_with acid_coefficients acid_with clean_ladder_coefficients clean_ladder_with expander_coefficients expander_with
      k35_coefficients k35_with pole_coefficients comb_coefficients comb_with feedback_path comb_ratio
  kernel_chord len cursor state ring x =
      rw (of_chord Kernel
      (on_ring state (chord_step (feedback_path (with_chord p c)) (comb_ratio pitch (with_chord p c)) c len cursor ring x))
      (on_ring state (chord_step (feedback_path (with_chord p c)) (comb_ratio pitch (with_chord p c)) d len cursor ring x))
      (record { out = x; state = state; ring = ring })
      (λ e. ap (on_ring state) (step_chord (feedback_path (with_chord p c)) (comb_ratio pitch (with_chord p c)) c d e len cursor ring x))) refl

  pub count_chord : over_count code t pitch (with_chord p c) ≡ over_count code t pitch (with_chord p d)
  unfolding over_count comb_over dj_over chord_over
  count_chord =
      rw (of_chord ℕ (teeth_of c * once (comb_over pitch (with_chord p c))) (teeth_of d * once (comb_over pitch (with_chord p c)))
      (cond (eqb code 2) (once (dj_over pitch (with_chord p c))) (once (over_of pitch p.ref_over_rate)))
      (λ e. ap (λ (n : ℕ). n * once (comb_over pitch (with_chord p c))) e.teeth)) refl
