-- What is kept follows from what the frame's settings have of the pitch, the reference, the character and the place. By unfolding.
-- Assumes nothing.
use mathlib.Core.Path.{◌≡◌, refl, sym, ap, ◌∙◌, subst}
use mathlib.Core.List.{List}
use Prim.Native.Nat.{ℕ}
use lib.Ieee.{Float}
use Rattle.lane.specs.Floats.{◌‼◌}
use Rattle.filter.specs.declared.Pitch.{Pitch}
use Rattle.filter.specs.Voice.{CHARACTER}
use Rattle.extended.specs.declared.Chord.{Chord}
use Rattle.extended.specs.declared.Settings.{Settings}
use Rattle.extended.specs.Extended.{settings_at}
use Rattle.poles.specs.Poles.{pad_of}
use Rattle.kernels.specs.Kernels.{over_count}
use Rattle.kernels.specs.Tuning.{tuning_of, tuned_over, key_of, blended_of, blended_over}
use Rattle.kernels.specs.Promises.{KeptSections, KeptTeeth, PlannedAt, Tuned}
use Rattle.kernels.specs.Keeping.{key_numbers, key_over, ratio_is, over-is, sections_pass, kept, blended_at_lem, blended_kept}
use Rattle.teeth.specs.Promises.{Planned, PlannedFor}
use Rattle.run.specs.declared.Controls.{Controls}
use Rattle.run.specs.declared.Structure.{Structure}
use Rattle.run.specs.Run.{settings_of}
use Rattle.run.specs.Promises.{table_for, Keeps}

module _ (m : Structure) (sections params : List Float) (at : Controls) (p : Settings) (e : p ≡ settings_of m.k params at) where
  key_settings : (pitch : Pitch) → tuning_of m.code pitch (key_of m.k.ref_over_rate m.k.chord (params ‼ CHARACTER)) ≡ tuning_of m.code pitch p
  unfolding settings_at
  key_settings pitch = key_numbers m.code pitch (settings_of m.k params at) refl ∙ ap (tuning_of m.code pitch) (sym e)

  reference_is : p.ref_over_rate ≡ m.k.ref_over_rate
  unfolding settings_at
  reference_is = ap (λ (q : Settings). q.ref_over_rate) e

  chord_is : p.chord ≡ m.k.chord
  unfolding settings_at
  chord_is = ap (λ (q : Settings). q.chord) e

  abbrev key : Settings
  key = key_of m.k.ref_over_rate m.k.chord (params ‼ CHARACTER)

  same_over : (pitch : Pitch) (o : ℕ) → tuned_over m.code pitch key o ≡ tuned_over m.code pitch p o
  unfolding settings_at
  same_over pitch o = key_over m.code pitch (settings_of m.k params at) o refl ∙ ap (λ (q : Settings). tuned_over m.code pitch q o) (sym e)

  -- the count kept before a frame, after the tuning is brought to it and after the sections are
  module _ (pitch : Pitch) (o o1 : ℕ) (e1 : o1 ≡ tuned_over m.code pitch key o) where
    -- the sections' numbers may be brought to the settings
    pub before_blend : (blended : List Float) → KeptSections m.code (table_for m sections) m.k.ref_over_rate blended o
        → KeptSections m.code (table_for m sections) p.ref_over_rate blended o1
    before_blend blended h =
        sections_pass m.code (table_for m sections) pitch p key o o1 o1 e1 blended
        (subst (λ r. KeptSections m.code (table_for m sections) r blended o) (sym reference_is) h)

    module _ (tuning blended before : List Float) (o2 : ℕ)
        (tuned : tuning ≡ tuning_of m.code pitch key)
        (brought : blended ≡ blended_of m.code (table_for m sections) pitch p before)
        (e2 : o2 ≡ blended_over m.code (table_for m sections) p.ref_over_rate pitch (pad_of m.three p) o1) where
      -- then both lists are those of the pitch and the settings
      pub tuned_at : Tuned m.code (table_for m sections) pitch p tuning blended
      tuned_at = record { numbers = tuned ∙ key_settings pitch; sections = blended_at_lem m.code (table_for m sections) pitch p before blended brought }

      -- the count is the tick's
      pub judged : o2 ≡ over_count m.code (table_for m sections) pitch p
      judged = over-is m.code (table_for m sections) pitch p key o o1 o2 e1 (same_over pitch o) e2

      -- the plan is that of the pitch and the settings
      pub planned_at : (len : ℕ) (plan : List ℕ) (teeth : List Float)
          → (m.code ≡ 13 → PlannedFor len m.k.chord (tuning ‼ 0) plan teeth) → PlannedAt m.code len pitch p plan teeth
      planned_at len plan teeth h k =
          (subst (λ (q : Chord). Planned len q plan teeth) (sym chord_is) (h k).0, (h k).1 ∙ ratio_is m.code tuning pitch p (tuned ∙ key_settings pitch) k)

      -- and all are kept
      pub keeps : (len : ℕ) (plan : List ℕ) (teeth : List Float) → KeptTeeth len m.k.chord plan teeth
          → KeptSections m.code (table_for m sections) m.k.ref_over_rate before o → Keeps m len sections tuning blended o2 plan teeth
      unfolding blended_over
      keeps len plan teeth t h = record {
        numbers = kept m.code m.k.ref_over_rate m.k.chord pitch (params ‼ CHARACTER) tuning _ o o1 o2 tuned e1 e2;
        blends = subst (λ r. KeptSections m.code (table_for m sections) r blended o2) reference_is
            (unfold blended_over in blended_kept m.code (table_for m sections) pitch p before blended brought o1 o2 (before_blend before h) e2);
        planned = t;
      }
