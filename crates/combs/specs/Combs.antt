-- Comb2 (extended.rs): a feedback comb whose loop reads two taps of the slot's ring, averaged, with a soft clipper in the loop. The chord
-- comb (document 02, C-18): the same loop over up to eight taps. Definitions only. Assumes nothing.
use Rattle.std.specs.Prelude.{ℕ, ◌*◌, Bool, List, Float}
use Rattle.lane.specs.Floats.{◌⊕◌, ◌⊖◌, ◌⊗◌, ◌⊘◌, fma, decimal, one, two, half}
use Rattle.lane.specs.Lane.{exp2_of, soft_clip}
use Rattle.lines.specs.Lines.{ring_read, ring_write}
use Rattle.filter.specs.declared.Pitch.{Pitch}
use Rattle.filter.specs.Filter.{ratio_of, over_of, once}
use Rattle.extended.specs.declared.Chord.{Chord}
use Rattle.extended.specs.declared.Settings.{Settings}
use Rattle.teeth.specs.Teeth.{teeth_of, ring_taps, taps_mean}
use Rattle.combs.specs.declared.FeedbackPath.{FeedbackPath}
use Rattle.combs.specs.declared.Comb2.{Comb2}

-- ---- what both combs have: the feedback path, and the ratio

-- what follows from the settings: the feedback and the knee. COMB_FEEDBACK_MAX = 0.98
unfoldable pub feedback_path : Settings → FeedbackPath
feedback_path p = record { feedback = p.resonance ⊗ decimal 98 100; inv_knee = p.inv_knee; knee = one ⊘ p.inv_knee }

-- what the loop writes, from the mean of the taps read
unfoldable pub comb_loop : FeedbackPath → (taps x : Float) → Float
comb_loop c taps x = fma c.feedback (soft_clip (taps ⊗ c.inv_knee) ⊗ c.knee) x

-- the tick on one ring of len cells: the sample, and the ring with the cursor's cell written. No bad view reaches it: a block's rings
-- have the length of an accepted rate and stand within the list (`block_view`, view/specs/View.antt)
pub record Combed : Type 0 where
  pub out : Float
  pub ring : List Float

unfoldable pub comb_end : FeedbackPath → (len cursor : ℕ) (ring : List Float) (taps x : Float) → Combed
comb_end c len cursor ring taps x =
    let y = comb_loop c taps x in
    record { out = y ⊗ (one ⊖ c.feedback); ring = ring_write len cursor y ring }

-- the ratio that the delay of every read comes from; it is capped in `ratio_of`
unfoldable pub comb_ratio : Pitch → Settings → Float
comb_ratio pitch p = (ratio_of pitch p.reference_ratio).0

-- document 02, C-11: its mark
unfoldable pub comb_over : Pitch → Settings → Bool
comb_over pitch p = over_of pitch p.reference_ratio

-- ---- Comb2

-- what follows from the pitch and the settings alone: the two taps' delays, and the feedback path
unfoldable pub comb_with : (first second : Float) → Settings → Comb2
comb_with first second p = record { first = first; second = second; path = feedback_path p }

-- COMB_OCTAVES = 2
unfoldable pub comb_coefficients : Pitch → Settings → Comb2
comb_coefficients pitch p =
    let ratio = comb_ratio pitch p in
    comb_with (one ⊘ ratio) (one ⊘ (ratio ⊗ exp2_of (p.character ⊗ two))) p

-- the two taps, averaged
unfoldable pub comb_taps : Comb2 → (len cursor : ℕ) (ring : List Float) → Float
comb_taps c len cursor ring = (ring_read len cursor c.first ring ⊕ ring_read len cursor c.second ring) ⊗ half

unfoldable pub comb_step : Comb2 → (len cursor : ℕ) (ring : List Float) (x : Float) → Combed
comb_step c len cursor ring x = comb_end c.path len cursor ring (comb_taps c len cursor ring) x

-- ---- the chord comb (C-18)

-- "the rest is Comb2"
unfoldable pub chord_step : FeedbackPath → (ratio : Float) → Chord → (len cursor : ℕ) (ring : List Float) (x : Float) → Combed
chord_step c ratio chord len cursor ring x =
    comb_end c len cursor ring (taps_mean (teeth_of chord) (ring_taps len cursor ring ratio chord)) x

-- "C-11 judges it once a tooth"
unfoldable pub chord_over : Pitch → Settings → ℕ
chord_over pitch p = teeth_of p.chord * once (comb_over pitch p)
