-- For the proofs: nothing here must be believed.
-- What a kernel has of the pitch and the character alone, kept from frame to frame: a list of ten numbers, of which the last two
-- are the pitch and the character that the first eight follow from. PoleZero has a list of its own, of the pitch, x, y and z, and the chord
-- comb a plan of its teeth, of the ratio (teeth/specs/Promises.antt). With them is kept how often a tick at those numbers judges a ratio greater than its cap.
-- Definitions only. Assumes nothing.
use Rattle.std.specs.Prelude.{ℕ, ◌+◌, Bool, cond, List, ◌∷◌, [], eqb, Float}
use Rattle.lane.specs.Floats.{◌‼◌, zero}
use Rattle.filter.specs.declared.Pitch.{Pitch}
use Rattle.filter.specs.declared.Ratio.{Ratio}
use Rattle.filter.specs.Filter.{octaves_of, gain_of, over_of, once}
use Rattle.extended.specs.declared.Chord.{Chord}
use Rattle.extended.specs.declared.Settings.{Settings}
use Rattle.pole_zero.specs.declared.Table.{Table}
use Rattle.sweeps.specs.declared.DjSweep.{DjSweep}
use Rattle.sweeps.specs.Sweeps.{dj_coefficients, dj_over}
use Rattle.stages.specs.declared.Five.{Five}
use Rattle.ladders.specs.declared.DrivenLadder.{DrivenLadder}
use Rattle.ladders.specs.declared.Rows.{Rows}
use Rattle.ladders.specs.Ladders.{driven_coefficients, diode_rows}
use Rattle.expanders.specs.declared.Expander.{Expander}
use Rattle.expanders.specs.declared.K35.{K35}
use Rattle.expanders.specs.Expanders.{expander_coefficients, multimode_weights, k35_coefficients, expander_with}
use Rattle.combs.specs.declared.Comb2.{Comb2}
use Rattle.combs.specs.Combs.{comb_coefficients, comb_over, comb_ratio, chord_over}
use Rattle.poles.specs.declared.Pad.{Pad}
use Rattle.poles.specs.Poles.{pad_of, number_at, pole_over}
use Rattle.poles.specs.Numbers.{pole_numbers}
use Rattle.kernels.specs.declared.tuning.Numbers.{Numbers}

-- each structure's numbers
unfoldable pub three_numbers : (a b c : Float) → Numbers
three_numbers a b c = record { 0 = a; 1 = b; 2 = c; 3 = zero; 4 = zero; 5 = zero; 6 = zero; 7 = zero }

unfoldable pub dj_numbers : DjSweep → Numbers
dj_numbers c = three_numbers c.g c.low_side c.wet

unfoldable pub row_numbers : Rows → Numbers
row_numbers c = record { 0 = c.g; 1 = c.e; 2 = c.r1; 3 = c.a1; 4 = c.r2; 5 = c.a2; 6 = c.r3; 7 = zero }

unfoldable pub driven_numbers : DrivenLadder → Numbers
driven_numbers c = three_numbers c.ladder.g c.drive c.full

unfoldable pub comb_numbers : Comb2 → Numbers
comb_numbers c = three_numbers c.first c.second zero

unfoldable pub band_numbers : Expander → Numbers
band_numbers c = three_numbers c.gg c.h c.gg4

unfoldable pub multimode_numbers : Expander → Five → Numbers
multimode_numbers c w = record { 0 = c.gg; 1 = c.h; 2 = c.gg4; 3 = w.0; 4 = w.1; 5 = w.2; 6 = w.3; 7 = w.4 }

unfoldable pub k35_numbers : K35 → Numbers
k35_numbers c = three_numbers c.gg c.h c.w

-- of a structure whose numbers follow from the pitch's gain
unfoldable pub gain_numbers : (code : ℕ) → Pitch → Settings → Numbers
gain_numbers code pitch p =
    cond (eqb code 5) (row_numbers (diode_rows (gain_of pitch p.ref_over_rate)))
    (cond (eqb code 6) (row_numbers (diode_rows (gain_of pitch p.ref_over_rate)))
    (cond (eqb code 7) (driven_numbers (driven_coefficients pitch p))
    (cond (eqb code 10) (multimode_numbers (expander_coefficients pitch p) (multimode_weights p.character))
    (cond (eqb code 11) (band_numbers (expander_coefficients pitch p))
    (cond (eqb code 12) (k35_numbers (k35_coefficients pitch p))
    (three_numbers (gain_of pitch p.ref_over_rate) zero zero))))))

-- by the structure's code; PoleZero keeps its sections' numbers apart
unfoldable pub numbers_of : (code : ℕ) → Pitch → Settings → Numbers
numbers_of code pitch p =
    cond (eqb code 2) (dj_numbers (dj_coefficients pitch p))
    (cond (eqb code 8) (three_numbers zero zero zero)
    (cond (eqb code 9) (comb_numbers (comb_coefficients pitch p))
    (cond (eqb code 13) (three_numbers (comb_ratio pitch p) zero zero)
    (gain_numbers code pitch p))))

-- how often a tick judges a ratio greater than its cap; PoleZero's number stays as it was
unfoldable pub tuned_over : (code : ℕ) → Pitch → Settings → (before : ℕ) → ℕ
tuned_over code pitch p before =
    cond (eqb code 8) before
    (cond (eqb code 9) (once (comb_over pitch p) + once (comb_over pitch p))
    (cond (eqb code 13) (chord_over pitch p)
    (cond (eqb code 2) (once (dj_over pitch p))
    (once (over_of pitch p.ref_over_rate)))))

-- the list
unfoldable pub tuning_of : (code : ℕ) → Pitch → Settings → List Float
tuning_of code pitch p =
    let n = numbers_of code pitch p in
    n.0 ∷ n.1 ∷ n.2 ∷ n.3 ∷ n.4 ∷ n.5 ∷ n.6 ∷ n.7 ∷ pitch.0 ∷ p.character ∷ []

-- the driven ladder's at another pitch: drive and full scale follow from the character alone
abbrev pub driven_list : List Float → Pitch → Ratio → (character : Float) → List Float
driven_list t pitch reference character =
    gain_of pitch reference ∷ t ‼ 1 ∷ t ‼ 2 ∷ zero ∷ zero ∷ zero ∷ zero ∷ zero ∷ pitch.0 ∷ character ∷ []

-- rows, coefficients and weights from the list
unfoldable pub rows_from : List Float → Rows
rows_from t = record { g = t ‼ 0; e = t ‼ 1; r1 = t ‼ 2; a1 = t ‼ 3; r2 = t ‼ 4; a2 = t ‼ 5; r3 = t ‼ 6 }

unfoldable pub expander_from : List Float → Settings → Expander
expander_from t p = expander_with (t ‼ 0) (t ‼ 1) (t ‼ 2) p

unfoldable pub weights_from : List Float → Five
weights_from t = record { 0 = t ‼ 3; 1 = t ‼ 4; 2 = t ‼ 5; 3 = t ‼ 6; 4 = t ‼ 7 }

-- the settings that the numbers follow from
unfoldable pub key_of : Ratio → Chord → (character : Float) → Settings
key_of reference chord character =
    record {
      resonance = zero;
      inv_knee = zero;
      character = character;
      x = zero;
      y = zero;
      z = zero;
      ref_over_rate = reference;
      reference_ratio = reference;
      chord = chord;
    }

-- PoleZero's list at a pitch and settings; any other structure leaves it as it was
unfoldable pub blended_of : (code : ℕ) → Table → Pitch → Settings → List Float → List Float
blended_of code table pitch p t =
    cond (eqb code 8) (pole_numbers table.sections table.active p.ref_over_rate pitch (pad_of table.three p)) t

unfoldable pub blended_over : (code : ℕ) → Table → Ratio → Pitch → Pad → (before : ℕ) → ℕ
blended_over code table reference pitch d before =
    cond (eqb code 8) (pole_over (number_at table.sections d) table.active (octaves_of pitch) reference) before

-- the x, y and z that such a list is of
abbrev pub kept_pad : (three : Bool) → List Float → Pad
kept_pad three t = record { three = three; x = t ‼ 41; y = t ‼ 42; z = t ‼ 43 }
