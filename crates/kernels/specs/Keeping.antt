-- For the proofs: nothing here must be believed.
-- From the kept list, the coefficients of each structure are those of its pitch and settings; the kept count is the tick's; and what was
-- worked out at a key is kept at it. By unfolding. Assumes nothing.
use Rattle.std.specs.Prelude.{◌≡◌, refl, Bool, ℕ, eqb, Float}
use Rattle.std.proofs.Common.{sym, ◌∙◌}
use Rattle.std.proofs.Math.Path.{ap, subst}
use Rattle.std.proofs.Math.Bool.{true, false, cond}
use mathlib.Core.List.{List}
use Rattle.std.specs.Float.Ieee.{is_nan}
use Rattle.lane.specs.Floats.{◌‼◌}
use Rattle.filter.specs.declared.Pitch.{Pitch}
use Rattle.filter.specs.declared.Ratio.{Ratio}
use Rattle.filter.specs.Filter.{octaves_of}
use Rattle.extended.specs.declared.Chord.{Chord}
use Rattle.extended.specs.declared.Settings.{Settings}
use Rattle.pole_zero.specs.declared.Table.{Table}
use Rattle.sweeps.specs.Sweeps.{buzz_coefficients, buzz_with, dj_coefficients, dj_with, dj_over, diffuser_coefficients, diffuser_with}
use Rattle.ladders.specs.Ladders.{transistor_coefficients, transistor_with, driven_coefficients, driven_with}
use Rattle.ladders.specs.Ladders.{diode_rows, acid_coefficients, acid_with, clean_ladder_coefficients, clean_ladder_with}
use Rattle.expanders.specs.Expanders.{expander_coefficients, expander_with, multimode_weights, k35_coefficients, k35_with}
use Rattle.combs.specs.Combs.{comb_ratio, comb_over, comb_coefficients, comb_with, chord_over}
use Rattle.poles.specs.declared.Pad.{Pad}
use Rattle.poles.specs.Poles.{pad_of, number_at, pole_coefficients, pole_over, pole_step}
use Rattle.poles.specs.Numbers.{pole_numbers, section_at, numbers_step}
use Rattle.kernels.specs.Tuning.{three_numbers, dj_numbers, row_numbers, driven_numbers, comb_numbers, band_numbers, multimode_numbers}
use Rattle.kernels.specs.Tuning.{k35_numbers, gain_numbers, numbers_of, tuning_of, tuned_over, rows_from, expander_from, weights_from, key_of}
use Rattle.kernels.specs.Tuning.{driven_list, blended_of, blended_over, kept_pad}
use Rattle.kernels.specs.Kernels.{over_count}
use Rattle.kernels.specs.Promises.{Kept, KeptSections}

-- the driven ladder's list of a character, brought to another pitch
pub driven_again : (reference : Ratio) (chord : Chord) (character : Float) (t : List Float) (old pitch : Pitch)
    → t ≡ tuning_of 7 old (key_of reference chord character) → driven_list t pitch reference character ≡ tuning_of 7 pitch (key_of reference chord character)
unfolding tuning_of numbers_of gain_numbers three_numbers driven_numbers driven_coefficients driven_with key_of
driven_again reference chord character t old pitch e = ap (λ (l : List Float). driven_list l pitch reference character) e

module _ (code : ℕ) (t : List Float) (pitch : Pitch) (p : Settings) (e : t ≡ tuning_of code pitch p) where
  at : (n : ℕ) → code ≡ n → t ≡ tuning_of n pitch p
  at n k = e ∙ ap (λ (m : ℕ). tuning_of m pitch p) k

  pub buzz_is : code ≡ 1 → buzz_with (t ‼ 0) p ≡ buzz_coefficients pitch p
  unfolding tuning_of numbers_of gain_numbers three_numbers buzz_coefficients buzz_with
  buzz_is k = ap (λ (t : List Float). buzz_with (t ‼ 0) p) (at 1 k)

  pub dj_is : code ≡ 2 → dj_with (t ‼ 0) (t ‼ 1) (t ‼ 2) p ≡ dj_coefficients pitch p
  unfolding tuning_of numbers_of three_numbers dj_coefficients dj_with dj_numbers
  dj_is k = ap (λ (t : List Float). dj_with (t ‼ 0) (t ‼ 1) (t ‼ 2) p) (at 2 k)

  pub diffuser_is : code ≡ 3 → diffuser_with (t ‼ 0) p ≡ diffuser_coefficients pitch p
  unfolding tuning_of numbers_of gain_numbers three_numbers diffuser_coefficients diffuser_with
  diffuser_is k = ap (λ (t : List Float). diffuser_with (t ‼ 0) p) (at 3 k)

  pub transistor_is : code ≡ 4 → transistor_with (t ‼ 0) p ≡ transistor_coefficients pitch p
  unfolding tuning_of numbers_of gain_numbers three_numbers transistor_coefficients transistor_with
  transistor_is k = ap (λ (t : List Float). transistor_with (t ‼ 0) p) (at 4 k)

  pub acid_is : code ≡ 5 → acid_with (rows_from t) p ≡ acid_coefficients pitch p
  unfolding tuning_of numbers_of gain_numbers acid_coefficients rows_from row_numbers diode_rows
  acid_is k = ap (λ (t : List Float). acid_with (rows_from t) p) (at 5 k)

  pub clean_is : code ≡ 6 → clean_ladder_with (rows_from t) p ≡ clean_ladder_coefficients pitch p
  unfolding tuning_of numbers_of gain_numbers clean_ladder_coefficients rows_from row_numbers diode_rows
  clean_is k = ap (λ (t : List Float). clean_ladder_with (rows_from t) p) (at 6 k)

  pub driven_is : code ≡ 7 → driven_with (t ‼ 0) (t ‼ 1) (t ‼ 2) p ≡ driven_coefficients pitch p
  unfolding tuning_of numbers_of gain_numbers three_numbers driven_coefficients driven_with driven_numbers
  driven_is k = ap (λ (t : List Float). driven_with (t ‼ 0) (t ‼ 1) (t ‼ 2) p) (at 7 k)

  pub comb_is : code ≡ 9 → comb_with (t ‼ 0) (t ‼ 1) p ≡ comb_coefficients pitch p
  unfolding tuning_of numbers_of three_numbers comb_coefficients comb_with comb_numbers
  comb_is k = ap (λ (t : List Float). comb_with (t ‼ 0) (t ‼ 1) p) (at 9 k)

  pub ratio_is : code ≡ 13 → t ‼ 0 ≡ comb_ratio pitch p
  unfolding tuning_of numbers_of three_numbers
  ratio_is k = ap (λ (t : List Float). t ‼ 0) (at 13 k)

  pub multimode_is : code ≡ 10 → expander_from t p ≡ expander_coefficients pitch p
  unfolding tuning_of numbers_of gain_numbers three_numbers expander_coefficients expander_from expander_with multimode_numbers
  multimode_is k = ap (λ (t : List Float). expander_from t p) (at 10 k)

  pub band_is : code ≡ 11 → expander_from t p ≡ expander_coefficients pitch p
  unfolding tuning_of numbers_of gain_numbers three_numbers expander_coefficients expander_from expander_with band_numbers
  band_is k = ap (λ (t : List Float). expander_from t p) (at 11 k)

  pub k35_is : code ≡ 12 → k35_with (t ‼ 0) (t ‼ 1) (t ‼ 2) p ≡ k35_coefficients pitch p
  unfolding tuning_of numbers_of gain_numbers three_numbers k35_coefficients k35_with k35_numbers
  k35_is k = ap (λ (t : List Float). k35_with (t ‼ 0) (t ‼ 1) (t ‼ 2) p) (at 12 k)

  pub weights_are : code ≡ 10 → weights_from t ≡ multimode_weights p.character
  unfolding tuning_of numbers_of gain_numbers multimode_numbers weights_from
  weights_are k = ap weights_from (at 10 k)

-- settings with another reference ratio
abbrev with_ratio : Settings → Ratio → Settings
with_ratio p r =
    record {
      resonance = p.resonance;
      inv_knee = p.inv_knee;
      character = p.character;
      x = p.x;
      y = p.y;
      z = p.z;
      ref_over_rate = p.ref_over_rate;
      reference_ratio = r;
      chord = p.chord;
    }

-- the numbers follow from the pitch, the reference, the chord and the character alone
pub key_numbers : (code : ℕ) (pitch : Pitch) (p : Settings) → p.reference_ratio ≡ p.ref_over_rate
    → tuning_of code pitch (key_of p.ref_over_rate p.chord p.character) ≡ tuning_of code pitch p
unfolding tuning_of numbers_of gain_numbers dj_numbers dj_coefficients dj_with driven_numbers driven_coefficients driven_with comb_numbers comb_coefficients comb_with
    comb_ratio multimode_numbers band_numbers expander_coefficients expander_with k35_numbers k35_coefficients k35_with key_of
key_numbers code pitch p e = ap (λ (r : Ratio). tuning_of code pitch (with_ratio p r)) (sym e)

-- so does the count, without the character
pub key_over : (code : ℕ) (pitch : Pitch) (p : Settings) (before : ℕ) → p.reference_ratio ≡ p.ref_over_rate
    → tuned_over code pitch (key_of p.ref_over_rate p.chord p.character) before ≡ tuned_over code pitch p before
unfolding tuned_over comb_over chord_over dj_over key_of
key_over code pitch p before e = ap (λ (r : Ratio). tuned_over code pitch (with_ratio p r) before) (sym e)

-- ---- the count kept with the lists: o before a frame, o1 after the tuning is brought to it, o2 after the sections are

module _ (pole tick o o1 o2 : ℕ) where
  counted : (b : Bool) → o1 ≡ cond b o tick → o2 ≡ cond b pole o1 → o2 ≡ cond b pole tick
  counted true e1 e2 = e2
  counted false e1 e2 = e2 ∙ e1

  again : (b : Bool) → o1 ≡ cond b o tick → o2 ≡ cond b pole o1 → o2 ≡ cond b o2 tick
  again true e1 e2 = refl
  again false e1 e2 = e2 ∙ e1

  passed : (b : Bool) → o1 ≡ cond b o tick → o ≡ cond b pole o → o1 ≡ cond b pole o1
  passed true e1 h = e1 ∙ h
  passed false e1 h = refl

module _ (code : ℕ) (table : Table) (pitch : Pitch) (p key : Settings) (o o1 o2 : ℕ) (e1 : o1 ≡ tuned_over code pitch key o) where
  abbrev reference : Ratio
  reference = p.ref_over_rate

  -- it is the tick's
  pub over-is : tuned_over code pitch key o ≡ tuned_over code pitch p o
      → o2 ≡ blended_over code table reference pitch (pad_of table.three p) o1 → o2 ≡ over_count code table pitch p
  unfolding tuned_over blended_over over_count
  over-is e e2 = counted _ _ o o1 o2 (eqb code 8) (e1 ∙ e) e2

  -- it stays right for the sections while the tuning is brought to a frame
  pub sections_pass : (t : List Float) → KeptSections code table reference t o → KeptSections code table reference t o1
  unfolding KeptSections tuned_over blended_over
  sections_pass t h n = ((h n).0, passed _ _ o o1 o1 (eqb code 8) e1 (h n).1)

-- what was worked out is kept
pub kept : (code : ℕ) (reference : Ratio) (chord : Chord) (pitch : Pitch) (character : Float) (t : List Float) (pole o o1 o2 : ℕ)
    → t ≡ tuning_of code pitch (key_of reference chord character)
    → o1 ≡ tuned_over code pitch (key_of reference chord character) o
    → o2 ≡ cond (eqb code 8) pole o1
    → Kept code reference chord t o2
unfolding Kept tuning_of tuned_over key_of
kept code reference chord pitch character t pole o o1 o2 e e1 e2 h = (
  e ∙ (λ i. tuning_of code (record { 0 = sym e i ‼ 8 }) (key_of reference chord (sym e i ‼ 9))),
  again pole _ o o1 o2 (eqb code 8) e1 e2 ∙ (λ i. tuned_over code (record { 0 = sym e i ‼ 8 }) (key_of reference chord (sym e i ‼ 9)) o2),
)

module _ (code : ℕ) (table : Table) (pitch : Pitch) (p : Settings) (before after : List Float)
    (e : after ≡ blended_of code table pitch p before) where
  abbrev numbers : Pitch → Pad → List Float
  numbers = pole_numbers table.sections table.active p.ref_over_rate

  abbrev over : Pitch → Pad → ℕ
  over q d = pole_over (number_at table.sections d) table.active (octaves_of q) p.ref_over_rate

  pub blended_at_lem : code ≡ 8 → after ≡ numbers pitch (pad_of table.three p)
  unfolding blended_of
  blended_at_lem k = e ∙ ap (λ (n : ℕ). cond (eqb n 8) (numbers pitch (pad_of table.three p)) before) k

  -- the list t and the count o are those of the list's key
  abbrev Held : Bool → (t : List Float) (o : ℕ) → Type 0
  Held b t o =
      is_nan (t ‼ 40) ≡ false
      → (t ≡ numbers (record { 0 = t ‼ 40 }) (kept_pad table.three t)) × (o ≡ cond b (over (record { 0 = t ‼ 40 }) (kept_pad table.three t)) o)

  held : (b : Bool) (o1 o2 : ℕ) → Held b before o1 → o2 ≡ cond b (over pitch (pad_of table.three p)) o1
      → Held b (cond b (numbers pitch (pad_of table.three p)) before) o2
  unfolding pole_numbers
  held true o1 o2 h e2 = λ n. (refl, e2)
  held false o1 o2 h e2 = λ n. ((h n).0, refl)

  pub blended_kept : (o1 o2 : ℕ) → KeptSections code table p.ref_over_rate before o1
      → o2 ≡ blended_over code table p.ref_over_rate pitch (pad_of table.three p) o1
      → KeptSections code table p.ref_over_rate after o2
  unfolding KeptSections blended_of blended_over
  blended_kept o1 o2 h e2 = subst (λ (t : List Float). Held (eqb code 8) t o2) (sym e) (held (eqb code 8) o1 o2 h e2)

-- a step on the kept numbers is a step on the sections
pub sections_step : (table : Table) (pitch : Pitch) (p : Settings) (t : List Float)
    → t ≡ pole_numbers table.sections table.active p.ref_over_rate pitch (pad_of table.three p) → (state : List Float) (v : Float)
    → pole_step (section_at t) table.active table.gain state v
    ≡ pole_step (pole_coefficients table.three table.sections pitch p) table.active table.gain state v
unfolding pole_coefficients
sections_step table pitch p t e state v =
    ap (λ (n : List Float). pole_step (section_at n) table.active table.gain state v) e
    ∙ numbers_step table.sections table.active p.ref_over_rate pitch (pad_of table.three p) table.gain state v
