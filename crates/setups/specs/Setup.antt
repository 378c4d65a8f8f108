-- The setup without its voices, and its refusals (document 01, 'A bank is opened'; document 02, C-17, C-18). Definitions only.
use Rattle.std.specs.Prelude.{ℕ, Bool, false, cond, not, ◌&&◌, ◌||◌, ◌++◌, leb, ltb, eqb, replicate, Float}
use Rattle.std.specs.Float.Ieee.{lt, is_nan}
use Rattle.lane.specs.Floats.{◌‼◌, whole, zero, one, two}
use Rattle.parts.specs.Parts.{upto, tab}
use Rattle.lines.specs.Lines.{rate_refused}
use Rattle.extended.specs.declared.Chord.{Chord}
use Rattle.pole_zero.specs.declared.Table.{Table}
use Rattle.voices.specs.Calls.{Check, check, ◌then◌}

-- the setup without its voices
pub record SoloSetup : Type 0 where
  pub code : ℕ
  pub rate : Float
  pub reference : Float
  pub channels : ℕ
  pub clean : Bool
  pub table : Table
  pub chord : Chord

-- C-17: what is heard of a table: with two axes the z = 1 face is ignored, here 0
unfoldable pub heard_table : Table → Table
heard_table t = record {
  active = t.active;
  three = t.three;
  sections = cond t.three t.sections (tab (λ i. t.sections ‼ i) 160 ++ replicate 160 zero);
  gain = t.gain;
}

-- C-18: "offsets past the n-th are ignored, and both by other codes", here 0
unfoldable pub heard_chord : (code : ℕ) → Chord → Chord
heard_chord code c = record {
  count = cond (eqb code 13) c.count 0;
  offsets = tab (λ j. cond (eqb code 13 && ltb j c.count) (c.offsets ‼ j) zero) 8;
}

-- and of a setup
abbrev pub heard : SoloSetup → SoloSetup
heard s = record {
  code = s.code;
  rate = s.rate;
  reference = s.reference;
  channels = s.channels;
  clean = s.clean;
  table = heard_table s.table;
  chord = heard_chord s.code s.chord;
}

-- ---- refusals 1 to 5, in the table's order, then 16

-- 2: NaN, below 1 or above 20,000
unfoldable pub reference_refused : Float → Bool
reference_refused reference = is_nan reference || lt reference one || lt (whole 20000) reference

abbrev pub within : (low high : ℕ) → ℕ → Bool
within low high n = leb low n && leb n high

-- 1 to 5, where codes is the highest code
unfoldable pub codes_check_of : (codes : ℕ) → SoloSetup → (voices : ℕ) → Check
codes_check_of codes s voices =
    check (not (rate_refused s.rate)) 1
    then check (not (reference_refused s.reference)) 2
    then check (within 1 16 voices) 3
    then check (within 1 2 s.channels) 4
    then check (within 1 codes s.code) 5

-- an octave offset "from 0 to 2": NaN, below 0 or above 2 is refused
unfoldable pub offset_refused : Float → Bool
offset_refused offset = is_nan offset || lt offset zero || lt two offset

-- "a bad count or offset of code 13, NaN included, is 16"
unfoldable pub chord_refused : (code : ℕ) → Chord → Bool
chord_refused code c = eqb code 13 && (not (within 1 8 c.count) || upto (λ j b. b || offset_refused (c.offsets ‼ j)) c.count false)

-- C-18: "Refusal 5 is now for a code not 1 to 13, and between it and 6" comes 16
unfoldable pub setup_check_of : SoloSetup → (voices : ℕ) → Check
setup_check_of s voices = codes_check_of 13 s voices then check (not (chord_refused s.code s.chord)) 16
