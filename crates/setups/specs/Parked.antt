-- A bank as a parked file, and the reader (document 02, C-12, C-17, C-18). n voices; the words of a file are read from the blocks that carry their heads,
-- wherever these stand. 4294967296 is 2 ^ 32. Definitions only.
use Rattle.std.specs.Prelude.{◌≡◌, ℕ, ◌+◌, ◌*◌, ◌/◌, ◌%◌, Bool, true, false, ◌&&◌, List, [], ◌∷◌, ◌++◌, leb, eqb, length, replicate}
use Rattle.lane.specs.Floats.{◌‼◌, zero}
use Rattle.parts.specs.Parts.{tab}
use Rattle.text.specs.Text.{bits_of}
use Rattle.lines.specs.Lines.{ring_len}
use Rattle.voices.specs.Calls.{targets_width, record_width, Check, fine, check, ◌then◌, Bank, store_check_of}
use Rattle.file_words.specs.Words.{float_of}
use Rattle.blocks.specs.Blocks.{head_of, content_at, parts_of}
use Rattle.places.specs.Places.{sound_file, is_once, is_whole, block_with}
use Rattle.rows.specs.Rows.{numbers_in}
use Rattle.files.specs.File.{parked_targets, parked_record, file_of}
use Rattle.extended.specs.declared.Chord.{Chord}
use Rattle.setups.specs.Setup.{SoloSetup, heard, codes_check_of}

-- ---- parking

-- "clean 0 or 1"
abbrev pub clean_word : Bool → ℕ
clean_word true = 1
clean_word false = 0

-- "code, voices, channels, clean 0 or 1, rate, reference, cursor low, cursor high, active", ..
unfoldable pub front_words : SoloSetup → (n cursor : ℕ) → List ℕ
front_words s n cursor =
    s.code
    ∷ n
    ∷ s.channels
    ∷ clean_word s.clean
    ∷ bits_of s.rate
    ∷ bits_of s.reference
    ∷ cursor % 4294967296
    ∷ cursor / 4294967296
    ∷ s.table.active
    ∷ []

-- .. "160 table numbers, table gain"
unfoldable pub setup_words : SoloSetup → (n cursor : ℕ) → List ℕ
setup_words s n cursor = front_words s n cursor ++ tab (λ i. bits_of (s.table.sections ‼ i)) 160 ++ bits_of s.table.gain ∷ []

unfoldable pub parked_file : SoloSetup → (n : ℕ) → Bank → List ℕ
parked_file s n b = file_of n (s.channels * n) (ring_len s.rate) (setup_words s n b.cursor) b.targets b.records b.delay

-- ---- what a file holds

-- word i of kind 1
unfoldable pub setup_word : List ℕ → ℕ → ℕ
setup_word file i = content_at (block_with file (head_of 1 0 (i / 126))) (i % 126)

-- C-18: numbers that are ignored "are not parked, return as 0"
abbrev pub no_chord : Chord
no_chord = record { count = 0; offsets = replicate 8 zero }

-- C-17: a parked setup has two axes, its z = 1 face is 0
unfoldable pub solo_in : List ℕ → SoloSetup
solo_in file = record {
  code = setup_word file 0;
  rate = float_of (setup_word file 4);
  reference = float_of (setup_word file 5);
  channels = setup_word file 2;
  clean = eqb (setup_word file 3) 1;
  table = record {
    active = setup_word file 8;
    three = false;
    sections = tab (λ i. float_of (setup_word file (9 + i))) 160 ++ replicate 160 zero;
    gain = float_of (setup_word file 169);
  };
  chord = no_chord;
}

unfoldable pub voices_in : List ℕ → ℕ
voices_in file = setup_word file 1

unfoldable pub cursor_in : List ℕ → ℕ
cursor_in file = setup_word file 6 + setup_word file 7 * 4294967296

-- the sizes that the setup read asks for
abbrev pub slots_in : List ℕ → ℕ
slots_in file = (solo_in file).channels * voices_in file

abbrev pub ring_in : List ℕ → ℕ
ring_in file = ring_len (solo_in file).rate

unfoldable pub bank_in : List ℕ → Bank
bank_in file = record {
  targets = numbers_in file 2 parked_targets targets_width (voices_in file * targets_width);
  records = numbers_in file 3 parked_record record_width (slots_in file * record_width);
  delay = numbers_in file 4 (ring_in file) (ring_in file) (slots_in file * ring_in file);
  cursor = cursor_in file;
}

-- ---- the reader's refusals, in their order

-- "a length that is no multiple of 512 or a wrong sum is 12"
abbrev pub damaged_check : List ℕ → Check
damaged_check file = check (eqb (length file % 512) 0 && sound_file file) 12

-- "then a kind 1 part missing or doubled, or a clean word above 1, is 13"
abbrev pub head_check : List ℕ → Check
head_check file = check (is_once file (head_of 1 0 0) && is_once file (head_of 1 0 1) && leb (setup_word file 3) 1) 13

-- "then any other block missing, doubled or unknown is 13 too"
abbrev pub blocks_check : List ℕ → Check
blocks_check file = check (is_whole (voices_in file) (slots_in file) (parts_of (ring_in file)) file) 13

-- the highest code that a file may hold: of 13 C-18 says "in a kind 1 block its code meets 5"
abbrev pub parked_codes : ℕ
parked_codes = 12

-- "the setup then meets 1 to 5"
abbrev pub solo_check : List ℕ → Check
solo_check file = codes_check_of parked_codes (solo_in file) (voices_in file)

-- all but 6
unfoldable pub file_verdict : List ℕ → Check
file_verdict file = damaged_check file then head_check file then solo_check file then blocks_check file

-- "last comes 6"
unfoldable pub restore_verdict : List ℕ → (lent : Bank) → Check
restore_verdict file lent = file_verdict file then store_check_of (solo_in file).channels (ring_in file) (voices_in file) lent

-- ---- "Restoring what was parked"

-- the file holds what is heard of the setup s (C-17, C-18), with n voices, and the bank b, and is refused for nothing but the lists that the reader is lent
pub record Holds (file : List ℕ) (s : SoloSetup) (n : ℕ) (b : Bank) : Type 0 where
  pub setup : solo_in file ≡ heard s
  pub voices : voices_in file ≡ n
  pub bank : bank_in file ≡ b
  pub accepted : file_verdict file ≡ fine
