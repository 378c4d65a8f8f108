-- What park, restore and their companions promise (document 02, C-12, C-17, C-18), over the file of setups/specs/Parked. Definitions only.
use Rattle.std.specs.Prelude.{◌≡◌, List, ℕ, Float, length, Result, Ok, Err}
use Rattle.voices.specs.Calls.{Check, fine, refused, Bank, call_park, file_length, verdict, call}
use Rattle.setups.specs.Setup.{setup_check_of}
use Rattle.setups.specs.Parked.{parked_file, solo_in, voices_in, cursor_in, bank_in, restore_verdict, Holds}
use Rattle.checks.specs.declared.Setup.{Setup}
use Rattle.checks.specs.Setup.{solo_of, engine}
use Rattle.checks.specs.declared.Refusal.{Refusal}
use Rattle.checks.specs.Checks.{number_of, bank_of}
use Rattle.bank.specs.Bank.{answer_of, before, after}
use Rattle.parking.specs.declared.Held.{Held}

-- ---- park

-- the length of the list to be written, 0 where the setup is refused
abbrev pub length_by : Check → Setup → ℕ
length_by fine s = file_length (engine s) s.voices
length_by (refused k) s = 0

abbrev pub park_length : Setup → ℕ
park_length s = length_by (setup_check_of (solo_of s) s.voices) s

-- the list that is left: the file, or refused, as it was
abbrev pub written_by : Check → Setup → Bank → (list : List ℕ) → List ℕ
written_by fine s b list = parked_file (solo_of s) s.voices b
written_by (refused k) s b list = list

abbrev pub park_verdict : Setup → Bank → (list : List ℕ) → Check
park_verdict s b list = verdict (engine s) s.voices (call_park (length list)) b

-- the bank stays as it was, and what was written holds it
pub record ParkDoes (s : Setup) (b : Bank) (list : List ℕ) (r : Result ℕ Refusal) (list' : List ℕ) : Type 0 where
  pub does : after (answer_of r) b.cursor b.targets b.records b.delay ≡ call (engine s) s.voices (call_park (length list)) (before b)
  pub written : list' ≡ written_by (park_verdict s b list) s b list
  pub holds : park_verdict s b list ≡ fine → Holds list' (solo_of s) s.voices b

-- ---- restore

-- the setup that a file holds
unfoldable pub setup_in : List ℕ → Setup
setup_in file = record {
  code = (solo_in file).code;
  rate = (solo_in file).rate;
  reference = (solo_in file).reference;
  voices = voices_in file;
  channels = (solo_in file).channels;
  clean = (solo_in file).clean;
  table = (solo_in file).table;
  chord = (solo_in file).chord;
}

-- what the reader's code answers, a refusal by its number
unfoldable pub told : Result Held Refusal → Result Held ℕ
told (Ok h) = Ok h
told (Err e) = Err (number_of e)

-- the answer: setup and cursor, or the refusal's number
unfoldable pub held_by : Check → List ℕ → Result Held ℕ
held_by fine file = Ok (record { setup = setup_in file; cursor = cursor_in file })
held_by (refused k) file = Err k

-- the cursor that goes with the lists: the file's, or refused, the one given
abbrev pub cursor_or : Result Held Refusal → ℕ → ℕ
cursor_or (Ok h) given = h.cursor
cursor_or (Err e) given = given

-- the lists that are left: the file's, or refused, as they were
abbrev pub restored_by : Check → List ℕ → (lent : Bank) → Bank
restored_by fine file lent = bank_in file
restored_by (refused k) file lent = lent

pub record RestoreDoes (file : List ℕ) (lent : Bank) (r : Result Held Refusal) (targets records delay : List Float) : Type 0 where
  pub answer : told r ≡ held_by (restore_verdict file lent) file
  pub lists : bank_of targets records delay (cursor_or r lent.cursor) ≡ restored_by (restore_verdict file lent) file lent
