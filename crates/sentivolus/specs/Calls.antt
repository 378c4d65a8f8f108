-- What the exported calls of the bank answer and leave: numbers in place of the answers of voices/specs/Calls (document 02, C-11, C-12, C-16,
-- C-17, C-18).
-- Definitions only. Assumes nothing.
use Rattle.std.specs.Prelude.{◌≡◌, ℕ, Bool, List, [], ◌∷◌, Float}
use Rattle.filter.specs.declared.VoiceParams.{VoiceParams}
use Rattle.extended.specs.declared.Chord.{Chord}
use Rattle.voices.specs.Calls.{Check, fine, refused, Bank, Block, Call, call_block, call_audition, Answer, refused_call, kept, rendered, auditioned, Run}
use Rattle.voices.specs.Calls.{call, open_verdict}
use Rattle.checks.specs.declared.Setup.{Setup}
use Rattle.checks.specs.Setup.{solo_of, engine}
use Rattle.setups.specs.Parked.{cursor_in, restore_verdict, Holds}
use Rattle.bank.specs.Bank.{before, open_by}
use Rattle.parking.specs.Parking.{park_verdict, written_by, setup_in, restored_by}

-- the interface's version, 10,000 x major + 100 x minor + patch
abbrev pub version : ℕ
version = 1000

-- a chord (C-18) and a setup from the numbers that a caller in C hands over
abbrev pub chord_of : (count : ℕ) (offsets : List Float) → Chord
chord_of count offsets = record { count = count; offsets = offsets }

abbrev pub setup_of : (code : ℕ) (rate reference : Float) (voices channels : ℕ) (clean : Bool)
    (active : ℕ) (three : Bool) (sections : List Float) (gain : Float) (count : ℕ) (offsets : List Float) → Setup
setup_of code rate reference voices channels clean active three sections gain count offsets =
    record {
      code = code;
      rate = rate;
      reference = reference;
      voices = voices;
      channels = channels;
      clean = clean;
      table = record { active = active; three = three; sections = sections; gain = gain };
      chord = chord_of count offsets;
    }

-- a voice's settings, in the order of VoiceParams
abbrev pub params_of : (resonance drive saturation character stereo_offset mix level morph_x morph_y morph_z : Float) → VoiceParams
params_of resonance drive saturation character stereo_offset mix level morph_x morph_y morph_z =
    record {
      resonance = resonance;
      drive = drive;
      saturation = saturation;
      character = character;
      stereo_offset = stereo_offset;
      mix = mix;
      level = level;
      morph_x = morph_x;
      morph_y = morph_y;
      morph_z = morph_z;
    }

-- those settings as ten numbers
unfoldable pub param_numbers : VoiceParams → List Float
param_numbers p =
    p.resonance
    ∷ p.drive
    ∷ p.saturation
    ∷ p.character
    ∷ p.stereo_offset
    ∷ p.mix
    ∷ p.level
    ∷ p.morph_x
    ∷ p.morph_y
    ∷ p.morph_z
    ∷ []

-- the number of a run's newest answer: a refusal's, or 0
abbrev pub number_in : List Answer → ℕ
number_in [] = 0
number_in (refused_call k ∷ l) = k
number_in (kept cursor ∷ l) = 0
number_in (rendered cursor frames audio counts ∷ l) = 0
number_in (auditioned scratch frames audio counts ∷ l) = 0

-- the frames that it rendered, or the number that stood there
abbrev pub frames_in : List Answer → ℕ → ℕ
frames_in [] before = before
frames_in (refused_call k ∷ l) before = before
frames_in (kept cursor ∷ l) before = before
frames_in (rendered cursor frames audio counts ∷ l) before = frames
frames_in (auditioned scratch frames audio counts ∷ l) before = frames

-- the audio that it left: the rendered one, or as it was
abbrev pub audio_in : List Answer → List Float → List Float
audio_in [] before = before
audio_in (refused_call k ∷ l) before = before
audio_in (kept cursor ∷ l) before = before
audio_in (rendered cursor frames audio counts ∷ l) before = audio
audio_in (auditioned scratch frames audio counts ∷ l) before = audio

-- the counts that it left (C-11): the block's, or as they were
abbrev pub counts_in : List Answer → List ℕ → List ℕ
counts_in [] before = before
counts_in (refused_call k ∷ l) before = before
counts_in (kept cursor ∷ l) before = before
counts_in (rendered cursor frames audio counts ∷ l) before = counts
counts_in (auditioned scratch frames audio counts ∷ l) before = counts

-- the scratch that it left, with its cursor (C-16): the audition's, or as it was
abbrev pub scratch_in : List Answer → Bank → Bank
scratch_in [] before = before
scratch_in (refused_call k ∷ l) before = before
scratch_in (kept cursor ∷ l) before = before
scratch_in (rendered cursor frames audio counts ∷ l) before = before
scratch_in (auditioned scratch frames audio counts ∷ l) before = scratch

-- ---- what each exported call promises, of the run that the definitions' call makes

pub record ListsLeft (R : Run) (number : ℕ) (targets records delay : List Float) : Type 0 where
  pub answer : number ≡ number_in R.log
  pub targets' : targets ≡ R.bank.targets
  pub records' : records ≡ R.bank.records
  pub delay' : delay ≡ R.bank.delay

-- of the block q; `given` is the number of frames that stood there
pub record BlockLeft (R : Run) (q : Block) (given number cursor frames : ℕ) (targets records delay audio : List Float) (counts : List ℕ) : Type 0 where
  pub lists : ListsLeft R number targets records delay
  pub cursor' : cursor ≡ R.bank.cursor
  pub frames' : frames ≡ frames_in R.log given
  pub audio' : audio ≡ audio_in R.log q.audio
  pub counts' : counts ≡ counts_in R.log q.counts

-- open, by `open_by` on the verdict
abbrev pub OpenLeaves : Setup → Bank → (number : ℕ) (targets records delay : List Float) → Type 0
OpenLeaves s b n tg rs ds = ListsLeft (open_by (open_verdict (engine s) s.voices b) s b) n tg rs ds

-- set and start
abbrev pub CallLeaves : Setup → Call VoiceParams → Bank → (number : ℕ) (targets records delay : List Float) → Type 0
CallLeaves s x b n tg rs ds = ListsLeft (call (engine s) s.voices x (before b)) n tg rs ds

-- block
abbrev pub BlockLeaves : Setup → Block → Bank → (given number cursor frames : ℕ) (records delay audio : List Float) (counts : List ℕ) → Type 0
BlockLeaves s q b given n cur f rs ds audio counts =
    BlockLeft (call (engine s) s.voices (call_block q) (before b)) q given n cur f b.targets rs ds audio counts

-- audition (C-16): of the lent scratch what block says of the bank
abbrev pub AuditionLeaves : Setup → Block → (lent : Bank) → Bank
    → (given number cursor frames : ℕ) (targets records delay audio : List Float) (counts : List ℕ) → Type 0
AuditionLeaves s q lent b given n cur f tg rs ds audio counts =
    let l = (call (engine s) s.voices (call_audition q lent) (before b)).log in
    BlockLeft (record { bank = scratch_in l lent; log = l }) q given n cur f tg rs ds audio counts

-- ---- park and restore (C-12)

-- a verdict's number: a refusal's, or 0
abbrev pub number_by : Check → ℕ
number_by fine = 0
number_by (refused k) = k

-- park, of the list that it is lent
pub record ParkLeft (s : Setup) (b : Bank) (list : List ℕ) (number : ℕ) (list' : List ℕ) : Type 0 where
  pub answer : number ≡ number_by (park_verdict s b list)
  pub written : list' ≡ written_by (park_verdict s b list) s b list
  pub holds : park_verdict s b list ≡ fine → Holds list' (solo_of s) s.voices b

-- what stands behind the pointers afterwards: the file's setup and cursor, or what stood there
abbrev pub setup_by : Check → (file : List ℕ) → Setup → Setup
setup_by fine file given = setup_in file
setup_by (refused k) file given = given

abbrev pub cursor_by : Check → (file : List ℕ) → ℕ → ℕ
cursor_by fine file given = cursor_in file
cursor_by (refused k) file given = given

pub record SetupLeft (v : Check) (file : List ℕ) (given : Setup) (at number : ℕ) (setup : Setup) (cursor : ℕ) : Type 0 where
  pub answer : number ≡ number_by v
  pub setup' : setup ≡ setup_by v file given
  pub cursor' : cursor ≡ cursor_by v file at

-- restore, into the lists that it is lent
pub record RestoreLeft (file : List ℕ) (lent : Bank) (given : Setup) (at number : ℕ) (setup : Setup) (cursor : ℕ)
    (targets records delay : List Float) : Type 0 where
  pub left : SetupLeft (restore_verdict file lent) file given at number setup cursor
  pub targets' : targets ≡ (restored_by (restore_verdict file lent) file lent).targets
  pub records' : records ≡ (restored_by (restore_verdict file lent) file lent).records
  pub delay' : delay ≡ (restored_by (restore_verdict file lent) file lent).delay
