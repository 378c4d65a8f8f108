-- What the code of the checks answers, and the lists that it measures, read as those of voices/specs/Calls (document 01, 'A bank is
-- opened'; document 02, C-11). Definitions only.
use Rattle.std.specs.Prelude.{◌≡◌, ℕ, Bool, List, Float, Result, Ok, Err}
use Rattle.filter.specs.declared.VoiceParams.{VoiceParams}
use Rattle.voices.specs.Calls.{Check, fine, refused, Bank, Block, Call, open_verdict, verdict}
use Rattle.checks.specs.declared.Setup.{Setup}
use Rattle.checks.specs.Setup.{engine}
use Rattle.checks.specs.declared.Refusal.{Refusal}
use Rattle.checks.specs.declared.Refusal.TheVariants.{Rate, Tuning, Polyphony, Layout, Structure, Store, Voice, Knob, Frames, Buffer}
use Rattle.checks.specs.declared.Refusal.TheVariants.{Damaged, Blocks, Scratch, Unparkable, Chord}

-- a refusal's number: document 01's table has 1 to 10, document 02 adds 12 and 13 (C-12), 14 (C-16), 15 (C-17) and 16 (C-18)
abbrev pub number_of : Refusal → ℕ
number_of Rate = 1
number_of Tuning = 2
number_of Polyphony = 3
number_of Layout = 4
number_of Structure = 5
number_of Store = 6
number_of Voice = 7
number_of Knob = 8
number_of Frames = 9
number_of Buffer = 10
number_of Damaged = 12
number_of Blocks = 13
number_of Scratch = 14
number_of Unparkable = 15
number_of Chord = 16

-- what the checks of a call come to
abbrev pub Checked : Type 0
Checked = Result (Unit {0}) Refusal

unfoldable pub check_of : Checked → Check
check_of (Ok t) = fine
check_of (Err e) = refused (number_of e)

-- ---- a call's lists and cursor

abbrev pub bank_of : (targets records delay : List Float) (cursor : ℕ) → Bank
bank_of tg rs ds cur = record { targets = tg; records = rs; delay = ds; cursor = cur }

-- a block's lists: `counts` is C-11's
abbrev pub block_from : (frames : ℕ) (pitch : List Float) (steered : Bool) (x y audio : List Float) (counts : List ℕ) → Block
block_from f p st x y a counts = record { frames = f; pitch = p; steered = st; x = x; y = y; audio = a; counts = counts }

-- ---- what the checks promise: the verdict on open, and on any other call

abbrev pub IsOpenVerdict : Setup → Bank → Checked → Type 0
IsOpenVerdict s b r = check_of r ≡ open_verdict (engine s) s.voices b

abbrev pub IsVerdict : Setup → Call VoiceParams → Bank → Checked → Type 0
IsVerdict s x b r = check_of r ≡ verdict (engine s) s.voices x b
