-- What the bank's code answers and leaves, read as the calls of voices/specs/Calls (document 01; document 02, C-11). Definitions only.
use Rattle.std.specs.Prelude.{◌≡◌, ℕ, List, [], ◌∷◌, Float, Result, Ok, Err, OnErr}
use Rattle.filter.specs.declared.VoiceParams.{VoiceParams}
use Rattle.voices.specs.Calls.{Check, fine, refused, Bank, Block, call_set, call_start, call_block}
use Rattle.voices.specs.Calls.{Answer, refused_call, kept, rendered, auditioned, Run, open_of, open_verdict, call}
use Rattle.checks.specs.declared.Setup.{Setup}
use Rattle.checks.specs.Setup.{engine}
use Rattle.checks.specs.declared.Refusal.{Refusal}
use Rattle.checks.specs.Checks.{number_of, bank_of}
use Rattle.bank.specs.declared.Rendered.{Rendered}

-- ---- answers: document 01's number and values for each case

-- a refusal's number, or the cursor kept
unfoldable pub answer_of : Result ℕ Refusal → Answer
answer_of (Ok cursor) = kept cursor
answer_of (Err e) = refused_call (number_of e)

-- of a block, the new cursor and the frames rendered, with the audio and the counts (C-11) that it left
unfoldable pub block_answer : Result Rendered Refusal → (audio : List Float) (counts : List ℕ) → Answer
block_answer (Ok r) audio counts = rendered r.cursor r.frames audio counts
block_answer (Err e) audio counts = refused_call (number_of e)

-- the cursor that the next call is given: a refusal keeps the caller's, as an audition does
abbrev pub cursor_of : Answer → (cursor : ℕ) → ℕ
cursor_of (refused_call k) given = given
cursor_of (kept cursor) given = cursor
cursor_of (rendered cursor frames audio counts) given = cursor
cursor_of (auditioned scratch frames audio counts) given = given

-- ---- a call's lists and cursor, as a run

-- a run of no calls yet
abbrev pub before : Bank → Run
before b = record { bank = b; log = [] }

-- the run that a call's answer and the lists it left make
abbrev pub after : Answer → (cursor : ℕ) (targets records delay : List Float) → Run
after a cur tg rs ds = record { bank = bank_of tg rs ds (cursor_of a cur); log = a ∷ [] }

-- ---- what each call promises

-- set takes targets alone: whatever records and delay are, it does `call` with those targets and keeps them
abbrev pub SetDoes : Setup → (cursor voice : ℕ) → VoiceParams → (targets : List Float) → Result ℕ Refusal → (targets' : List Float) → Type 0
SetDoes s cur v p tg r tg' = (rs ds : List Float) → after (answer_of r) cur tg' rs ds ≡ call (engine s) s.voices (call_set v p) (before (bank_of tg rs ds cur))

abbrev pub StartDoes : Setup → (cursor voice : ℕ) (targets records delay : List Float) → Result ℕ Refusal → (records' delay' : List Float) → Type 0
StartDoes s cur v tg rs ds r rs' ds' = after (answer_of r) cur tg rs' ds' ≡ call (engine s) s.voices (call_start v) (before (bank_of tg rs ds cur))

-- a refused block leaves the audio and the counts (C-11) too
pub record BlockDoes (s : Setup) (q : Block) (b : Bank) (r : Result Rendered Refusal) (rs ds audio : List Float) (counts : List ℕ) : Type 0 where
  pub does : after (block_answer r audio counts) b.cursor b.targets rs ds ≡ call (engine s) s.voices (call_block q) (before b)
  pub keeps : OnErr r ((audio ≡ q.audio) × (counts ≡ q.counts))

-- open: the lists with every voice set to the defaults and started, and cursor 0; refused, the lists as they were
abbrev pub open_by : Check → Setup → Bank → Run
open_by fine s b = record { bank = open_of (engine s) s.voices b; log = kept 0 ∷ [] }
open_by (refused k) s b = record { bank = b; log = refused_call k ∷ [] }

pub record OpenDoes (s : Setup) (b : Bank) (r : Result ℕ Refusal) (s' : Setup) (tg rs ds : List Float) : Type 0 where
  pub does : after (answer_of r) b.cursor tg rs ds ≡ open_by (open_verdict (engine s) s.voices b) s b
  pub setup : s' ≡ s
