-- What audition's code answers and leaves, read as the call of voices/specs/Calls (document 02, C-16). Definitions only.
use Rattle.std.specs.Prelude.{◌≡◌, ℕ, List, [], ◌∷◌, Float, Result, Ok, Err, OnErr}
use Rattle.voices.specs.Calls.{Bank, Block, call_audition, Answer, refused_call, auditioned, call}
use Rattle.checks.specs.declared.Setup.{Setup}
use Rattle.checks.specs.Setup.{engine}
use Rattle.checks.specs.declared.Refusal.{Refusal}
use Rattle.checks.specs.Checks.{number_of, bank_of}
use Rattle.bank.specs.declared.Rendered.{Rendered}
use Rattle.bank.specs.Bank.{before}

-- a refusal's number; the copy's cursor and the frames rendered, with the lists that the call left: the scratch, the audio and the counts
unfoldable pub audition_answer : Result Rendered Refusal → (targets records delay audio : List Float) (counts : List ℕ) → Answer
audition_answer (Ok r) tg rs ds audio counts = auditioned (bank_of tg rs ds r.cursor) r.frames audio counts
audition_answer (Err e) tg rs ds audio counts = refused_call (number_of e)

-- audition does `call` on the bank b, which it only reads; a refused one leaves the lent scratch, the audio and the counts
pub record AuditionDoes (s : Setup) (q : Block) (lent b : Bank) (r : Result Rendered Refusal) (tg rs ds audio : List Float) (counts : List ℕ) : Type 0 where
  pub does : record { bank = b; log = audition_answer r tg rs ds audio counts ∷ [] } ≡ call (engine s) s.voices (call_audition q lent) (before b)
  pub keeps : OnErr r ((bank_of tg rs ds lent.cursor ≡ lent) × (audio ≡ q.audio) × (counts ≡ q.counts))
