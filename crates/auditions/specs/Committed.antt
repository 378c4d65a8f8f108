-- Audition beside block (document 02, C-16): at their contracts, and in lists of calls. The statements, then their proofs. Assumes nothing.
use Rattle.std.specs.Prelude.{◌≡◌, ℕ, List, [], Float, Result, Ok}
use Rattle.std.proofs.Common.{sym, ap, ◌∙◌}
use Rattle.voices.specs.Calls.{Bank, Block, Run}
use Rattle.voices.specs.Audition.{committed, BlockAsHeard, FromScratch, Anywhere}
use Rattle.voices.proofs.Audition.{block_as_heard, from_scratch, anywhere}
use Rattle.checks.specs.declared.Setup.{Setup}
use Rattle.checks.specs.Setup.{engine}
use Rattle.checks.specs.Checks.{bank_of}
use Rattle.checks.specs.declared.Refusal.{Refusal}
use Rattle.bank.specs.declared.Rendered.{Rendered}
use Rattle.bank.specs.Bank.{block_answer, before, after, BlockDoes}
use Rattle.bank.specs.Answers.{newest, rendered_is}
use Rattle.auditions.specs.Audition.{audition_answer, AuditionDoes}

-- a block answered and left (r', ..) what the answer, the scratch, the audio and the counts of an audition show (r, ..)
pub record Committed (r : Result Rendered Refusal) (tg rs ds au : List Float) (cs : List ℕ)
    (r' : Result Rendered Refusal) (tg' rs' ds' au' : List Float) (cs' : List ℕ) : Type 0 where
  pub answer : r' ≡ r
  pub targets : tg' ≡ tg
  pub records : rs' ≡ rs
  pub delay : ds' ≡ ds
  pub audio : au' ≡ au
  pub counts : cs' ≡ cs

-- Where an audition of q was accepted, the block q gives the same answer, audio and counts, and leaves the bank as the scratch is.
abbrev pub CommittedAsHeard : Setup → Type 0
CommittedAsHeard s =
    (q : Block) (lent b : Bank) (r : Rendered) (tg rs ds au rs' ds' au' : List Float) (cs cs' : List ℕ) (r' : Result Rendered Refusal)
    → AuditionDoes s q lent b (Ok r) tg rs ds au cs
    → BlockDoes s q b r' rs' ds' au' cs'
    → Committed (Ok r) tg rs ds au cs r' b.targets rs' ds' au' cs'

-- In lists of calls on the bank (voices/specs/Audition): after an audition the block is as heard, to go on from the scratch is having committed it, and
-- auditions may stand anywhere.
abbrev pub InLists : Setup → Type 0
InLists s = BlockAsHeard (engine s) s.voices × FromScratch (engine s) s.voices × Anywhere (engine s) s.voices

-- ---- the proofs

pub in_lists : (s : Setup) → InLists s
in_lists s = (block_as_heard (engine s) s.voices, from_scratch (engine s) s.voices, anywhere (engine s) s.voices)

pub committed_as_heard : (s : Setup) → CommittedAsHeard s
unfolding audition_answer
committed_as_heard s q lent b r tg rs ds au rs' ds' au' cs cs' r' a d =
    let scratch = bank_of tg rs ds r.cursor in
    let e : after (block_answer r' au' cs') b.cursor b.targets rs' ds' ≡ committed (engine s) s.voices (before b) scratch r.frames au cs =
    d.does ∙ sym (from_scratch (engine s) s.voices q lent (before b) scratch r.frames au cs [] (sym a.does)) in
    let h = rendered_is r' r.cursor r.frames au' au cs' cs (ap newest e) in
    record {
      answer = h.0;
      targets = ap (λ (w : Run). w.bank.targets) e;
      records = ap (λ (w : Run). w.bank.records) e;
      delay = ap (λ (w : Run). w.bank.delay) e;
      audio = h.1;
      counts = h.2;
    }
