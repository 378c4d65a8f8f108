-- What audition's code leaves, from what block's left on the copy. Assumes nothing.
use mathlib.Core.Path.{◌≡◌, refl, sym, ap, ◌∙◌, subst}
use native.Mathlib.Omega.{arith}
use Prim.Native.Nat.{ℕ}
use mathlib.Core.List.{List, ◌∷◌, []}
use lib.Ieee.{Float}
use lib.ListN.{length, drop}
use lib.Seq.{paste, take_all}
use Rattle.parts.specs.Laws.{paste_whole}
use Rattle.std.specs.Prelude.{Result, Ok, Err}
use Rattle.voices.specs.Calls.{Check, fine, refused, Bank, Block, call_block, call_audition, Answer, refused_call, kept, rendered, auditioned, Run, verdict, perform}
use Rattle.voices.specs.Accepted.{audition_accepted}
use Rattle.checks.specs.declared.Setup.{Setup}
use Rattle.checks.specs.Setup.{engine}
use Rattle.checks.specs.Checks.{bank_of}
use Rattle.checks.specs.declared.Refusal.{Refusal}
use Rattle.checks.specs.Checks.{number_of}
use Rattle.bank.specs.declared.Rendered.{Rendered}
use Rattle.bank.specs.Bank.{block_answer, before, after, BlockDoes}
use Rattle.bank.specs.Answers.{newest, rendered_is}
use Rattle.auditions.specs.Audition.{audition_answer, AuditionDoes}

-- a run of a block on the bank b, told as an audition
abbrev as_audition : Bank → Bank → List Answer → Run
as_audition b copy [] = record { bank = b; log = [] }
as_audition b copy (refused_call k ∷ l) = record { bank = b; log = refused_call k ∷ [] }
as_audition b copy (kept c ∷ l) = record { bank = b; log = kept c ∷ [] }
as_audition b copy (rendered c f a counts ∷ l) = record { bank = b; log = auditioned copy f a counts ∷ [] }
as_audition b copy (auditioned sc f a counts ∷ l) = record { bank = b; log = auditioned sc f a counts ∷ [] }

-- a list copied whole over one of its length
pub copied : (into list : List Float) → length into ≡ length list → paste into 0 (drop 0 list) (length list) ≡ list
copied into list l = paste_whole (length list) into list l ∙ take_all (length list) list (omega arith)

module _ (s : Setup) (q : Block) (lent b : Bank) where
  pub refused_audition : (e : Refusal) → verdict (engine s) s.voices (call_audition q lent) b ≡ refused (number_of e)
      → AuditionDoes s q lent b (Err e) lent.targets lent.records lent.delay q.audio q.counts
  unfolding audition_answer
  refused_audition e h = record { does = rw h; keeps = (refl, refl, refl) }

  pub heard_on_copy : verdict (engine s) s.voices (call_audition q lent) b ≡ fine
      → (r : Result Rendered Refusal) (rs ds audio : List Float) (counts : List ℕ) → BlockDoes s q b r rs ds audio counts
      → AuditionDoes s q lent b r b.targets rs ds audio counts
  unfolding audition_answer block_answer
  heard_on_copy ok r rs ds audio counts d = record {
    does = told r audio counts ∙ ap (λ (w : Run). as_audition b w.bank w.log) block ∙ sym (ap (λ (k : Check). perform (engine s) s.voices k (call_audition q lent) (before b)) ok);
    keeps = rw (rendered_is r _ _ audio _ counts _ (ap newest block)).0 tt;
  }
    where
      block : after (block_answer r audio counts) b.cursor b.targets rs ds ≡ perform (engine s) s.voices fine (call_block q) (before b)
      block = d.does ∙ ap (λ (k : Check). perform (engine s) s.voices k (call_block q) (before b)) (audition_accepted (engine s) s.voices q lent b ok).block

      told : (r : Result Rendered Refusal) (audio : List Float) (counts : List ℕ) → record { bank = b; log = audition_answer r b.targets rs ds audio counts ∷ [] }
          ≡ as_audition b (after (block_answer r audio counts) b.cursor b.targets rs ds).bank (after (block_answer r audio counts) b.cursor b.targets rs ds).log
      told (Ok d) audio counts = refl
      told (Err e) audio counts = refl

  -- the copy is in other lists, which hold what the bank's do
  pub heard_in_scratch : verdict (engine s) s.voices (call_audition q lent) b ≡ fine
      → (tg' rs' ds' : List Float) → tg' ≡ b.targets → rs' ≡ b.records → ds' ≡ b.delay
      → (r : Result Rendered Refusal) (rs ds audio : List Float) (counts : List ℕ) → BlockDoes s q (bank_of tg' rs' ds' b.cursor) r rs ds audio counts
      → AuditionDoes s q lent b r tg' rs ds audio counts
  heard_in_scratch ok tg' rs' ds' et er ed r rs ds audio counts d =
      subst (λ (tg : List Float). AuditionDoes s q lent b r tg rs ds audio counts) (sym et)
      (heard_on_copy ok r rs ds audio counts (subst (λ (w : Bank). BlockDoes s q w r rs ds audio counts) (λ i. bank_of (et i) (er i) (ed i) b.cursor) d))
