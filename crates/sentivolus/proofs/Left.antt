-- What a call of the bank leaves, in the numbers that the exported calls answer. By the cases of the answer. Assumes nothing.
use mathlib.Core.Path.{◌≡◌, refl, sym, ap, ◌∙◌, subst}
use Prim.Native.Nat.{ℕ}
use mathlib.Core.List.{List, ◌∷◌, []}
use lib.Ieee.{Float}
use Rattle.std.specs.Prelude.{Result, Ok, Err}
use Rattle.voices.specs.Calls.{Check, fine, refused, Bank, Block, Run, Answer, call_audition, perform, call, verdict}
use Rattle.checks.specs.declared.Setup.{Setup}
use Rattle.checks.specs.declared.Refusal.{Refusal}
use Rattle.checks.specs.Setup.{engine}
use Rattle.checks.specs.Checks.{number_of, bank_of}
use Rattle.bank.specs.declared.Rendered.{Rendered}
use Rattle.bank.specs.Bank.{answer_of, block_answer, before, after, BlockDoes}
use Rattle.auditions.specs.Audition.{audition_answer, AuditionDoes}
use Rattle.sentivolus.specs.Calls.{number_in, frames_in, audio_in, counts_in, scratch_in, ListsLeft, BlockLeft, BlockLeaves, AuditionLeaves}
use Rattle.sentivolus.specs.Answers.{answer_number}

number_is : (r : Result ℕ Refusal) → answer_number r ≡ number_in (answer_of r ∷ [])
unfolding answer_number answer_of
number_is (Ok cursor) = refl
number_is (Err e) = refl

pub lists_left : (R : Run) (r : Result ℕ Refusal) (n cur : ℕ) (tg rs ds : List Float)
    → n ≡ answer_number r → after (answer_of r) cur tg rs ds ≡ R → ListsLeft R n tg rs ds
lists_left R r n cur tg rs ds e does =
    record {
      answer = e ∙ number_is r ∙ ap (λ (r : Run). number_in r.log) does;
      targets' = ap (λ (r : Run). r.bank.targets) does;
      records' = ap (λ (r : Run). r.bank.records) does;
      delay' = ap (λ (r : Run). r.bank.delay) does;
    }

module _ (s : Setup) (q : Block) (b : Bank) (r : Result Rendered Refusal) (rs ds audio : List Float) (counts : List ℕ) (given : ℕ)
    (block : BlockDoes s q b r rs ds audio counts) where
  pub block_done : (d : Rendered) → r ≡ Ok d → BlockLeaves s q b given 0 d.cursor d.frames rs ds audio counts
  unfolding block_answer
  block_done d e =
      let does = (subst (λ (x : Result Rendered Refusal). BlockDoes s q b x rs ds audio counts) e block).does in
      record {
        lists = record {
          answer = ap (λ (w : Run). number_in w.log) does;
          targets' = ap (λ (w : Run). w.bank.targets) does;
          records' = ap (λ (w : Run). w.bank.records) does;
          delay' = ap (λ (w : Run). w.bank.delay) does;
        };
        cursor' = ap (λ (w : Run). w.bank.cursor) does;
        frames' = ap (λ (w : Run). frames_in w.log given) does;
        audio' = ap (λ (w : Run). audio_in w.log q.audio) does;
        counts' = ap (λ (w : Run). counts_in w.log q.counts) does;
      }

  pub block_refused : (k : Refusal) (n : ℕ) → r ≡ Err k → n ≡ number_of k → BlockLeaves s q b given n b.cursor given rs ds audio counts
  unfolding block_answer
  block_refused k n e en =
      let h = subst (λ (x : Result Rendered Refusal). BlockDoes s q b x rs ds audio counts) e block in
      record {
        lists = record {
          answer = en ∙ ap (λ (w : Run). number_in w.log) h.does;
          targets' = ap (λ (w : Run). w.bank.targets) h.does;
          records' = ap (λ (w : Run). w.bank.records) h.does;
          delay' = ap (λ (w : Run). w.bank.delay) h.does;
        };
        cursor' = ap (λ (w : Run). w.bank.cursor) h.does;
        frames' = ap (λ (w : Run). frames_in w.log given) h.does;
        audio' = h.keeps.0 ∙ ap (λ (w : Run). audio_in w.log q.audio) h.does;
        counts' = h.keeps.1 ∙ ap (λ (w : Run). counts_in w.log q.counts) h.does;
      }

module _ (s : Setup) (q : Block) (lent b : Bank) where
  -- audition itself is lent lists without a cursor, which changes nothing
  abbrev lists : Bank
  lists = bank_of lent.targets lent.records lent.delay 0

  without_cursor : call (engine s) s.voices (call_audition q lists) (before b) ≡ call (engine s) s.voices (call_audition q lent) (before b)
  without_cursor = go (verdict (engine s) s.voices (call_audition q lent) b)
    where
      go : (v : Check) → perform (engine s) s.voices v (call_audition q lists) (before b) ≡ perform (engine s) s.voices v (call_audition q lent) (before b)
      go fine = refl
      go (refused k) = refl

  module _ (r : Result Rendered Refusal) (tg rs ds audio : List Float) (counts : List ℕ) (given : ℕ)
      (audition : AuditionDoes s q lists b r tg rs ds audio counts) where
    -- told of the log that the answer makes, it is of that of the call
    along : (n cur frames : ℕ)
        → let l = audition_answer r tg rs ds audio counts ∷ [] in
        BlockLeft (record { bank = scratch_in l lent; log = l }) q given n cur frames tg rs ds audio counts
        → AuditionLeaves s q lent b given n cur frames tg rs ds audio counts
    along n cur frames x =
        subst (λ (l : List Answer). BlockLeft (record { bank = scratch_in l lent; log = l }) q given n cur frames tg rs ds audio counts)
        (ap (λ (w : Run). w.log) (audition.does ∙ without_cursor)) x

    abbrev Told : Result Rendered Refusal → (n cur frames : ℕ) → Type 0
    Told x n cur frames =
        let l = audition_answer x tg rs ds audio counts ∷ [] in
        BlockLeft (record { bank = scratch_in l lent; log = l }) q given n cur frames tg rs ds audio counts

    done : (d : Rendered) → Told (Ok d) 0 d.cursor d.frames
    unfolding audition_answer
    done d = record {
      lists = record { answer = refl; targets' = refl; records' = refl; delay' = refl };
      cursor' = refl;
      frames' = refl;
      audio' = refl;
      counts' = refl;
    }

    stopped : (k : Refusal) (n : ℕ) → n ≡ number_of k → AuditionDoes s q lists b (Err k) tg rs ds audio counts → Told (Err k) n lent.cursor given
    unfolding audition_answer
    stopped k n en a = record {
      lists = record {
        answer = en;
        targets' = ap (λ (w : Bank). w.targets) a.keeps.0;
        records' = ap (λ (w : Bank). w.records) a.keeps.0;
        delay' = ap (λ (w : Bank). w.delay) a.keeps.0;
      };
      cursor' = refl;
      frames' = refl;
      audio' = a.keeps.1;
      counts' = a.keeps.2;
    }

    pub audition_done : (d : Rendered) → r ≡ Ok d → AuditionLeaves s q lent b given 0 d.cursor d.frames tg rs ds audio counts
    audition_done d e = along 0 d.cursor d.frames (subst (λ (x : Result Rendered Refusal). Told x 0 d.cursor d.frames) (sym e) (done d))

    pub audition_refused : (k : Refusal) (n : ℕ) → r ≡ Err k → n ≡ number_of k → AuditionLeaves s q lent b given n lent.cursor given tg rs ds audio counts
    audition_refused k n e en =
        along n lent.cursor given
        (subst (λ (x : Result Rendered Refusal). Told x n lent.cursor given) (sym e)
        (stopped k n en (subst (λ (x : Result Rendered Refusal). AuditionDoes s q lists b x tg rs ds audio counts) e audition)))
