-- Audition (document 02, C-16) in lists of calls, over any engine: the proofs. Assumes nothing.
use Rattle.std.specs.Prelude.{◌≡◌, refl, ℕ, List, [], ◌∷◌, ◌++◌, Float}
use Rattle.std.proofs.Common.{sym, ap, ap₂, ◌∙◌}
use Rattle.voices.specs.Calls.{Check, fine, refused, ◌then◌, Engine, Bank, Block, Call, call_block, call_audition, Answer}
use Rattle.voices.specs.Calls.{refused_call, kept, rendered, auditioned, Run, verdict, perform, call, run}
use Rattle.voices.specs.Feed.{Event, events, feed}
use Rattle.voices.specs.Accepted.{audition_accepted}
use Rattle.voices.specs.Alone.{call_from}
use Rattle.voices.specs.Audition.{ScratchLast, Heard, committed, BlockAsHeard, FromScratch, Anywhere}

module _ (E : Engine) (n : ℕ) where
  open E use {S, channels, ring_length}

  pub scratch_last : ScratchLast E n
  unfolding ◌then◌
  scratch_last q lent b = (λ k e. rw e, λ e. rw e)

  -- the run r with other answers so far
  abbrev with_log : List Answer → Run → Run
  with_log l r = record { bank = r.bank; log = l }

  -- the block that an audition's answer tells of, after the run r
  abbrev block_heard : List Answer → Run → Run
  block_heard (auditioned scratch frames audio counts ∷ l) r = committed E n r scratch frames audio counts
  block_heard (refused_call k ∷ l) r = r
  block_heard (kept cursor ∷ l) r = r
  block_heard (rendered cursor frames audio counts ∷ l) r = r
  block_heard [] r = r

  as_heard : (q : Block) (lent : Bank) (r : Run) (scratch : Bank) (frames : ℕ) (audio : List Float) (counts : List ℕ)
      → Heard E n q lent r scratch frames audio counts
      → (l : List Answer) → call E n (call_block q) (with_log l r) ≡ committed E n (with_log l r) scratch frames audio counts
  as_heard q lent r scratch frames audio counts h l = go (verdict E n (call_audition q lent) r.bank) refl (ap (λ (w : Run). w.log) h)
    where
      go : (k : Check) → verdict E n (call_audition q lent) r.bank ≡ k
          → (perform E n k (call_audition q lent) r).log ≡ auditioned scratch frames audio counts ∷ r.log
          → call E n (call_block q) (with_log l r) ≡ committed E n (with_log l r) scratch frames audio counts
      go (refused k) e p = cc
      go fine e p =
          ap (λ (k : Check). perform E n k (call_block q) (with_log l r)) (audition_accepted E n q lent r.bank e).block
          ∙ ap (λ (a : List Answer). block_heard a (with_log l r)) p

  pub block_as_heard : BlockAsHeard E n
  block_as_heard q lent r scratch frames audio counts h =
      ap (call E n (call_block q)) h
      ∙ as_heard q lent r scratch frames audio counts h (auditioned scratch frames audio counts ∷ r.log)
      ∙ sym (ap (λ (w : Run). committed E n w scratch frames audio counts) h)

  pub from_scratch : FromScratch E n
  from_scratch q lent r scratch frames audio counts xs h = ap (run E n xs) (sym (as_heard q lent r scratch frames audio counts h r.log))

  -- what a call makes of a bank, and what it feeds, does not follow from the answers before it
  call_bank : (x : Call S) (r s : Run) → r.bank ≡ s.bank → (call E n x r).bank ≡ (call E n x s).bank
  call_bank x r s e =
      ap (λ (w : Run). w.bank) (call_from E n x r)
      ∙ ap (λ (b : Bank). (call E n x (record { bank = b; log = [] })).bank) e
      ∙ sym (ap (λ (w : Run). w.bank) (call_from E n x s))

  run_bank : (xs : List (Call S)) (r s : Run) → r.bank ≡ s.bank → (run E n xs r).bank ≡ (run E n xs s).bank
  run_bank [] r s e = e
  run_bank (x ∷ xs) r s e = run_bank xs (call E n x r) (call E n x s) (call_bank x r s e)

  feed_bank : (v : ℕ) (xs : List (Call S)) (r s : Run) → r.bank ≡ s.bank → feed E n v xs r ≡ feed E n v xs s
  feed_bank v [] r s e = refl
  feed_bank v (x ∷ xs) r s e =
      ap₂ ◌++◌ (ap (λ (b : Bank). events E n (verdict E n x b) v x) e) (feed_bank v xs (call E n x r) (call E n x s) (call_bank x r s e))

  -- an audition leaves the bank, and feeds nothing
  keeps : (q : Block) (lent : Bank) (r : Run) → (call E n (call_audition q lent) r).bank ≡ r.bank
  keeps q lent r = go (verdict E n (call_audition q lent) r.bank)
    where
      go : (k : Check) → (perform E n k (call_audition q lent) r).bank ≡ r.bank
      go (refused k) = refl
      go fine = refl

  feeds_nothing : (q : Block) (lent : Bank) (v : ℕ) (k : Check) → events E n k v (call_audition q lent) ≡ []
  feeds_nothing q lent v (refused k) = refl
  feeds_nothing q lent v fine = refl

  pub anywhere : Anywhere E n
  anywhere q lent [] ys r =
      let heard = call E n (call_audition q lent) r in
      let k = verdict E n (call_audition q lent) r.bank in
      (run_bank ys heard r (keeps q lent r), λ v. ap₂ ◌++◌ (feeds_nothing q lent v k) (feed_bank v ys heard r (keeps q lent r)))
  anywhere q lent (x ∷ xs) ys r =
      let i = anywhere q lent xs ys (call E n x r) in
      (i.0, λ v. ap (λ (es : List (Event S)). events E n (verdict E n x r.bank) v x ++ es) (i.1 v))
