-- Audition (document 02, C-16) in lists of calls, over any engine: the statements, proved in proofs/Audition.antt. That demand 3 holds of lists with
-- auditions is the theorem of Voice. Assumes nothing.
use Rattle.std.specs.Prelude.{◌≡◌, ℕ, List, ◌∷◌, ◌++◌, Float}
use Rattle.voices.specs.Calls.{fine, refused, check, Engine, Bank, Block, Call, call_block, call_audition}
use Rattle.voices.specs.Calls.{rendered, auditioned, Run, are_long, verdict, call, run}
use Rattle.voices.specs.Feed.{feed}

module _ (E : Engine) (n : ℕ) where
  open E use {S, channels, ring_length}

  -- Checks run as for a block, and after them a scratch list of the wrong length is 14.
  abbrev pub ScratchLast : Type 0
  ScratchLast =
      (q : Block) (lent b : Bank)
      → ((k : ℕ) → verdict E n (call_block q) b ≡ refused k → verdict E n (call_audition q lent) b ≡ refused k)
      × (verdict E n (call_block q) b ≡ fine → verdict E n (call_audition q lent) b ≡ check (are_long channels ring_length n lent) 14)

  -- the run r after an accepted audition of q, which left this scratch, audio and counts
  abbrev pub Heard : Block → (lent : Bank) → Run → (scratch : Bank) (frames : ℕ) (audio : List Float) (counts : List ℕ) → Type 0
  Heard q lent r scratch frames audio counts =
      call E n (call_audition q lent) r ≡ record { bank = r.bank; log = auditioned scratch frames audio counts ∷ r.log }

  -- the run r after a block that left this bank, audio and counts
  abbrev pub committed : Run → (scratch : Bank) (frames : ℕ) (audio : List Float) (counts : List ℕ) → Run
  committed r scratch frames audio counts = record { bank = scratch; log = rendered scratch.cursor frames audio counts ∷ r.log }

  -- The block with the same input, after the audition, gives the same audio, counts and answer, and leaves what the scratch holds.
  abbrev pub BlockAsHeard : Type 0
  BlockAsHeard =
      (q : Block) (lent : Bank) (r : Run) (scratch : Bank) (frames : ℕ) (audio : List Float) (counts : List ℕ)
      → Heard q lent r scratch frames audio counts
      → call E n (call_block q) (call E n (call_audition q lent) r) ≡ committed (call E n (call_audition q lent) r) scratch frames audio counts

  -- To render on from the scratch as the bank is the same as having committed the block, whatever calls xs follow.
  abbrev pub FromScratch : Type 0
  FromScratch =
      (q : Block) (lent : Bank) (r : Run) (scratch : Bank) (frames : ℕ) (audio : List Float) (counts : List ℕ) (xs : List (Call S))
      → Heard q lent r scratch frames audio counts
      → run E n xs (committed r scratch frames audio counts) ≡ run E n xs (call E n (call_block q) r)

  -- An audition, accepted or refused, may stand anywhere in a list of calls: the bank at the end and every voice's feed are those of the list without it.
  abbrev pub Anywhere : Type 0
  Anywhere =
      (q : Block) (lent : Bank) (xs ys : List (Call S)) (r : Run)
      → ((run E n (xs ++ call_audition q lent ∷ ys) r).bank ≡ (run E n (xs ++ ys) r).bank)
      × ((v : ℕ) → feed E n v (xs ++ call_audition q lent ∷ ys) r ≡ feed E n v (xs ++ ys) r)
