-- For the proofs: nothing here must be believed.
-- What the bank's functions promise each other. Definitions only. Assumes nothing.
use Rattle.std.specs.Prelude.{◌≡◌, List, ℕ, Float}
use Rattle.setups.specs.Setup.{setup_check_of}
use Rattle.voices.specs.Calls.{fine, Bank, start_of}
use Rattle.voices.specs.Accepted.{Lengths}
use Rattle.checks.specs.declared.Setup.{Setup}
use Rattle.checks.specs.Setup.{solo_of, engine}
use Rattle.checks.specs.Checks.{bank_of}

-- the setup is accepted, and the lists are as long as it asks
pub record Ready (s : Setup) (b : Bank) : Type 0 where
  pub setup : setup_check_of (solo_of s) s.voices ≡ fine
  pub lengths : Lengths (engine s) s.voices b

-- voice v is started in records and delay, whatever the cursor
abbrev pub Started : Setup → (v : ℕ) (targets records delay records' delay' : List Float) → Type 0
Started s v tg rs ds rs' ds' = (cur : ℕ) → bank_of tg rs' ds' cur ≡ start_of (engine s) s.voices v (bank_of tg rs ds cur)
