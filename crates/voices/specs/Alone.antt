-- The contracts of the calls speak of a bank alone; in a list a call leaves the same bank and adds its answer to the log. By the cases of the call.
-- Assumes nothing.
use Rattle.std.specs.Prelude.{◌≡◌, refl, ℕ, [], ◌++◌}
use Rattle.voices.specs.Calls.{Check, fine, refused, Engine, Call, call_set, call_start, call_block, call_park, call_restore, call_audition, Run}
use Rattle.voices.specs.Calls.{verdict, perform, call}

-- the bank of a run with no answers yet
abbrev pub alone : Run → Run
alone r = record { bank = r.bank; log = [] }

-- the run r with one more run after it
abbrev pub onto : Run → Run → Run
onto r one = record { bank = one.bank; log = one.log ++ r.log }

pub call_from : (E : Engine) (n : ℕ) (x : Call E.S) (r : Run) → call E n x r ≡ onto r (call E n x (alone r))
call_from E n x r = go (verdict E n x r.bank) x
  where
    go : (w : Check) (x : Call E.S) → perform E n w x r ≡ onto r (perform E n w x (alone r))
    go (refused k) x = refl
    go fine (call_set v s) = refl
    go fine (call_start v) = refl
    go fine (call_block q) = refl
    go fine (call_park written) = refl
    go fine (call_restore file lent) = refl
    go fine (call_audition q lent) = refl
