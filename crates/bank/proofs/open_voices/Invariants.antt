-- `bank::open_voices` meets its contract. The loop's invariant: after v turns the lists are those of v voices set and started, and as
-- long as they were. Each turn is `set_voice`'s contract and then `start_voice`'s.
use mathlib.Core.Path.{◌≡◌}
use Prim.Native.Nat.{ℕ}
use lib.ListN.{length}
use Rattle.filter.specs.Voice.{default_params}
use Rattle.parts.specs.Parts.{upto}
use Rattle.voices.specs.Calls.{Bank, set_of, start_of}
use Rattle.checks.specs.declared.Setup.{Setup}
use Rattle.checks.specs.Setup.{engine}
use Rattle.checks.specs.Checks.{bank_of}
use Rattle.bank.proofs.open_voices.Given as goal

abbrev pub turn : Setup → ℕ → Bank → Bank
turn s v x = start_of (engine s) s.voices v (set_of (engine s) s.voices v default_params x)

abbrev pub invariant-loop-v : goal.invariant-loop-v
invariant-loop-v l =
    (bank_of l.targets l.records l.delay 0 ≡ upto (turn l.setup) l.v (bank_of l.initial.targets l.initial.records l.initial.delay 0))
    × (length l.targets ≡ length l.initial.targets)
    × (length l.records ≡ length l.initial.records)
    × (length l.delay ≡ length l.initial.delay)
