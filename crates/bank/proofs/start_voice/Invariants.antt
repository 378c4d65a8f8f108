-- `bank::start_voice` meets its contract. The loop's invariant: after c turns the lists are those of c channels started, and as long as
-- they were. Each turn is `start_slot`'s contract.
use mathlib.Core.Path.{◌≡◌}
use Prim.Native.Nat.{ℕ}
use lib.ListN.{length}
use Rattle.parts.specs.Parts.{upto}
use Rattle.voices.specs.Calls.{start_slot}
use Rattle.checks.specs.Setup.{engine}
use Rattle.checks.specs.Checks.{bank_of}
use Rattle.bank.proofs.start_voice.Given as goal

abbrev pub invariant-loop-c : goal.invariant-loop-c
invariant-loop-c l =
    ((cur : ℕ) → bank_of l.targets l.records l.delay cur ≡ upto (start_slot (engine l.setup) l.setup.voices l.voice) l.c (bank_of l.targets l.initial.records l.initial.delay cur))
    × (length l.records ≡ length l.initial.records)
    × (length l.delay ≡ length l.initial.delay)
