-- `unescape` meets its contract. The loop's invariant: the position is within the buffer.
use Rattle.std.proofs.Common.{length, ◌≤◌}
use Rattle.impulse_cases.proofs.unescape.Given as goal

abbrev pub invariant-loop-b : goal.invariant-loop-b
invariant-loop-b l = l.at ≤ length l.out
