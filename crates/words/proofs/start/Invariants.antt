-- `start` meets its contract. The loop's invariant: of the words left, counted from p, the last starts where it is sought. Assumes nothing.
use Rattle.std.proofs.Common.{◌≡◌, ◌-◌}
use Rattle.words.specs.Words.{word_start}
use Rattle.words.proofs.start.Given as goal

abbrev pub invariant-loop : goal.invariant-loop
invariant-loop l = word_start l.s l.p (l.k - l.counter) ≡ word_start l.s l.at l.k
