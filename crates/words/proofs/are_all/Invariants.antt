-- `are_all` meets its contract. The loop's invariant: whether the words left are all of the kind is whether all are, and p is a position.
-- Assumes nothing.
use Rattle.std.proofs.Common.{◌≡◌, ◌-◌, ◌<◌, ◌^◌}
use Rattle.words.specs.Words.{word_start, every}
use Rattle.words.proofs.are_all.Given as goal

abbrev pub invariant-loop : goal.invariant-loop
invariant-loop g l = record {
  left : every g.kind l.s l.p (l.n - l.counter) ≡ every g.kind l.s (word_start l.s l.at l.k) l.n;
  fits : l.p < 2 ^ 64;
}
